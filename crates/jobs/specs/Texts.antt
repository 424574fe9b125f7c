-- What is printed for a job whose records were all made.
--     done_text n c     the word `done` and, each after a tab and in decimal, four numbers: n, the number of records that were made; and of the counts c
--                       the clock, the number of actions that stand, and that of undone ones
use Rattle.std.specs.Prelude.{List, ℕ, ℤ, ◌++◌, codes}
use Rattle.std.specs.Fmt.{decimal, signed_decimal}

abbrev pub done_text : ℕ → (ℕ × ℕ × ℤ × ℕ) → List ℕ
done_text n c = codes "done\t" ++ decimal n ++ codes "\t" ++ signed_decimal c.2 ++ codes "\t" ++ decimal c.0 ++ codes "\t" ++ decimal c.1
