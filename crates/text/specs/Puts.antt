-- Bytes written into a memory.
--     put_at m a xs     the memory m after the bytes xs are written at place a
use Rattle.std.specs.Prelude.{ℕ, ◌+◌, List, ◌++◌, length, take, drop}

abbrev pub put_at : List ℕ → ℕ → List ℕ → List ℕ
put_at m a xs = take a m ++ (xs ++ drop (a + length xs) m)
