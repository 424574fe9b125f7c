-- Local rules, as functions of the neighbourhood number.
--     Binary f                     f is 0 or 1 for every neighbourhood
--     count_answer b s n           the outer totalistic rule with the masks b and s: the number of present neighbours picks a bit, of b if the cell
--                                  itself is absent (the cell is born or not) and of s if it is present (it survives or not)
--     life                         Life, B3/S23: birth with 3 present neighbours, survival with 2 or 3
--     birth_of r, survival_of r    the masks of the count rule r
--     entries_of r                 the entries of the table rule r
--     entry_of es n                entry n of a table
--     table_answer r n             the table rule: entry n of its table
--     SameAnswers f g              f and g are the same for every neighbourhood
use Rattle.std.specs.Prelude.{◌≡◌, ℕ, ◌<◌, cond, List, ◌==◌, slice_index}
use Rattle.rules.specs.Limits.{neighbourhoods}
use Rattle.rules.specs.Neighbourhoods.{bit, centre, neighbours}
use Rattle.rules.specs.declared.count.CountRule.{CountRule}
use Rattle.rules.specs.declared.table.TableRule.{TableRule}

abbrev pub Binary : (ℕ → ℕ) → Type 0
Binary f = (n : ℕ) → n < neighbourhoods → f n < 2

abbrev pub count_answer : ℕ → ℕ → ℕ → ℕ
count_answer b s n = bit (neighbours n) (cond (centre n == 1) s b)

abbrev pub life : ℕ → ℕ
life = count_answer 8 12

abbrev pub birth_of : CountRule → ℕ
birth_of r = r.birth

abbrev pub survival_of : CountRule → ℕ
survival_of r = r.survival

abbrev pub entries_of : TableRule → List ℕ
entries_of r = r.entries

abbrev pub entry_of : List ℕ → ℕ → ℕ
entry_of es n = slice_index es n

abbrev pub table_answer : TableRule → ℕ → ℕ
table_answer r = entry_of (entries_of r)

abbrev pub SameAnswers : (ℕ → ℕ) → (ℕ → ℕ) → Type 0
SameAnswers f g = (n : ℕ) → n < neighbourhoods → f n ≡ g n
