-- Two tables and a rule without symmetry.
--     lopsided v       entry number v of the sample block table
--     lopsided_back    the inverse of that table
--     cycle v          entry number v of the sample cell table
--     crooked n        entry number n of the sample rule
use Rattle.std.specs.Prelude.{ℕ, ◌+◌, ◌*◌, ◌/◌, ◌%◌, List, [], ◌∷◌}

abbrev pub lopsided : ℕ → ℕ
lopsided v = (7 * v + 3) % 16

abbrev pub cycle : ℕ → ℕ
cycle v = (v + 1) % 4

abbrev pub crooked : ℕ → ℕ
crooked n = (n * n / 13 + n / 5) % 2

abbrev pub lopsided_back : List ℕ
lopsided_back = 11 ∷ 2 ∷ 9 ∷ 0 ∷ 7 ∷ 14 ∷ 5 ∷ 12 ∷ 3 ∷ 10 ∷ 1 ∷ 8 ∷ 15 ∷ 6 ∷ 13 ∷ 4 ∷ []
