-- The limits on every lattice.
--     max_side, max_area, max_phase    the largest of each
--     Side n                           n may be the number of columns or of rows: it is even, and from 2 to max_side
--     side_test n                      the same as a test
use Rattle.std.specs.Prelude.{◌≡◌, ℕ, ◌%◌, ◌≤◌, Bool, ◌&&◌, ◌==◌, nat_le}

abbrev pub max_side : ℕ
max_side = 256

abbrev pub max_area : ℕ
max_area = 16384

abbrev pub max_phase : ℕ
max_phase = 1

abbrev pub Side : ℕ → Type 0
Side n = (2 ≤ n) × (n ≤ max_side) × (n % 2 ≡ 0)

abbrev pub side_test : ℕ → Bool
side_test n = nat_le 2 n && nat_le n max_side && n % 2 == 0
