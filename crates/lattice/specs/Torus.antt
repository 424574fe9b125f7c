-- Coordinates on a torus, where the last one is followed by the first.
--     after n x      the coordinate after x, on a side of n
--     before n x     the coordinate before x
use Rattle.std.specs.Prelude.{ℕ, ◌+◌, ◌-◌, cond, ◌==◌}

abbrev pub after : ℕ → ℕ → ℕ
after n x = cond (x + 1 == n) 0 (x + 1)

abbrev pub before : ℕ → ℕ → ℕ
before n x = cond (x == 0) (n - 1) (x - 1)
