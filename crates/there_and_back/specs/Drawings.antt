-- A cell as it is drawn.
--     sign c     '#' for a present cell, '.' for an absent one
use Rattle.std.specs.Prelude.{ℕ, cond, ◌==◌}
use Rattle.lattice.specs.Cells.{present}

abbrev pub sign : ℕ → ℕ
sign c = cond (present c == 1) 35 46
