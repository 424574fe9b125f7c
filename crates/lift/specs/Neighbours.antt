-- The neighbourhood number of a cell on the torus. North is the row above, and west is the column to the left.
--     around w h p x y    the number with the bits that p has at column x and row y and in the Moore neighbourhood, on w columns and h rows. On a
--                         side of 2 some cells are neighbours in two directions, and are read in both
use Rattle.std.specs.Prelude.{ℕ, ◌+◌, ◌*◌}
use Rattle.lattice.specs.Torus.{after, before}

abbrev pub around : ℕ → ℕ → (ℕ → ℕ → ℕ) → ℕ → ℕ → ℕ
around w h p x y =
    let west = before w x in
    let east = after w x in
    let north = before h y in
    let south = after h y in
    1 * p west north + 2 * p x north + 4 * p east north + 8 * p west y + 16 * p x y + 32 * p east y + 64 * p west south + 128 * p x south + 256 * p east south
