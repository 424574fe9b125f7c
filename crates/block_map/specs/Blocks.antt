-- The Margolus neighbourhood: the blocks of two by two cells into which a phase divides the torus, and what a table makes of them.
-- Here w and h are the sides, p is the phase, cs are the cells, x and y a column and a row, and t is the table.
--     offset p x                   along one axis: 0 if x is the first of its block, 1 if it is the second
--     corner n p x                 along an axis of n: the first of x's block
--     block_number w h cs x y      the presents of the block with the corner (x, y), as one number from 0 to 15
--     bit i j e                    what the number e has for the present at offset i in column and j in row
--     rewritten t w h p cs x y     the new value of the cell of column x and row y, from the cells before
use Rattle.std.specs.Prelude.{ℕ, ◌+◌, ◌*◌, ◌/◌, ◌%◌, ◌^◌, cond, List, ◌==◌, slice_index}
use Rattle.lattice.specs.Cells.{cell, present, with_present}
use Rattle.lattice.specs.Torus.{after, before}

abbrev pub offset : ℕ → ℕ → ℕ
offset p x = (x + p) % 2

abbrev pub corner : ℕ → ℕ → ℕ → ℕ
corner n p x = cond (offset p x == 0) x (before n x)

abbrev pub block_number : ℕ → ℕ → List ℕ → ℕ → ℕ → ℕ
block_number w h cs x y =
    present (cell w cs x y)
    + 2 * present (cell w cs (after w x) y)
    + 4 * present (cell w cs x (after h y))
    + 8 * present (cell w cs (after w x) (after h y))

abbrev pub bit : ℕ → ℕ → ℕ → ℕ
bit i j e = e / 2 ^ (i + 2 * j) % 2

abbrev pub rewritten : List ℕ → ℕ → ℕ → ℕ → List ℕ → ℕ → ℕ → ℕ
rewritten t w h p cs x y =
    with_present (cell w cs x y) (bit (offset p x) (offset p y) (slice_index t (block_number w h cs (corner w p x) (corner h p y))))
