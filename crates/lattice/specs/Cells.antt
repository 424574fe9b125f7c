-- The cells of a lattice, which lie row after row, and what the byte of a cell says. Its lowest bit says whether the cell is set now, which is
-- its present, and the next bit whether it was set before, which is its past. Six bits are free.
--     cell w cs x y          the cell of column x and row y, where a row has w cells
--     present c              the present of the cell c
--     past c                 its past
--     with_present c b       c with b for its present
--     by_place w h f         the cells that have f x y at column x and row y, in h rows of w cells
--     OnlyBelow n old new    no cell differs in a bit that weighs n or more: at most presents change if n is 2, and also pasts if n is 4
use Rattle.std.specs.Prelude.{◌≡◌, ℕ, ◌+◌, ◌*◌, ◌/◌, ◌%◌, List, map, slice_index}
use Rattle.std.specs.List.{range_with_len}

abbrev pub cell : ℕ → List ℕ → ℕ → ℕ → ℕ
cell w cs x y = slice_index cs (y * w + x)

abbrev pub present : ℕ → ℕ
present c = c % 2

abbrev pub past : ℕ → ℕ
past c = c / 2 % 2

abbrev pub with_present : ℕ → ℕ → ℕ
with_present c b = c / 2 * 2 + b

abbrev pub by_place : ℕ → ℕ → (ℕ → ℕ → ℕ) → List ℕ
by_place w h f = map (λ k. f (k % w) (k / w)) (range_with_len 0 (w * h))

abbrev pub OnlyBelow : ℕ → List ℕ → List ℕ → Type 0
OnlyBelow n old new = (k : ℕ) → slice_index new k / n ≡ slice_index old k / n
