-- What the lift does to the two moments of a cell, its present and its past.
--     xored c a         c with a XORed into its past; for two bits, XOR is the sum without the carry
--     exchanged c       c with its past for its present, and its present for its past
--     presents w cs     the presents of the cells cs, by column and row, where a row has w cells
--     pasts w cs        their pasts
use Rattle.std.specs.Prelude.{ℕ, ◌+◌, ◌*◌, ◌/◌, ◌%◌, List}
use Rattle.lattice.specs.Cells.{cell, present, past}

abbrev pub xored : ℕ → ℕ → ℕ
xored c a = c / 4 * 4 + (past c + a) % 2 * 2 + present c

abbrev pub exchanged : ℕ → ℕ
exchanged c = c / 4 * 4 + present c * 2 + past c

abbrev pub presents : ℕ → List ℕ → ℕ → ℕ → ℕ
presents w cs x y = present (cell w cs x y)

abbrev pub pasts : ℕ → List ℕ → ℕ → ℕ → ℕ
pasts w cs x y = past (cell w cs x y)
