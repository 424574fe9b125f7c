-- The cells of a sample, what a memory holds beforehand, and the digest of cells.
--     sample k             cell number k; a sample has fewer than 65,536
--     seven k              what cell number k of a memory holds before a board is read into it
--     mixed_in sum cell    the digest after one more cell
use Rattle.std.specs.Prelude.{ℕ, ◌+◌, ◌*◌, ◌/◌, ◌%◌}

abbrev pub sample : ℕ → ℕ
sample k = let i = k % 65536 in (i * i / 3 + 5 * i + i / 7 + 7) % 256

abbrev pub seven : ℕ → ℕ
seven k = 7 * (k % 256) % 256

abbrev pub mixed_in : ℕ → ℕ → ℕ
mixed_in sum cell = (31 * sum + cell + 1) % 65521
