-- Neighbourhood numbers: the presents of the Moore neighbourhood and of the cell itself, a bit each, in reading order. Bits 0 to 2 are the row
-- above, bits 3 to 5 the cell's own row, bits 6 to 8 the row below, each row from west to east; so bit 4 is the cell itself.
--     number_of a     the number that a holds
--     bit k n         bit k of the number n
--     centre n        the present of the cell itself
--     neighbours n    how many of the eight others are present
use Rattle.std.specs.Prelude.{ℕ, ◌+◌, ◌/◌, ◌%◌, ◌^◌}
use Rattle.rules.specs.declared.neighbourhood.Neighbourhood.{Neighbourhood}

abbrev pub number_of : Neighbourhood → ℕ
number_of a = a.number

abbrev pub bit : ℕ → ℕ → ℕ
bit k n = n / 2 ^ k % 2

abbrev pub centre : ℕ → ℕ
centre n = bit 4 n

abbrev pub neighbours : ℕ → ℕ
neighbours n = bit 0 n + bit 1 n + bit 2 n + bit 3 n + bit 5 n + bit 6 n + bit 7 n + bit 8 n
