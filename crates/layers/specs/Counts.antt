-- How many moves one move of `Times` consists of.
--     number_of c    the number that the count c holds
use Rattle.std.specs.Prelude.{ℕ}
use Rattle.layers.specs.declared.count.Count.{Count}

abbrev pub number_of : Count → ℕ
number_of c = c.number
