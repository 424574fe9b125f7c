-- The parts that a layer is made of.
--     first_of m, second_of m     of `Then`: the map that moves first in a move forward, and the other
--     reversed_of m               of `Reverse`: its map
--     conjugated_of m, by_of m    of `Conjugate`: the map that is conjugated, and the one that it is conjugated by
--     repeated_of m, count_of m   of `Times`: its map and its count
use Rattle.layers.specs.declared.conjugate.Conjugate.{Conjugate}
use Rattle.layers.specs.declared.count.Count.{Count}
use Rattle.layers.specs.declared.reverse.Reverse.{Reverse}
use Rattle.layers.specs.declared.then.Then.{Then}
use Rattle.layers.specs.declared.times.Times.{Times}

module _ {A : Type 0} where
  abbrev pub reversed_of : Reverse A → A
  reversed_of m = m.inner

  abbrev pub repeated_of : Times A → A
  repeated_of m = m.inner

  abbrev pub count_of : Times A → Count
  count_of m = m.count

module _ {A B : Type 0} where
  abbrev pub first_of : Then A B → A
  first_of m = m.first

  abbrev pub second_of : Then A B → B
  second_of m = m.second

  abbrev pub conjugated_of : Conjugate A B → A
  conjugated_of m = m.inner

  abbrev pub by_of : Conjugate A B → B
  by_of m = m.by
