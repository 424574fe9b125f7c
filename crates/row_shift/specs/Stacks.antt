-- What the stacks mean; t are the entries of a block table, u those of its inverse.
--     staggered_forward t    a shift to the east, the blocks by t, and a shift to the west
--     staggered_backward u   the same with the blocks back by u
--     drifting_forward t     the blocks by t, and then a shift to the west
--     drifting_backward u    a shift to the east, and then the blocks back by u
--     windy_forward          the lift of the rule whose value is the present of the western neighbour, and then a shift to the east
use Rattle.std.specs.Prelude.{ℕ, List}
use Rattle.block_map.specs.Maps.{block_forward, block_backward}
use Rattle.lattice.specs.Lattice.{Lattice}
use Rattle.layers.specs.Layers.{one_then, between}
use Rattle.lift.specs.Maps.{lift_forward}
use Rattle.rules.specs.Neighbourhoods.{bit}
use Rattle.row_shift.specs.Shifts.{row_forward, row_backward}

abbrev pub staggered_forward : List ℕ → Lattice → Lattice
staggered_forward t = between (block_forward t) row_forward row_backward

abbrev pub staggered_backward : List ℕ → Lattice → Lattice
staggered_backward u = between (block_backward u) row_forward row_backward

abbrev pub drifting_forward : List ℕ → Lattice → Lattice
drifting_forward t = one_then (block_forward t) row_backward

abbrev pub drifting_backward : List ℕ → Lattice → Lattice
drifting_backward u = one_then row_forward (block_backward u)

abbrev pub windy_forward : Lattice → Lattice
windy_forward = one_then (lift_forward (bit 3)) row_forward
