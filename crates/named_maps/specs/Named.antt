-- The named maps: what each does to a lattice, forward and backward.
--     bbm_forward, bbm_backward           the billiard ball model; likewise critters and tron
--     life2_forward, life2_backward       the lift of Life
--     exchange_forward, exchange_backward the cell map of the table exchange, which makes pasts of presents and presents of pasts
--     mixed_forward, mixed_backward       three rounds, each of bbm and then of life2 conjugated by the exchange; and the way back
use Rattle.lattice.specs.Lattice.{Lattice}
use Rattle.lattice.specs.Maps.{repeated}
use Rattle.tables.specs.Names.{bbm, critters, critters_back, tron, exchange}
use Rattle.block_map.specs.Maps.{block_forward, block_backward}
use Rattle.cell_map.specs.Maps.{cell_moved}
use Rattle.rules.specs.Rules.{life}
use Rattle.lift.specs.Maps.{lift_forward, lift_backward}
use Rattle.layers.specs.Layers.{one_then, between}

abbrev pub bbm_forward : Lattice → Lattice
bbm_forward = block_forward bbm

abbrev pub bbm_backward : Lattice → Lattice
bbm_backward = block_backward bbm

abbrev pub critters_forward : Lattice → Lattice
critters_forward = block_forward critters

abbrev pub critters_backward : Lattice → Lattice
critters_backward = block_backward critters_back

abbrev pub tron_forward : Lattice → Lattice
tron_forward = block_forward tron

abbrev pub tron_backward : Lattice → Lattice
tron_backward = block_backward tron

abbrev pub life2_forward : Lattice → Lattice
life2_forward = lift_forward life

abbrev pub life2_backward : Lattice → Lattice
life2_backward = lift_backward life

abbrev pub exchange_forward : Lattice → Lattice
exchange_forward = cell_moved exchange

abbrev pub exchange_backward : Lattice → Lattice
exchange_backward = cell_moved exchange

abbrev pub mixed_forward : Lattice → Lattice
mixed_forward = repeated 3 (one_then bbm_forward (between life2_forward exchange_forward exchange_backward))

abbrev pub mixed_backward : Lattice → Lattice
mixed_backward = repeated 3 (one_then (between life2_backward exchange_forward exchange_backward) bbm_backward)
