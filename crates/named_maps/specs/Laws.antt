-- The two functions of each named map undo each other and keep what a map has to keep. Assumes nothing.
use Rattle.std.specs.Prelude.{refl}
use Rattle.lattice.specs.Maps.{Reversible}
use Rattle.tables.specs.Inverses.{InvertedBy}
use Rattle.tables.specs.Names.{bbm, critters, critters_back, tron, exchange}
use Rattle.tables.proofs.Tested.{inverted_by_test}
use Rattle.block_map.specs.Laws.{block_laws}
use Rattle.cell_map.specs.Laws.{cell_laws}
use Rattle.rules.specs.Rules.{life}
use Rattle.lift.specs.Laws.{lift_laws}
use Rattle.layers.specs.Laws.{then_laws, between_laws, repeated_laws}
use Rattle.named_maps.specs.Choice.{forward_of, backward_of}
use Rattle.named_maps.specs.Named.{bbm_forward, bbm_backward, life2_forward, life2_backward, exchange_forward, exchange_backward}
use Rattle.named_maps.specs.declared.named.NamedMap.{NamedMap}
use Rattle.named_maps.specs.declared.named.NamedMap.TheVariants.{Bbm, Critters, Tron, Life2, Mixed}

bbm_twice : InvertedBy 16 bbm bbm
bbm_twice = inverted_by_test 16 bbm bbm refl

critters_there : InvertedBy 16 critters critters_back
critters_there = inverted_by_test 16 critters critters_back refl

critters_home : InvertedBy 16 critters_back critters
critters_home = inverted_by_test 16 critters_back critters refl

tron_twice : InvertedBy 16 tron tron
tron_twice = inverted_by_test 16 tron tron refl

pub exchange_twice : InvertedBy 4 exchange exchange
exchange_twice = inverted_by_test 4 exchange exchange refl

pub bbm_laws : Reversible bbm_forward bbm_backward
bbm_laws = block_laws bbm bbm bbm_twice bbm_twice

pub life2_laws : Reversible life2_forward life2_backward
life2_laws = lift_laws life

pub exchange_laws : Reversible exchange_forward exchange_backward
exchange_laws = cell_laws exchange exchange exchange_twice exchange_twice

pub laws_of : (n : NamedMap) → Reversible (forward_of n) (backward_of n)
laws_of Bbm = bbm_laws
laws_of Critters = block_laws critters critters_back critters_there critters_home
laws_of Tron = block_laws tron tron tron_twice tron_twice
laws_of Life2 = life2_laws
laws_of Mixed = repeated_laws 3 (then_laws bbm_laws (between_laws life2_laws exchange_laws))
