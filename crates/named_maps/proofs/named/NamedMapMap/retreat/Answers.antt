use Rattle.std.proofs.Common.{ℕ, get_or, w8, Fits, rules}
use Rattle.lattice.proofs.FreeBits.{held_free}
use Rattle.named_maps.specs.Choice.{backward_of}
use Rattle.named_maps.specs.Named.{mixed_backward}
use Rattle.named_maps.specs.declared.named.NamedMap.TheVariants.{Bbm, Critters, Tron, Life2, Mixed}
use Rattle.named_maps.proofs.Chosen.{chosen}
use Rattle.named_maps.proofs.FreeBits.{mixed_free}
use Rattle.named_maps.proofs.named.NamedMapMap.retreat.Goals as goal

pub returns-in-Bbm-clause-moved : goal.returns-in-Bbm-clause-moved
returns-in-Bbm-clause-moved c = chosen backward_of _ Bbm c.in-Bbm.is _ c.bbm.ensures.backward _ _ c.retreat.ensures.moved

pub returns-in-Critters-clause-moved : goal.returns-in-Critters-clause-moved
returns-in-Critters-clause-moved c = chosen backward_of _ Critters c.in-Critters.is _ c.critters.ensures.backward _ _ c.retreat-in-Critters.ensures.moved

pub returns-in-Tron-clause-moved : goal.returns-in-Tron-clause-moved
returns-in-Tron-clause-moved c = chosen backward_of _ Tron c.in-Tron.is _ c.tron.ensures.backward _ _ c.retreat-in-Tron.ensures.moved

pub returns-in-Life2-clause-moved : goal.returns-in-Life2-clause-moved
returns-in-Life2-clause-moved c = chosen backward_of _ Life2 c.in-Life2.is _ c.life2.ensures.backward _ _ c.retreat-in-Life2.ensures.moved

pub returns-in-Mixed-clause-moved : goal.returns-in-Mixed-clause-moved
returns-in-Mixed-clause-moved c = chosen backward_of _ Mixed c.in-Mixed.is _ c.mixed.ensures.backward _ _ c.retreat-in-Mixed.ensures

pub returns-in-Mixed-clause-low : goal.returns-in-Mixed-clause-low
returns-in-Mixed-clause-low c =
    let bytes : (k : ℕ) → Fits w8 (get_or c.args.cells.now k 0) = λ k. search rules in
    held_free mixed_backward _ mixed_free.backward c.mixed.ensures.backward c.args.start.now c.retreat-in-Mixed.new.start _ _ (λ k. (bytes k).fits) c.retreat-in-Mixed.ensures
