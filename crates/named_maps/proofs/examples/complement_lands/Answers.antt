use Rattle.std.proofs.Common.{refl, ◌∙◌}
use Rattle.named_maps.specs.Examples.{all_kinds}
use Rattle.named_maps.proofs.Worked.{worked_examples, means}
use Rattle.named_maps.proofs.examples.complement_lands.Goals as goal

pub returns : goal.returns
returns c = c.lands.ensures.0 refl ∙ means _ _ c.complement.ensures 1 2 1 _ all_kinds _ (worked_examples.complement_turns_every_cell 1) refl
