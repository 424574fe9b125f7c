use Rattle.std.proofs.Common.{◌&&◌, refl, ap, ◌∙◌}
use Rattle.block_map.specs.Maps.{block_backward, table_of}
use Rattle.tables.specs.Tables.{inverse_of}
use Rattle.named_maps.specs.Examples.{one_present}
use Rattle.named_maps.proofs.Worked.{worked_examples, means}
use Rattle.named_maps.proofs.examples.critters_lands.Goals as goal

pub returns : goal.returns
returns c =
    let forward = c.lands-forward.ensures.0 refl ∙ means _ _ c.critters-map.ensures.forward 1 2 0 _ one_present _ worked_examples.critters_steps_forward refl in
    let back = c.lands-back.ensures.0 refl ∙ means _ _ (ap (λ m. block_backward (inverse_of (table_of m))) c.new-reverse.ensures ∙ c.critters-map.ensures.backward) 1 2 0 _ one_present _ worked_examples.critters_steps_back refl in
    λ i. forward i && back i
