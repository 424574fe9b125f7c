use Rattle.std.proofs.Common.{◌&&◌, refl, ◌∙◌}
use Rattle.named_maps.specs.Examples.{one_present, one_marked}
use Rattle.named_maps.proofs.Worked.{worked_examples, means}
use Rattle.named_maps.proofs.examples.bbm_lands.Goals as goal

pub returns : goal.returns
returns c =
    let is = c.bbm-map.ensures.forward in
    let across = c.lands-across.ensures.0 refl ∙ means _ _ is 1 2 0 _ one_present _ worked_examples.bbm_crosses_its_block refl in
    let round = c.lands-round.ensures.0 refl ∙ means _ _ is 2 2 0 _ one_present _ worked_examples.bbm_comes_round refl in
    let marked = c.lands-marked.ensures.0 refl ∙ means _ _ is 1 2 0 _ one_marked _ worked_examples.bbm_leaves_the_free_bits refl in
    λ i. (across i && round i) && marked i
