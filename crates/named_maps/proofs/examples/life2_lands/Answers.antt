use Rattle.std.proofs.Common.{◌&&◌, refl, ◌∙◌}
use Rattle.named_maps.specs.Examples.{in_the_corner}
use Rattle.named_maps.proofs.Worked.{worked_examples, means}
use Rattle.named_maps.proofs.examples.life2_lands.Goals as goal

pub returns : goal.returns
returns c =
    let is = c.life2-map.ensures.forward in
    let one = c.lands-one.ensures.0 refl ∙ means _ _ is 1 4 0 _ (in_the_corner 1) _ (worked_examples.life2_remembers_a_block 0) refl in
    let two = c.lands-two.ensures.0 refl ∙ means _ _ is 2 4 0 _ (in_the_corner 1) _ (worked_examples.life2_forgets_its_present 0) refl in
    let three = c.lands-three.ensures.0 refl ∙ means _ _ is 3 4 1 _ (in_the_corner 1) _ (worked_examples.life2_comes_round 1) refl in
    λ i. (one i && two i) && three i
