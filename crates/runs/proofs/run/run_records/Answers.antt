use Rattle.std.proofs.Common.{◌∙◌, ap}
use Rattle.any_bench.specs.Scenes.{scene_of}
use Rattle.bench.specs.Benches.{map_of}
use Rattle.runs.proofs.Beginnings.{all_left}
use Rattle.runs.proofs.WholeRuns.{ran_is, ran_answer_is}
use Rattle.runs.proofs.run.run_records.Goals as goal
use Rattle.runs.specs.Runs.{at_rest}
use Rattle.runs.specs.Scenes.{rest_scene}
use Rattle.runs.specs.Steps.{ran_answer}

pub returns-clause-answer : goal.returns-clause-answer
returns-clause-answer g c rs is =
    let F = g.M.Map.forward (map_of c.args.bench) in
    let G = g.M.Map.backward (map_of c.args.bench) in
    let n = c.new-records.ensures in
    let s = rest_scene c.args.bench c.args.cells.now in
    c.make_records-answer.ensures.answer rs (all_left c.new-records.result c.args.first_line c.args.text.now rs n.text n.position n.line n.state is)
    ∙ ap (λ m. ran_answer F G m 0 s rs) n.line
    ∙ ran_answer_is F G c.args.first_line s rs

pub returns-clause-scene : goal.returns-clause-scene
returns-clause-scene g c rs is =
    let F = g.M.Map.forward in
    let G = g.M.Map.backward in
    let m = map_of c.args.bench in
    let n = c.new-records.ensures in
    let s = rest_scene c.args.bench c.args.cells.now in
    c.come_to_rest.ensures.scene
    ∙ ap (λ x. at_rest (F x) (G x) (scene_of c.make_records-answer.result.0 c.make_records-answer.new.cells)) c.make_records-answer.ensures.map
    ∙ ap (at_rest (F m) (G m)) (c.make_records-answer.ensures.scene rs (all_left c.new-records.result c.args.first_line c.args.text.now rs n.text n.position n.line n.state is) ∙ ran_is (F m) (G m) s rs)
