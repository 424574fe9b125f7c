use Rattle.std.proofs.Common.{◌≡◌, take, drop, refl, sym, ap, ap₂, ◌∙◌, subst}
use Rattle.std.proofs.lemmas.List.{take_at}
use Rattle.any_bench.specs.AnyBenches.{any_ledger, any_handed}
use Rattle.bench.specs.Benches.{ledger_of, handed}
use Rattle.lattice.specs.Starts.{held}
use Rattle.ledger.proofs.Sound.{Sound}
use Rattle.ledger.specs.Effects.{standing_for}
use Rattle.ledger.specs.Homes.{home_script}
use Rattle.ledger.specs.Ledgers.{at_opening, counts}
use Rattle.lives.proofs.WaysHome.{leads_home, comes_alike, begins}
use Rattle.lives.proofs.way_back.go_back.Goals as goal
use Rattle.lives.specs.WaysBack.{begun, Home}
use Rattle.runs.specs.Runs.{run_answer, run_scene}
use Rattle.runs.specs.Scenes.{rest_scene}

pub returns : goal.returns
returns g c l within whole sound held_is =
    let F = g.M.Map.forward in
    let G = g.M.Map.backward in
    let m = c.args.map.now in
    let laws = g.met.M.Map.laws m in
    let b = c.in-Rest.bench in
    let led = ledger_of b in
    let same : any_ledger c.args.bench ≡ led = ap any_ledger c.in-Rest.is in
    let sound' : Sound l.width l.height led = subst (Sound l.width l.height) same sound in
    let here : handed b c.args.cells.now ≡ standing_for (F m) (G m) led l = ap (λ x. any_handed x c.args.cells.now) (sym c.in-Rest.is) ∙ held_is ∙ ap (λ x. standing_for (F m) (G m) x l) same in
    let w = c.in-Ok.ensures.answer in
    let n = c.new.ensures in
    let r = c.run-answer.ensures in
    let third = c.run-answer.result.0 in
    let nb = c.new.result in
    let copy = c.copy_from_slice.new.self in
    let text = take c.in-Ok.len c.reverse_script.new.memory in
    let hs = home_script led.standing in
    let text_is : text ≡ hs = ap (take c.in-Ok.len) w.2 ∙ take_at hs (drop c.in-Ok.len c.args.script.now) c.in-Ok.len (sym w.0) in
    let first : rest_scene nb copy ≡ record { ledger = at_opening; lattice = standing_for (F m) (G m) led l } =
    begins (ledger_of nb) (handed nb copy) (standing_for (F m) (G m) led l) n.ledger (ap₂ held (n.start ∙ c.start.ensures) c.copy_from_slice.ensures.after ∙ here)
    in
    let ran : c.run-answer.result.1 ≡ run_answer (F m) (G m) (begun (F m) (G m) l led) 1 hs =
    r.answer ∙ ap₂ (λ x k. run_answer (F x) (G x) (rest_scene nb copy) k text) n.map c.first.ensures ∙ ap₂ (λ x y. run_answer (F m) (G m) x 1 y) first text_is
    in
    let went : rest_scene third c.run-answer.new.cells ≡ run_scene (F m) (G m) (begun (F m) (G m) l led) 1 hs =
    r.scene ∙ ap₂ (λ x k. run_scene (F x) (G x) (rest_scene nb copy) k text) n.map c.first.ensures ∙ ap₂ (λ x y. run_scene (F m) (G m) x 1 y) first text_is
    in
    let leads = leads_home (F m) (G m) laws l within whole led sound' refl in
    let start = ap (λ x. held x c.run-answer.new.cells) c.start-2.ensures in
    let is_home : Home (F m) (G m) l led c.args.script.now c.reverse_script.new.memory c.run-answer.new.cells (record { script_len = c.in-Ok.len; answer = c.run-answer.result.1; start = c.start-2.result; counts = c.counts.result }) = record {
      rests = refl;
      len = w.0;
      room = w.1;
      script = w.2;
      ran = ran;
      came_to = start ∙ ap (λ x. x.lattice) went;
      comes = comes_alike l led _ _ _ _ _ _ ran (start ∙ ap (λ x. x.lattice) went) (c.counts.ensures.numbers ∙ ap (λ x. counts x.ledger x.lattice.phase) went) leads.comes;
    } in
    subst (λ x. Home (F m) (G m) l x c.args.script.now c.reverse_script.new.memory c.run-answer.new.cells (record { script_len = c.in-Ok.len; answer = c.run-answer.result.1; start = c.start-2.result; counts = c.counts.result })) (sym same) is_home
