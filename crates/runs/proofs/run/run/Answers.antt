use Rattle.std.proofs.Common.{refl, sym, subst}
use Rattle.bench.specs.Benches.{map_of}
use Rattle.runs.proofs.StandingRuns.{run_rests_on, run_lived}
use Rattle.runs.proofs.run.run.Goals as goal
use Rattle.runs.specs.Runs.{asked}
use Rattle.runs.specs.Scenes.{rest_scene}
use Rattle.runs.specs.Standing.{HasLived, RestsOn}

pub returns-clause-stands : goal.returns-clause-stands
returns-clause-stands g c l inside lived =
    let m = map_of c.args.bench in
    let s = rest_scene c.args.bench c.args.cells.now in
    subst (RestsOn (g.M.Map.forward m) (g.M.Map.backward m) l) (sym c.run_checked.ensures.scene)
    (run_rests_on (g.M.Map.forward m) (g.M.Map.backward m) (g.met.M.Map.laws m) l inside s (asked s.lattice c.args.first_line c.args.text.now) refl lived)

pub returns-clause-lived : goal.returns-clause-lived
returns-clause-lived g c l lived =
    let m = map_of c.args.bench in
    let s = rest_scene c.args.bench c.args.cells.now in
    subst (HasLived (g.M.Map.forward m) (g.M.Map.backward m) l) (sym c.run_checked.ensures.scene)
    (run_lived (g.M.Map.forward m) (g.M.Map.backward m) l s (asked s.lattice c.args.first_line c.args.text.now) lived)
