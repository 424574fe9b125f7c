-- After a job is run, its board is held, changed by the actions that stand. Assumes nothing.
use Rattle.std.proofs.Common.{◌≡◌, ℕ, ◌≤◌, List, length, Ok, Err, Result, IfOk, refl, sym, subst}
use Rattle.faults.specs.declared.record.RecordFault.{RecordFault}
use Rattle.faults.specs.declared.run.RunFault.{RunFault}
use Rattle.lattice.proofs.Wholes.{same_shape_whole}
use Rattle.lattice.specs.Lattice.{Lattice, Whole, Within}
use Rattle.lattice.specs.Starts.{StartOf}
use Rattle.ledger.proofs.Shapes.{standing_shape}
use Rattle.named_maps.specs.Choice.{forward_of, backward_of}
use Rattle.named_maps.specs.Laws.{laws_of}
use Rattle.runs.proofs.StandingRuns.{Stands, stands_opened, run_stands, run_rests}
use Rattle.scripts.specs.declared.state.State.TheVariants.{Rest}
use Rattle.jobs.proofs.JobLaws.{job_was, job_written}
use Rattle.jobs.specs.Answers.{Filled, JobAnswered, JobRun}
use Rattle.jobs.specs.Jobs.{Job, job}
use Rattle.jobs.specs.Laws.{IsJob, standing_board, StandsOn}
use Rattle.jobs.specs.Outcomes.{first_scene, outcome}
use Rattle.jobs.specs.declared.done.Done.{Done}

pub outcome_stands : (j : Job) → Within j.lattice → Stands (forward_of j.map) (backward_of j.map) j.lattice (outcome j)
outcome_stands j within = run_stands (forward_of j.map) (backward_of j.map) (laws_of j.map) j.lattice within (first_scene j) (Ok j.records) (stands_opened (forward_of j.map) (backward_of j.map) j.lattice)

pub outcome_rests : (j : Job) → (outcome j).ledger.state ≡ Rest
outcome_rests j = run_rests (forward_of j.map) (backward_of j.map) (first_scene j) (Ok j.records) refl

start_stands : (j : Job) (r : Result Done RunFault) → JobAnswered j r → (outcome j).lattice ≡ standing_board j → IfOk r (λ d. StartOf (standing_board j) d.start)
start_stands j (Err e) answered is = tt
start_stands j (Ok d) answered is = subst (λ (m : Lattice). StartOf m d.start) is answered.1

pub job_stands : (bs old new : List ℕ) (r : Result Done RunFault) (j : Job) → JobRun (job (length old) bs) old new r → IsJob j bs → length j.lattice.cells ≤ length old → StandsOn j old new r
unfolding StandsOn
job_stands bs old new r j ran is room =
    let run : JobRun (Ok j) old new r = subst (λ (a : Result Job RecordFault). JobRun a old new r) (job_written (length old) bs j is room) ran in
    let stands = outcome_stands j is.within in
    (outcome_rests j, stands.sound.at_rest (outcome_rests j), subst (λ (m : Lattice). Filled m.cells old new) stands.held run.1, start_stands j r run.0 stands.held)

-- the lattice that is held has a cell for each column of each row
pub outcome_whole : (k : ℕ) (bs : List ℕ) (j : Job) → job k bs ≡ Ok j → Whole (outcome j).lattice
outcome_whole k bs j is =
    let l = job_was k bs j is in
    let stands = outcome_stands j l.within in
    let shape = standing_shape (forward_of j.map) (backward_of j.map) (laws_of j.map) j.lattice.width j.lattice.height (outcome j).ledger j.lattice stands.sound l.within in
    subst Whole (sym stands.held) (same_shape_whole j.lattice (standing_board j) shape l.whole)
