-- Of the answers of `open_job` and `run_job`: a fault is the first that there is. Assumes nothing.
use Rattle.std.proofs.Common.{◌≡◌, ◌↔◌, ℕ, ◌+◌, List, length, None, Some, Option, Ok, Err, Result, refl, sym, ◌∙◌, ap, subst}
use Rattle.faults.specs.declared.record.RecordFault.{RecordFault}
use Rattle.faults.specs.declared.run.BenchRefusal.{BenchRefusal}
use Rattle.faults.specs.declared.run.RunFault.{RunFault}
use Rattle.faults.specs.declared.run.RunFault.TheVariants.{Record as OfRecord, Bench}
use Rattle.named_maps.specs.Choice.{forward_of, backward_of}
use Rattle.runs.specs.Runs.{first_refused, answer_of}
use Rattle.scripts.specs.declared.record.Record.{Record}
use Rattle.jobs.proofs.JobFaults.{job_fault, job_refused}
use Rattle.jobs.proofs.JobLaws.{job_was, job_written}
use Rattle.jobs.proofs.JobParts.{job_parts}
use Rattle.jobs.proofs.RecordRefused.{Split, split, joined, answer_was}
use Rattle.jobs.specs.Answers.{JobOpened, JobAnswered, JobRun}
use Rattle.jobs.specs.Faults.{JobFault, RefusedRecord, JobRunFault}
use Rattle.jobs.specs.Jobs.{Job, script_line, job}
use Rattle.jobs.specs.Outcomes.{first_scene, answer}
use Rattle.jobs.specs.declared.done.Done.{Done}
use Rattle.jobs.specs.declared.opening.Opening.{Opening}

-- opening
not_opened : (a : Result Job RecordFault) (bs old new : List ℕ) (e : RecordFault) → JobOpened a bs old new (Err e) → a ≡ Err e
not_opened (Ok j) bs old new e opened = absurd opened
not_opened (Err d) bs old new e opened = ap Err (sym opened.0)

is_fault : (bs old new : List ℕ) (r : Result Opening RecordFault) (e : RecordFault) → JobOpened (Err e) bs old new r → r ≡ Err e
is_fault bs old new (Ok o) e opened = absurd opened
is_fault bs old new (Err d) e opened = ap Err opened.0

pub opened_first : (bs old new : List ℕ) (r : Result Opening RecordFault) → JobOpened (job (length old) bs) bs old new r → (e : RecordFault) → (r ≡ Err e) ↔ JobFault (length old) bs e
opened_first bs old new r opened e = (
  λ is. job_fault (length old) bs e (not_opened (job (length old) bs) bs old new e (subst (JobOpened (job (length old) bs) bs old new) is opened)),
  λ f. is_fault bs old new r e (subst (λ (a : Result Job RecordFault). JobOpened a bs old new r) (job_refused (length old) bs e f) opened),
)

-- a run that stops at a record
abbrev refused_in : Job → List Record → Option (ℕ × BenchRefusal)
refused_in j rs = first_refused (forward_of j.map) (backward_of j.map) (first_scene j) rs

never_of_text : (n : ℕ) (d : Option (ℕ × BenchRefusal)) (rs : List Record) (e : RecordFault) → answer_of n d rs ≡ Err (OfRecord e) → ⊥
never_of_text n None rs e is = cc (is)
never_of_text n (Some p) rs e is = cc (is)

stopped : (k : ℕ) (bs : List ℕ) (j : Job) (e : RunFault) → job k bs ≡ Ok j → answer j ≡ Err e → JobRunFault k bs e
unfolding JobRunFault
stopped k bs j (OfRecord e) is answered = absurd (never_of_text (script_line j.lattice) (refused_in j j.records) j.records e answered)
stopped k bs j (Bench c i) is answered =
    let a = answer_was (script_line j.lattice) (refused_in j j.records) j.records c i answered in
    let s : Split (forward_of j.map) (backward_of j.map) (first_scene j) j.records a.0 c = split (forward_of j.map) (backward_of j.map) (first_scene j) j.records a.0 c a.1 in
    record {
      job = j;
      is = job_was k bs j is;
      room = (job_parts k bs j is).room;
      made = s.made;
      next = s.next;
      more = s.more;
      records = s.records;
      line = a.2 ∙ ap (λ m. script_line j.lattice + m) s.count;
      accepted = s.accepted;
      refused = s.refused;
    }

run_fault : (bs old new : List ℕ) (e : RunFault) (a : Result Job RecordFault) → job (length old) bs ≡ a → JobRun a old new (Err e) → JobRunFault (length old) bs e
unfolding JobRunFault
run_fault bs old new e (Ok j) is ran = stopped (length old) bs j e is ran.0
run_fault bs old new e (Err d) is ran = let same : OfRecord d ≡ e = cc (ran.0) in subst (JobRunFault (length old) bs) same (job_fault (length old) bs d is)

told_refused : (j : Job) (r : Result Done RunFault) (e : RunFault) → answer j ≡ Err e → JobAnswered j r → r ≡ Err e
told_refused j (Ok d) e is answered = let done : answer j ≡ Ok d.made = answered.0 in absurd (cc (is, done))
told_refused j (Err d) e is answered = let stopped-at : answer j ≡ Err d = answered in cc (is, stopped-at)

is_stopped : (bs old new : List ℕ) (r : Result Done RunFault) (c : BenchRefusal) (i : ℕ) → JobRun (job (length old) bs) old new r → RefusedRecord (length old) bs c i → r ≡ Err (Bench c i)
is_stopped bs old new r c i ran f =
    let ran' : JobRun (Ok f.job) old new r = subst (λ (a : Result Job RecordFault). JobRun a old new r) (job_written (length old) bs f.job f.is f.room) ran in
    let refused : refused_in f.job f.job.records ≡ Some (length f.made, c) = ap (refused_in f.job) f.records ∙ joined (forward_of f.job.map) (backward_of f.job.map) (first_scene f.job) f.made f.next f.more c f.accepted f.refused in
    told_refused f.job r (Bench c i) (ap (λ d. answer_of (script_line f.job.lattice) d f.job.records) refused ∙ ap (λ n. Err (Bench c n)) (sym f.line)) ran'.0

run_refused : (bs old new : List ℕ) (r : Result Done RunFault) (e : RunFault) → JobRun (job (length old) bs) old new r → JobRunFault (length old) bs e → r ≡ Err e
unfolding JobRunFault
run_refused bs old new r (OfRecord e) ran f =
    let ran' : JobRun (Err e) old new r = subst (λ (a : Result Job RecordFault). JobRun a old new r) (job_refused (length old) bs e f) ran in
    ran'.0
run_refused bs old new r (Bench c i) ran f = is_stopped bs old new r c i ran f

pub run_first : (bs old new : List ℕ) (r : Result Done RunFault) → JobRun (job (length old) bs) old new r → (e : RunFault) → (r ≡ Err e) ↔ JobRunFault (length old) bs e
run_first bs old new r ran e = (
  λ is. run_fault bs old new e (job (length old) bs) refl (subst (JobRun (job (length old) bs) old new) is ran),
  λ f. run_refused bs old new r e ran f,
)
