-- A job that was opened and run, in the first cells of a memory. Assumes nothing.
use Rattle.std.proofs.Common.{◌≡◌, ℕ, ◌*◌, ◌≤◌, List, ◌++◌, length, take, drop, Ok, Err, Result, arith, refl, sym, ◌∙◌, ap, ap₂, subst}
use Rattle.std.proofs.lemmas.List.{take_at, drop_at}
use Rattle.faults.specs.declared.record.RecordFault.{RecordFault}
use Rattle.faults.specs.declared.run.RunFault.{RunFault}
use Rattle.lattice.specs.Lattice.{Lattice}
use Rattle.lattice.specs.Starts.{width_of, height_of}
use Rattle.jobs.specs.Answers.{Filled, Opens, JobOpened, JobMade, JobRun}
use Rattle.jobs.specs.Jobs.{Job}
use Rattle.jobs.specs.Outcomes.{outcome}
use Rattle.jobs.specs.Steps.{OpenedOn}
use Rattle.jobs.specs.declared.done.Done.{Done}
use Rattle.jobs.specs.declared.opening.Opening.{Opening}

-- the job that was opened
pub record WasOpened (a : Result Job RecordFault) (bs old new : List ℕ) (o : Opening) : Type 0 where
  pub job : Job
  pub is : a ≡ Ok job
  pub opens : Opens job bs o
  pub filled : Filled job.lattice.cells old new

was_at : (a b : Result Job RecordFault) (bs old new : List ℕ) (o : Opening) → a ≡ b → JobOpened b bs old new (Ok o) → WasOpened a bs old new o
was_at a (Ok j) bs old new o is f = record { job = j; is = is; opens = f.0; filled = f.1 }
was_at a (Err e) bs old new o is f = absurd f

module _ (a : Result Job RecordFault) (bs old mid : List ℕ) (o : Opening) (n : ℕ) (found : JobOpened a bs old mid (Ok o)) (count : n ≡ width_of o.start * height_of o.start) where
  was : WasOpened a bs old mid o
  was = was_at a a bs old mid o refl found

  counted : n ≡ length was.job.lattice.cells
  counted =
      count ∙ ap₂ (λ w h. w * h) (ap (λ (l : Lattice). l.width) was.opens.start) (ap (λ (l : Lattice). l.height) was.opens.start)
      ∙ sym was.opens.whole

  first_cells : take n mid ≡ was.job.lattice.cells
  first_cells = ap (take n) was.filled.1 ∙ take_at was.job.lattice.cells (drop (length was.job.lattice.cells) old) n (sym counted)

  pub asks : OpenedOn bs o (take n mid)
  asks = record { job = was.job; opens = was.opens; cells = first_cells }

  other_cells : drop n mid ≡ drop n old
  other_cells =
      ap (drop n) was.filled.1 ∙ drop_at was.job.lattice.cells (drop (length was.job.lattice.cells) old) n (sym counted)
      ∙ ap (λ m. drop m old) (sym counted)

  pub job_ran : (part : List ℕ) (r : Result Done RunFault) → length part ≡ length (take n mid) → ((j : Job) → Opens j bs o → take n mid ≡ j.lattice.cells → JobMade j part r) → JobRun a old (part ++ drop n mid) r
  job_ran part r len made =
      let m = made was.job was.opens first_cells in
      let len' : length (outcome was.job).lattice.cells ≡ n = ap length (sym m.1) ∙ len ∙ ap length first_cells ∙ sym counted in
      let room : length (outcome was.job).lattice.cells ≤ length old = omega (arith, len', counted, was.filled.0) in
      let is : part ++ drop n mid ≡ (outcome was.job).lattice.cells ++ drop (length (outcome was.job).lattice.cells) old =
      ap₂ (λ x y. x ++ y) m.1 (other_cells ∙ ap (λ k. drop k old) (sym len'))
      in
      subst (λ (b : Result Job RecordFault). JobRun b old (part ++ drop n mid) r) (sym was.is) (m.0, (room, is))
