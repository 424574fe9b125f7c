-- What is printed for a job that was made. Assumes nothing.
use Rattle.std.proofs.Common.{◌≡◌, ℕ, ◌*◌, ◌≤◌, List, ◌++◌, length, take, drop, Ok, Err, Result, arith, refl, sym, ◌∙◌, ap, ap₂, subst}
use Rattle.std.proofs.lemmas.List.{take_at, length-append}
use Rattle.boards.specs.Boards.{board_text}
use Rattle.faults.specs.declared.record.RecordFault.{RecordFault}
use Rattle.jobs.proofs.JobsStand.{outcome_whole}
use Rattle.jobs.specs.Answers.{Filled, JobAnswered, JobRun}
use Rattle.jobs.specs.Jobs.{Job, job}
use Rattle.jobs.specs.Outcomes.{outcome}
use Rattle.jobs.specs.Texts.{done_text}
use Rattle.jobs.specs.declared.done.Done.{Done}
use Rattle.lattice.specs.Lattice.{Lattice, Whole}
use Rattle.lattice.specs.Starts.{width_of, height_of, held}
use Rattle.text.specs.Lines.{ended}
use Rattle.job_texts.specs.Texts.{printed_then, printed_by, printed_for}

-- the job that was made
record Made (k : ℕ) (bs old new : List ℕ) (d : Done) : Type 0 where
  pub made : Job
  pub is : job k bs ≡ Ok made
  pub answered : JobAnswered made (Ok d)
  pub filled : Filled (outcome made).lattice.cells old new

made_at : (k : ℕ) (bs old new : List ℕ) (d : Done) (a : Result Job RecordFault) → job k bs ≡ a → JobRun a old new (Ok d) → Made k bs old new d
made_at k bs old new d (Ok j) is ran = record { made = j; is = is; answered = ran.0; filled = ran.1 }
made_at k bs old new d (Err e) is ran = absurd cc

module _ (k : ℕ) (bs old new : List ℕ) (d : Done) (n : ℕ) (ran : JobRun (job k bs) old new (Ok d)) (count : n ≡ width_of d.start * height_of d.start) where
  abbrev made : Made k bs old new d
  made = made_at k bs old new d (job k bs) refl ran

  abbrev lattice : Lattice
  lattice = (outcome made.made).lattice

  whole : Whole lattice
  whole = outcome_whole k bs made.made made.is

  counted : n ≡ length lattice.cells
  counted = count ∙ ap₂ (λ w h. w * h) (ap (λ (l : Lattice). l.width) made.answered.1) (ap (λ (l : Lattice). l.height) made.answered.1) ∙ sym whole

  pub cells_inside : n ≤ length new
  cells_inside = omega (arith, counted, ap length made.filled.1, length-append lattice.cells (drop (length lattice.cells) old))

  held_is : held d.start (take n new) ≡ lattice
  held_is = ap (held d.start) (ap (take n) made.filled.1 ∙ take_at lattice.cells (drop (length lattice.cells) old) n (sym counted)) ∙ made.answered.1

  pub whole_held : Whole (held d.start (take n new))
  whole_held = subst Whole (sym held_is) whole

  pub text_is : ended (done_text d.made d.counts) ++ board_text (held d.start (take n new)) ≡ printed_for k bs
  text_is =
      ap₂ (λ c l. ended (done_text d.made c) ++ board_text l) made.answered.2 held_is
      ∙ sym (ap printed_by made.is ∙ ap (λ a. printed_then a (outcome made.made)) made.answered.0)
