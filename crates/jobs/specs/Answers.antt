-- What the calls on jobs return.
--     Filled cs old new            the memory goes from `old` to `new`: it begins with the cells cs, and the bytes after them are kept
--     Opens j bs o                 o is what the job j with the text bs opens with. Where its script begins follows from its records, which have only one text
--     JobOpened a bs old new r     r is the result of opening the job a, whose text is bs; the cells memory goes from `old` to `new`
--     JobAnswered j r                  r is the result of running the job j
--     JobMade j cs r               r is that, and the cells are cs afterwards
--     JobRun a old new r           r is the result of running the job a; the cells memory goes from `old` to `new`
use Rattle.std.specs.Prelude.{◌≡◌, ℕ, ◌≤◌, List, ◌++◌, length, drop, Result, Ok, Err}
use Rattle.faults.specs.declared.record.RecordFault.{RecordFault}
use Rattle.faults.specs.declared.run.RunFault.{RunFault}
use Rattle.faults.specs.declared.run.RunFault.TheVariants.{Record}
use Rattle.lattice.specs.Lattice.{Whole}
use Rattle.lattice.specs.Starts.{StartOf}
use Rattle.ledger.specs.Ledgers.{counts}
use Rattle.scripts.specs.Judgements.{script}
use Rattle.jobs.specs.Jobs.{Job, script_line}
use Rattle.jobs.specs.Outcomes.{answer, outcome}
use Rattle.jobs.specs.declared.done.Done.{Done}
use Rattle.jobs.specs.declared.opening.Opening.{Opening}

abbrev pub Filled : List ℕ → List ℕ → List ℕ → Type 0
Filled cs old new = (length cs ≤ length old) × (new ≡ cs ++ drop (length cs) old)

pub record Opens (j : Job) (bs : List ℕ) (o : Opening) : Type 0 where
  pub map : o.map ≡ j.map
  pub start : StartOf j.lattice o.start
  pub whole : Whole j.lattice
  pub line : o.script_line ≡ script_line j.lattice
  pub inside : o.script_at ≤ length bs
  pub script : script o.script_line (drop o.script_at bs) ≡ Ok j.records

abbrev pub JobOpened : Result Job RecordFault → List ℕ → List ℕ → List ℕ → Result Opening RecordFault → Type 0
JobOpened (Ok j) bs old new (Ok o) = Opens j bs o × Filled j.lattice.cells old new
JobOpened (Ok j) bs old new (Err e) = ⊥
JobOpened (Err d) bs old new (Ok o) = ⊥
JobOpened (Err d) bs old new (Err e) = (e ≡ d) × (new ≡ old)

abbrev pub JobAnswered : Job → Result Done RunFault → Type 0
JobAnswered j (Ok d) = (answer j ≡ Ok d.made) × StartOf (outcome j).lattice d.start × (d.counts ≡ counts (outcome j).ledger (outcome j).lattice.phase)
JobAnswered j (Err e) = answer j ≡ Err e

abbrev pub JobMade : Job → List ℕ → Result Done RunFault → Type 0
JobMade j cs r = JobAnswered j r × (cs ≡ (outcome j).lattice.cells)

abbrev pub JobRun : Result Job RecordFault → List ℕ → List ℕ → Result Done RunFault → Type 0
JobRun (Ok j) old new r = JobAnswered j r × Filled (outcome j).lattice.cells old new
JobRun (Err e) old new r = (r ≡ Err (Record e)) × (new ≡ old)
