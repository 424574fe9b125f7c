-- What the program `lab` prints for a job.
--     fault_line e           the line that reports the fault e
--     printed_then a s       what is printed if a run returns a and leaves s: its line and the board, or the line of its fault
--     printed_of_job j       what is printed for the job j
--     printed_by a           what is printed for the job a, or the line of the fault that it is instead
--     printed_for k bs       what is printed for the text bs, if the cells memory has k bytes
--     lab_text bs            what is printed for it, if the memory has room for the cells of every lattice
use Rattle.std.specs.Prelude.{ℕ, List, ◌++◌, Result, Ok, Err}
use Rattle.any_bench.specs.Scenes.{Scene}
use Rattle.boards.specs.Boards.{board_text}
use Rattle.faults.specs.Reports.{run_report}
use Rattle.faults.specs.Texts.{report_text}
use Rattle.faults.specs.declared.record.RecordFault.{RecordFault}
use Rattle.faults.specs.declared.run.RunFault.{RunFault}
use Rattle.faults.specs.declared.run.RunFault.TheVariants.{Record}
use Rattle.jobs.specs.Jobs.{Job, job}
use Rattle.jobs.specs.Outcomes.{answer, outcome}
use Rattle.jobs.specs.Texts.{done_text}
use Rattle.lattice.specs.Limits.{max_area}
use Rattle.ledger.specs.Ledgers.{counts}
use Rattle.text.specs.Lines.{ended}

abbrev pub fault_line : RunFault → List ℕ
fault_line e = ended (report_text (run_report e))

abbrev pub printed_then : Result ℕ RunFault → Scene → List ℕ
printed_then (Ok n) s = ended (done_text n (counts s.ledger s.lattice.phase)) ++ board_text s.lattice
printed_then (Err e) s = fault_line e

abbrev pub printed_of_job : Job → List ℕ
printed_of_job j = printed_then (answer j) (outcome j)

abbrev pub printed_by : Result Job RecordFault → List ℕ
printed_by (Ok j) = printed_of_job j
printed_by (Err e) = fault_line (Record e)

abbrev pub printed_for : ℕ → List ℕ → List ℕ
printed_for k bs = printed_by (job k bs)

abbrev pub lab_text : List ℕ → List ℕ
lab_text bs = printed_for max_area bs
