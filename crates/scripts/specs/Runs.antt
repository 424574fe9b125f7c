-- What a run of a script checks before its first record.
--     risen a              the result a, with a record's fault made a run's
--     run_check s cs n bs  how many records the text bs has, whose first line is line n; or the first fault. If the cells cs are not those of
--                          a whole lattice with the start record s, that is the first, and its line is 0
use Rattle.std.specs.Prelude.{ℕ, ◌*◌, ◌==◌, List, length, Result, Ok, Err, if◌then◌else◌}
use Rattle.faults.specs.declared.record.RecordFault.{RecordFault}
use Rattle.faults.specs.declared.run.BenchRefusal.TheVariants.{Cells}
use Rattle.faults.specs.declared.run.RunFault.{RunFault}
use Rattle.faults.specs.declared.run.RunFault.TheVariants.{Record, Bench}
use Rattle.lattice.specs.Starts.{width_of, height_of}
use Rattle.lattice.specs.declared.start.Start.{Start}
use Rattle.scripts.specs.Judgements.{script, count_of}

abbrev pub risen : {A : Type 0} → Result A RecordFault → Result A RunFault
risen (Ok x) = Ok x
risen (Err e) = Err (Record e)

abbrev pub run_check : Start → List ℕ → ℕ → List ℕ → Result ℕ RunFault
run_check s cs n bs = if length cs == width_of s * height_of s then risen (count_of (script n bs)) else Err (Bench Cells 0)
