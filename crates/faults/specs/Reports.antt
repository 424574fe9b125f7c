-- The four numbers of every fault: layer, number, line and field.
--     bench_number e                                   the number of the cause e
--     reported l n i k                                 layer l, number n, line i, field k
--     field_report f, record_report f, run_report f    those of the fault f. They stay the same when it becomes a fault of a higher layer
--     NamesLineFrom n f                            the fault f is of a text as a whole, or of line n or a later one
use Rattle.std.specs.Prelude.{ℕ, ◌≤◌, ⊤}
use Rattle.lattice.specs.Refusals.{start_number}
use Rattle.faults.specs.declared.field.FieldFault.{FieldFault}
use Rattle.faults.specs.declared.field.FieldFault.TheVariants.{NotANumber, WrongDigits}
use Rattle.faults.specs.declared.record.RecordFault.{RecordFault}
use Rattle.faults.specs.declared.record.RecordFault.TheVariants.{Field, TooLong, Unfinished, UnknownWord, FieldCount, NotPermitted, EndsInSession, Start, MissingLine, UnknownMap, CellsTooShort}
use Rattle.faults.specs.declared.run.BenchRefusal.{BenchRefusal}
use Rattle.faults.specs.declared.run.BenchRefusal.TheVariants.{Cells, StepCount, NothingToUndo, NothingToRedo, OffLattice, Mask, JournalFull}
use Rattle.faults.specs.declared.run.RunFault.{RunFault}
use Rattle.faults.specs.declared.run.RunFault.TheVariants.{Record, Bench}
use Rattle.faults.specs.declared.report.Report.{Report}

abbrev pub reported : ℕ → ℕ → ℕ → ℕ → Report
reported l n i k = record { layer = l; number = n; line = i; field = k }

abbrev pub field_report : FieldFault → Report
field_report (NotANumber p) = reported 1 22 p.line p.field
field_report (WrongDigits p) = reported 1 31 p.line p.field

abbrev pub record_report : RecordFault → Report
record_report (Field f) = field_report f
record_report TooLong = reported 2 20 0 0
record_report (Unfinished i) = reported 2 21 i 0
record_report (UnknownWord i) = reported 2 23 i 1
record_report (FieldCount i) = reported 2 24 i 0
record_report (NotPermitted i) = reported 2 25 i 0
record_report (EndsInSession i) = reported 2 26 i 0
record_report (Start e i) = reported 2 (start_number e) i 0
record_report (MissingLine i) = reported 2 32 i 0
record_report (UnknownMap i) = reported 2 9 i 2
record_report CellsTooShort = reported 2 30 0 0

abbrev pub bench_number : BenchRefusal → ℕ
bench_number Cells = 10
bench_number StepCount = 11
bench_number NothingToUndo = 12
bench_number NothingToRedo = 13
bench_number OffLattice = 15
bench_number Mask = 16
bench_number JournalFull = 17

abbrev pub run_report : RunFault → Report
run_report (Record f) = record_report f
run_report (Bench e i) = reported 3 (bench_number e) i 0

abbrev pub NamesLineFrom : ℕ → RecordFault → Type 0
NamesLineFrom n TooLong = ⊤
NamesLineFrom n CellsTooShort = ⊤
NamesLineFrom n f = n ≤ (record_report f).line
