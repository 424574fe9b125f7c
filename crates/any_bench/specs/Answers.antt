-- What calls return, as values.
--     said a           the answer of a call whose result is a
--     answered_if l c led     the answer to the call c, made with the cells of l: Skipped where the state does not permit c, and Given for Open and Close, which return no number
use Rattle.std.specs.Prelude.{ℕ, Result, Ok, Err, if◌then◌else◌}
use Rattle.any_bench.specs.declared.answer.Answer.{Answer}
use Rattle.any_bench.specs.declared.answer.Answer.TheVariants.{Skipped, Given, Standing, Refused}
use Rattle.bench.specs.Calls.{answered}
use Rattle.faults.specs.declared.run.BenchRefusal.{BenchRefusal}
use Rattle.lattice.specs.Lattice.{Lattice}
use Rattle.ledger.specs.Ledgers.{Ledger}
use Rattle.ledger.specs.Refusals.{takes_cells}
use Rattle.scripts.specs.Records.{kind_of}
use Rattle.scripts.specs.States.{permits}
use Rattle.scripts.specs.declared.record.Record.{Record}

abbrev pub said : Result ℕ BenchRefusal → Answer
said (Ok n) = Standing n
said (Err e) = Refused e

abbrev pub answered_if : Lattice → Record → Ledger → Answer
answered_if l c led = if permits led.state (kind_of c) then (if takes_cells c then said (answered l c led) else Given) else Skipped
