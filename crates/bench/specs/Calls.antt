-- What a call does, made with the cells of the lattice l.
--     answered l c led       the result of the call c: how many actions stand after it, or why it is refused
--     booked_by l c led      the ledger after the call
--     made_by f g c led l    l after the call, where f and g are the two functions of the map
-- A refusal leaves the ledger and the lattice as they were.
use Rattle.std.specs.Prelude.{ℕ, length, Result}
use Rattle.faults.specs.declared.run.BenchRefusal.{BenchRefusal}
use Rattle.lattice.specs.Lattice.{Lattice}
use Rattle.ledger.specs.Effects.{effect}
use Rattle.ledger.specs.Ledgers.{Ledger}
use Rattle.ledger.specs.Refusals.{refusal, if_accepted, answer, after}
use Rattle.scripts.specs.declared.record.Record.{Record}

abbrev pub answered : Lattice → Record → Ledger → Result ℕ BenchRefusal
answered l c led = answer l.width l.height (length l.cells) c led

abbrev pub booked_by : Lattice → Record → Ledger → Ledger
booked_by l c led = after l.width l.height (length l.cells) c led

abbrev pub made_by : (Lattice → Lattice) → (Lattice → Lattice) → Record → Ledger → Lattice → Lattice
made_by f g c led l = if_accepted (refusal l.width l.height (length l.cells) c led) (effect f g c led l) l
