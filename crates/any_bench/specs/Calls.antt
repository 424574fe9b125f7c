-- What a call does, made with the cells of the lattice l: nothing, if the state does not permit it.
--     booked_if l c led      the ledger after the call c
--     made_if f g c led l    l after it, where f and g are the two functions of the map
use Rattle.std.specs.Prelude.{if◌then◌else◌}
use Rattle.bench.specs.Calls.{booked_by, made_by}
use Rattle.lattice.specs.Lattice.{Lattice}
use Rattle.ledger.specs.Ledgers.{Ledger}
use Rattle.scripts.specs.Records.{kind_of}
use Rattle.scripts.specs.States.{permits}
use Rattle.scripts.specs.declared.record.Record.{Record}

abbrev pub booked_if : Lattice → Record → Ledger → Ledger
booked_if l c led = if permits led.state (kind_of c) then booked_by l c led else led

abbrev pub made_if : (Lattice → Lattice) → (Lattice → Lattice) → Record → Ledger → Lattice → Lattice
made_if f g c led l = if permits led.state (kind_of c) then made_by f g c led l else l
