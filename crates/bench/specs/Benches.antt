-- What a bench at rest holds.
--     map_of b, start_of b     its map and its start record
--     ledger_of b              its ledger, as its journal keeps it
--     handed b cs              the lattice made of its start record and of cs, the cells passed to a call
use Rattle.std.specs.Prelude.{ℕ, List, []}
use Rattle.bench.specs.declared.bench.Bench.{Bench}
use Rattle.journal.specs.Journals.{standing_of, undone_of}
use Rattle.lattice.specs.Lattice.{Lattice}
use Rattle.lattice.specs.Starts.{held}
use Rattle.lattice.specs.declared.start.Start.{Start}
use Rattle.ledger.specs.Ledgers.{Ledger}
use Rattle.scripts.specs.declared.state.State.TheVariants.{Rest}

module _ {M : Type 0} where
  abbrev pub map_of : Bench M → M
  map_of b = b.map.now

  abbrev pub start_of : Bench M → Start
  start_of b = b.start

  abbrev pub ledger_of : Bench M → Ledger
  ledger_of b = record { standing = standing_of b.journal; undone = undone_of b.journal; session = []; state = Rest }

  abbrev pub handed : Bench M → List ℕ → Lattice
  handed b cs = held (start_of b) cs
