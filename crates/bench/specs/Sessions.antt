-- What a bench in session holds.
--     session_map s, session_start s     its map and its start record
--     session_ledger s                   its ledger, as its journal keeps it
--     session_handed s cs                the lattice made of its start record and of cs, the cells passed to a call
use Rattle.std.specs.Prelude.{ℕ, List, []}
use Rattle.bench.specs.declared.session.Session.{Session as BenchSession}
use Rattle.journal.specs.OpenJournals.{open_standing, session_of}
use Rattle.lattice.specs.Lattice.{Lattice}
use Rattle.lattice.specs.Starts.{held}
use Rattle.lattice.specs.declared.start.Start.{Start}
use Rattle.ledger.specs.Ledgers.{Ledger}
use Rattle.scripts.specs.declared.state.State.TheVariants.{Session}

module _ {M : Type 0} where
  abbrev pub session_map : BenchSession M → M
  session_map s = s.map.now

  abbrev pub session_start : BenchSession M → Start
  session_start s = s.start

  abbrev pub session_ledger : BenchSession M → Ledger
  session_ledger s = record { standing = open_standing s.journal; undone = []; session = session_of s.journal; state = Session }

  abbrev pub session_handed : BenchSession M → List ℕ → Lattice
  session_handed s cs = held (session_start s) cs
