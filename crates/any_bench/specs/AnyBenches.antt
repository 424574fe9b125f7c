-- What a bench holds, in whichever state it is.
--     any_map b, any_start b     its map and its start record
--     any_ledger b               its ledger
--     any_handed b cs            the lattice made of its start record and of cs, the cells passed to a call
use Rattle.std.specs.Prelude.{ℕ, List}
use Rattle.any_bench.specs.declared.call.AnyBench.{AnyBench}
use Rattle.any_bench.specs.declared.call.AnyBench.TheVariants.{Rest, Session}
use Rattle.bench.specs.Benches.{map_of, start_of, ledger_of}
use Rattle.bench.specs.Sessions.{session_map, session_start, session_ledger}
use Rattle.lattice.specs.Lattice.{Lattice}
use Rattle.lattice.specs.Starts.{held}
use Rattle.lattice.specs.declared.start.Start.{Start}
use Rattle.ledger.specs.Ledgers.{Ledger}

module _ {M : Type 0} where
  abbrev pub any_map : AnyBench M → M
  any_map (Rest b) = map_of b
  any_map (Session s) = session_map s

  abbrev pub any_start : AnyBench M → Start
  any_start (Rest b) = start_of b
  any_start (Session s) = session_start s

  abbrev pub any_ledger : AnyBench M → Ledger
  any_ledger (Rest b) = ledger_of b
  any_ledger (Session s) = session_ledger s

  abbrev pub any_handed : AnyBench M → List ℕ → Lattice
  any_handed b cs = held (any_start b) cs
