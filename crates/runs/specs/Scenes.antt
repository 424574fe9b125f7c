-- A bench at rest together with its cells, as a value.
--     rest_scene b cs     what the bench b with the cells cs holds
use Rattle.std.specs.Prelude.{ℕ, List}
use Rattle.any_bench.specs.Scenes.{Scene}
use Rattle.bench.specs.Benches.{ledger_of, handed}
use Rattle.bench.specs.declared.bench.Bench.{Bench}

abbrev pub rest_scene : {M : Type 0} → Bench M → List ℕ → Scene
rest_scene b cs = record { ledger = ledger_of b; lattice = handed b cs }
