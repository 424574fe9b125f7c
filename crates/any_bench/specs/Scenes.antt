-- A bench together with its cells, as a value.
--     Scene                   a ledger, and the lattice that is held
--     scene_of b cs           those of the bench b with the cells cs
--     answered_at c s             the answer to the call c, made with the cells of s
--     after_call f g c s      s after that call, where f and g are the two functions of the map
--     after_calls f g s cs    s after the calls cs, in their order
use Rattle.std.specs.Prelude.{ℕ, List, fold}
use Rattle.any_bench.specs.Answers.{answered_if}
use Rattle.any_bench.specs.AnyBenches.{any_ledger, any_handed}
use Rattle.any_bench.specs.Calls.{booked_if, made_if}
use Rattle.any_bench.specs.declared.answer.Answer.{Answer}
use Rattle.any_bench.specs.declared.call.AnyBench.{AnyBench}
use Rattle.lattice.specs.Lattice.{Lattice}
use Rattle.ledger.specs.Ledgers.{Ledger}
use Rattle.scripts.specs.declared.record.Record.{Record}

pub record Scene : Type 0 where
  pub ledger : Ledger
  pub lattice : Lattice

abbrev pub scene_of : {M : Type 0} → AnyBench M → List ℕ → Scene
scene_of b cs = record { ledger = any_ledger b; lattice = any_handed b cs }

abbrev pub answered_at : Record → Scene → Answer
answered_at c s = answered_if s.lattice c s.ledger

abbrev pub after_call : (Lattice → Lattice) → (Lattice → Lattice) → Record → Scene → Scene
after_call f g c s = record { ledger = booked_if s.lattice c s.ledger; lattice = made_if f g c s.ledger s.lattice }

abbrev pub after_calls : (Lattice → Lattice) → (Lattice → Lattice) → Scene → List Record → Scene
after_calls f g s cs = fold (λ t c. after_call f g c t) s cs
