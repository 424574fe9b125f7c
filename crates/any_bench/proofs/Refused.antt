-- A refused call leaves everything as it was. Assumes nothing.
use Rattle.std.proofs.Common.{◌≡◌, ℕ, Bool, true, false, cond, length, Some, None, Option, refl, ap₂}
use Rattle.actions.specs.Answers.{unless}
use Rattle.any_bench.specs.Answers.{said}
use Rattle.any_bench.specs.Scenes.{Scene, answered_at, after_call}
use Rattle.any_bench.specs.declared.answer.Answer.TheVariants.{Skipped, Given, Refused}
use Rattle.faults.specs.declared.run.BenchRefusal.{BenchRefusal}
use Rattle.lattice.specs.Lattice.{Lattice}
use Rattle.ledger.specs.Effects.{effect}
use Rattle.ledger.specs.Ledgers.{booked}
use Rattle.ledger.specs.Refusals.{refusal, takes_cells, if_accepted}
use Rattle.scripts.specs.Records.{kind_of}
use Rattle.scripts.specs.States.{permits}
use Rattle.scripts.specs.declared.record.Record.{Record}

-- b: the state permits the call; t: it needs cells; d: its refusal
module _ {A : Type 0} (x y : A) (n : ℕ) (e : BenchRefusal) where
  here : (b t : Bool) (d : Option BenchRefusal) → cond b (cond t (said (unless d n)) Given) Skipped ≡ Refused e → cond b (if_accepted d x y) y ≡ y
  here false t d h = refl
  here true false d h = absurd cc
  here true true None h = absurd cc
  here true true (Some c) h = refl

pub refused_leaves : (f g : Lattice → Lattice) (c : Record) (s : Scene) (e : BenchRefusal) → answered_at c s ≡ Refused e → after_call f g c s ≡ s
refused_leaves f g c s e h =
    let l = s.lattice in
    let d = refusal l.width l.height (length l.cells) c s.ledger in
    let n = length (booked c s.ledger).standing in
    ap₂ (λ x y. record { ledger = x; lattice = y })
    (here (booked c s.ledger) s.ledger n e (permits s.ledger.state (kind_of c)) (takes_cells c) d h)
    (here (effect f g c s.ledger l) l n e (permits s.ledger.state (kind_of c)) (takes_cells c) d h)
