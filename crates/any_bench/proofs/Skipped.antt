-- A call that is made if a test allows it, and skipped otherwise. Assumes nothing.
use Rattle.std.proofs.Common.{◌≡◌, Bool, true, false, cond, Option, refl}
use Rattle.faults.specs.declared.run.BenchRefusal.{BenchRefusal}
use Rattle.lattice.specs.Lattice.{Lattice}
use Rattle.ledger.specs.Ledgers.{Ledger}
use Rattle.ledger.specs.Refusals.{if_accepted}

-- b is the test and d the refusal. If F gives what is held from the ledger before the call and from the one after it, it does so whether or not the call is made
pub at_test : (b : Bool) (d : Option BenchRefusal) (x y : Ledger) (p q : Lattice) (F : Ledger → Lattice) → (b ≡ true → if_accepted d p q ≡ F (if_accepted d x y)) → q ≡ F y → cond b (if_accepted d p q) q ≡ F (cond b (if_accepted d x y) y)
at_test true d x y p q F made passed = made refl
at_test false d x y p q F made passed = passed
