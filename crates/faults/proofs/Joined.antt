-- Results in sequence: what follows if the last one is not a fault. Assumes nothing.
use Rattle.std.proofs.Common.{◌≡◌, Bool, true, false, cond, Some, None, Option, Ok, Err, Result, refl}
use Rattle.std.specs.Option.{ok_or}
use Rattle.faults.specs.Results.{◌>>=◌}

-- then the first one is not a fault either
pub went_on : {A B E : Type 0} (a : Result A E) (f : A → Result B E) (y : B) → (a >>= f) ≡ Ok y → (x : A) × (a ≡ Ok x) × (f x ≡ Ok y)
went_on (Ok x) f y is = (x, refl, is)
went_on (Err e) f y is = absurd cc

-- then the test has passed
pub passed : {A E : Type 0} (b : Bool) (x : Result A E) (e : E) (y : A) → cond b x (Err e) ≡ Ok y → (b ≡ true) × (x ≡ Ok y)
passed true x e y is = (refl, is)
passed false x e y is = absurd cc

-- then there is a value
pub was_some : {A E : Type 0} (o : Option A) (e : E) (x : A) → ok_or o e ≡ Ok x → o ≡ Some x
was_some None e x is = absurd cc
was_some (Some y) e x is = cc
