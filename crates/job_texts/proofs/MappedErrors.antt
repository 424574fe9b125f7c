-- A result m that has the value of the result r, or an error that is made of the error of r. Assumes nothing.
use Rattle.std.proofs.Common.{◌≡◌, Result, Ok, Err, MatchResult, IfOk, IfErr, OnOk, OnErr, sym, subst}
use Rattle.std.specs.Result.{IsErrAnd}

module _ {T D E : Type 0} (r : Result T D) (m : Result T E) (Q : D → E → Type 0) where
  abbrev pub IsMapped : Type 0
  IsMapped = MatchResult r (λ x. m ≡ Ok x) (λ e. IsErrAnd m (Q e))

pub at_value : {T D E : Type 0} (r : Result T D) (m : Result T E) (Q : D → E → Type 0) (P : T → Type 0) (x : T) → IsMapped r m Q → m ≡ Ok x → IfOk r P → P x
at_value (Ok y) m Q P x mapped is holds =
    let same : y ≡ x = cc in
    subst P same holds
at_value (Err e) m Q P x mapped is holds = absurd (subst (λ s. IsErrAnd s (Q e)) is mapped)

pub on_value : {T D E : Type 0} (r : Result T D) (m : Result T E) (Q : D → E → Type 0) (P : Type 0) → IsMapped r m Q → OnOk r P → OnOk m P
on_value (Ok x) m Q P mapped holds = subst (λ s. OnOk s P) (sym mapped) holds
on_value (Err e) (Ok x) Q P mapped holds = absurd mapped
on_value (Err e) (Err d) Q P mapped holds = tt

pub on_error : {T D E : Type 0} (r : Result T D) (m : Result T E) (Q : D → E → Type 0) (P : Type 0) (R : E → Type 0) → IsMapped r m Q → OnErr r P → ((e : D) (d : E) → Q e d → P → R d) → IfErr m R
on_error (Ok x) m Q P R mapped holds then = subst (λ s. IfErr s R) (sym mapped) tt
on_error (Err e) (Ok x) Q P R mapped holds then = absurd mapped
on_error (Err e) (Err d) Q P R mapped holds then = then e d mapped holds
