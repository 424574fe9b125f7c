-- Results in sequence, as `?` joins them: the first fault is the result.
--     a >>= f     f of the value of a; or the fault of a, if it is one
use Rattle.std.specs.Prelude.{Result, Ok, Err}

infixl 10 ◌>>=◌
abbrev pub ◌>>=◌ : {A B E : Type 0} → Result A E → (A → Result B E) → Result B E
(Ok x) >>= f = f x
(Err e) >>= f = Err e
