-- The fields after the word of a line, one by one, where their number is known. Assumes nothing.
use Rattle.std.proofs.Common.{◌≡◌, ℕ, List, [], ◌∷◌, length, arith, refl}

pub three_args : (args : List (List ℕ)) → length args ≡ 3 → (a : List ℕ) × (b : List ℕ) × (c : List ℕ) × (args ≡ a ∷ b ∷ c ∷ [])
three_args [] len = absurd (omega arith)
three_args (a ∷ []) len = absurd (omega arith)
three_args (a ∷ b ∷ []) len = absurd (omega arith)
three_args (a ∷ b ∷ c ∷ d ∷ args) len = absurd (omega arith)
three_args (a ∷ b ∷ c ∷ []) len = (a, b, c, refl)

pub one_arg : (args : List (List ℕ)) → length args ≡ 1 → (a : List ℕ) × (args ≡ a ∷ [])
one_arg [] len = absurd (omega arith)
one_arg (a ∷ b ∷ args) len = absurd (omega arith)
one_arg (a ∷ []) len = (a, refl)
