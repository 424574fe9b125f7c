-- Four writes at different places. Assumes nothing.
use Rattle.std.specs.Prelude.{◌≡◌, ℕ, ◌<◌, ◌≢◌, List, length, slice_index, slice_set}
use Rattle.std.proofs.Common.{◌∙◌, arith}
use Rattle.std.proofs.lemmas.List.{length-set, get_or-set_same, get_or-set_other}

module _ (cs : List ℕ) (a b c d A B C D : ℕ) where
  abbrev pub four_set : List ℕ
  four_set = slice_set (slice_set (slice_set (slice_set cs a A) b B) c C) d D

  pub four_length : length four_set ≡ length cs
  four_length = simp length-set

  pub four_other : (k : ℕ) → k ≢ a → k ≢ b → k ≢ c → k ≢ d → slice_index four_set k ≡ slice_index cs k
  four_other k ka kb kc kd =
      get_or-set_other _ d k D 0 kd ∙ get_or-set_other _ c k C 0 kc ∙ get_or-set_other _ b k B 0 kb ∙ get_or-set_other cs a k A 0 ka

  pub four_first : a < length cs → a ≢ b → a ≢ c → a ≢ d → slice_index four_set a ≡ A
  four_first h ab ac ad =
      get_or-set_other _ d a D 0 ad ∙ get_or-set_other _ c a C 0 ac ∙ get_or-set_other _ b a B 0 ab ∙ get_or-set_same cs a A 0 h

  pub four_second : b < length cs → b ≢ c → b ≢ d → slice_index four_set b ≡ B
  four_second h bc bd =
      get_or-set_other _ d b D 0 bd ∙ get_or-set_other _ c b C 0 bc ∙ get_or-set_same (slice_set cs a A) b B 0 (omega (arith, length-set cs a A))

  pub four_third : c < length cs → c ≢ d → slice_index four_set c ≡ C
  four_third h cd =
      get_or-set_other _ d c D 0 cd ∙ get_or-set_same (slice_set (slice_set cs a A) b B) c C 0 (omega (arith, length-set (slice_set cs a A) b B, length-set cs a A))

  pub four_fourth : d < length cs → slice_index four_set d ≡ D
  four_fourth h =
      get_or-set_same (slice_set (slice_set (slice_set cs a A) b B) c C) d D 0
      (omega (arith, length-set (slice_set (slice_set cs a A) b B) c C, length-set (slice_set cs a A) b B, length-set cs a A))
