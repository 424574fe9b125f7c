-- The numbers in the fields of a line: one is read exactly where it is written, and of three the first that is none is reported. Assumes nothing.
use Rattle.std.proofs.Common.{◌≡◌, ℕ, ◌-◌, ◌<◌, ◌≤◌, List, [], ◌∷◌, slice_index_or, None, Some, Option, Ok, Err, Result, arith, refl, ◌∙◌, ap, subst, inl, inr}
use Rattle.std.proofs.lemmas.Bool.{cases_lt}
use Rattle.faults.specs.Results.{◌>>=◌}
use Rattle.faults.specs.declared.field.FieldFault.TheVariants.{NotANumber}
use Rattle.faults.specs.declared.record.RecordFault.{RecordFault}
use Rattle.faults.specs.declared.record.RecordFault.TheVariants.{Field}
use Rattle.text.proofs.Written.{number_read, number_written}
use Rattle.text.specs.Numbers.{number_of, number_at, WritesNumber, IsNumber}

abbrev no_number : ℕ → ℕ → RecordFault
no_number n k = Field (NotANumber (record { line = n; field = k }))

pub number_given : (n k m : ℕ) (bs : List ℕ) → WritesNumber m bs → number_at n k bs ≡ Ok m
number_given n k m bs w = rw (number_written bs m w) refl

none_given_at : (n k : ℕ) (bs : List ℕ) (o : Option ℕ) → number_of bs ≡ o → (IsNumber bs → ⊥) → number_at n k bs ≡ Err (no_number n k)
none_given_at n k bs None is none = rw is refl
none_given_at n k bs (Some m) is none = absurd (none (m, number_read bs m is))

pub none_given : (n k : ℕ) (bs : List ℕ) → (IsNumber bs → ⊥) → number_at n k bs ≡ Err (no_number n k)
none_given n k bs none = none_given_at n k bs (number_of bs) refl none

number_fault_at : (n k : ℕ) (bs : List ℕ) (e : RecordFault) (o : Option ℕ) → number_of bs ≡ o → number_at n k bs ≡ Err e → (e ≡ no_number n k) × (IsNumber bs → ⊥)
number_fault_at n k bs e None none is =
    let is' : number_at n k bs ≡ Err (no_number n k) = rw none refl in
    (cc (is, is'), λ w. let some : number_of bs ≡ Some w.0 = number_written bs w.0 w.1 in absurd cc)
number_fault_at n k bs e (Some m) some is = let is' : number_at n k bs ≡ Ok m = rw some refl in absurd (cc (is, is'))

pub number_fault : (n k : ℕ) (bs : List ℕ) (e : RecordFault) → number_at n k bs ≡ Err e → (e ≡ Field (NotANumber (record { line = n; field = k }))) × (IsNumber bs → ⊥)
number_fault n k bs e is = number_fault_at n k bs e (number_of bs) refl is

pub number_was : (n k m : ℕ) (bs : List ℕ) → number_at n k bs ≡ Ok m → WritesNumber m bs
number_was n k m bs is = number_was_at (number_of bs) refl where
  number_was_at : (o : Option ℕ) → number_of bs ≡ o → WritesNumber m bs
  number_was_at None none = let is' : number_at n k bs ≡ Err (no_number n k) = rw none refl in absurd (cc (is, is'))
  number_was_at (Some j) some = let is' : number_at n k bs ≡ Ok j = rw some refl in number_read bs m (let same : j ≡ m = cc (is, is') in some ∙ ap Some same)

-- a line of a word v and three fields, whatever their three numbers are for
module _ {B : Type 0} (n : ℕ) (v a b c : List ℕ) (g : ℕ → ℕ → ℕ → Result B RecordFault) where
  abbrev on_line : ℕ → List ℕ
  on_line k = slice_index_or (v ∷ a ∷ b ∷ c ∷ []) (k - 1) []

  abbrev three_numbers : Result B RecordFault
  three_numbers = number_at n 2 a >>= λ x. number_at n 3 b >>= λ y. number_at n 4 c >>= λ z. g x y z

  abbrev Reported : ℕ → Type 0
  Reported k = (IsNumber (on_line k) → ⊥) → ((j : ℕ) → 2 ≤ j → j < k → IsNumber (on_line j)) → three_numbers ≡ Err (Field (NotANumber (record { line = n; field = k })))

  at_two : Reported 2
  at_two here before = rw (none_given n 2 a here) refl

  at_three : Reported 3
  at_three here before = let x : IsNumber a = before 2 (omega arith) (omega arith) in rw (number_given n 2 x.0 a x.1, none_given n 3 b here) refl

  at_four : Reported 4
  at_four here before =
      let x : IsNumber a = before 2 (omega arith) (omega arith) in
      let y : IsNumber b = before 3 (omega arith) (omega arith) in
      rw (number_given n 2 x.0 a x.1, number_given n 3 y.0 b y.1, none_given n 4 c here) refl

  pub first_of_three : (k : ℕ) → 2 ≤ k → k ≤ 4 → Reported k
  first_of_three k low high = elim (cases_lt k 3) [
    | inl two ↦ let is : 2 ≡ k = omega arith in subst Reported is at_two
    | inr more ↦ elim (cases_lt k 4) [ inl three ↦ let is : 3 ≡ k = omega arith in subst Reported is at_three | inr four ↦ let is : 4 ≡ k = omega arith in subst Reported is at_four ]
  ]
