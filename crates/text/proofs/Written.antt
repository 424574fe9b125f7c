-- Writing a number and reading its digits undo each other. Assumes nothing.
use Rattle.std.proofs.Common.{◌≡◌, ℕ, ◌<◌, ◌≤◌, List, [], ◌∷◌, length, get_or, drop, suc, zero, true, false, Some, None, Option, ℤ, pos, negsuc, arith, sym, refl, ◌∙◌, ap, Bool, eqb, inl, inr, ◌⊎◌, if◌then◌else◌, unsigned_abs}
use Rattle.std.proofs.lemmas.Bool.{cases_lt}
use Rattle.std.proofs.lemmas.Bool.Decides.{nat_tests}
use Rattle.std.proofs.lemmas.Fmt.{decimal-digits_value, digits_decimal, digits_value-decimal, length-decimal-le, decimal_nonempty, first_decimal, decimal_digit}
use Rattle.std.proofs.lemmas.Str.Parse.{digits_value_short}
use Rattle.std.specs.Option.{option_map}
use Rattle.std.specs.Fmt.{decimal, signed_decimal}
use Rattle.std.specs.Str.Parse.{digits_value}
use Rattle.text.proofs.Digits.{AreDigits, digits_model}
use Rattle.text.specs.Numbers.{is_number, number_of, signed_of, negative_of, WritesNumber, WritesSigned, max_number}

-- the facts about a number's bytes, one by one
pub record Number (bs : List ℕ) : Type 0 where
  pub digits : AreDigits bs
  pub some : 0 < length bs
  pub few : length bs ≤ 6
  pub front : get_or bs 0 0 ≡ 48 → length bs ≡ 1

pub number_is : (bs : List ℕ) → is_number bs ≡ true → Number bs
number_is bs e = record {
  digits = grind (arith, nat_tests);
  some = grind (arith, nat_tests);
  few = grind (arith, nat_tests);
  front = λ z. grind (arith, nat_tests);
}

pub is_number_from : (bs : List ℕ) → Number bs → (48 ≤ get_or bs 0 0) → is_number bs ≡ true
is_number_from bs n low = grind (arith, nat_tests, n.digits, n.some, n.few, n.front)

zero_written : (n : ℕ) → n ≡ 0 → decimal n ≡ 48 ∷ []
zero_written n z = rw z (decimal_digit 0 (omega arith))

pub number_read : (bs : List ℕ) (n : ℕ) → number_of bs ≡ Some n → WritesNumber n bs
unfolding number_of
number_read bs n e =
    let yes : is_number bs ≡ true = grind arith in
    let same : digits_value 10 bs ≡ n = grind arith in
    let facts : Number bs = number_is bs yes in
    let small : digits_value 10 bs < 1000000 = digits_value_short digits_model bs 6 facts.digits facts.few in
    let back : decimal (digits_value 10 bs) ≡ bs = decimal-digits_value digits_model bs facts.digits facts.some facts.front (omega arith) in
    (omega arith, sym (ap decimal (sym same) ∙ back))

-- the digits of a number up to the limit
pub number_of_decimal : (n : ℕ) → n ≤ max_number → Number (decimal n) × (48 ≤ get_or (decimal n) 0 0)
number_of_decimal n small =
    let some : 0 < length (decimal n) = decimal_nonempty n (omega arith) in
    let front : (48 < get_or (decimal n) 0 0) ⊎ ((n ≡ 0) × (decimal n ≡ 48 ∷ [])) =
    elim (cases_lt 0 n) [ inl l ↦ inl (first_decimal n l (omega arith)) | inr z ↦ inr (omega arith, zero_written n (omega arith)) ] in (
      record {
        digits = digits_decimal digits_model n (omega arith);
        some = some;
        few = length-decimal-le 6 n (omega arith) (omega arith) (omega arith);
        front = λ z. elim front [ inl l ↦ absurd (omega arith) | inr w ↦ ap length w.1 ];
      },
      elim front [ inl l ↦ omega arith | inr w ↦ rw w.1 (omega arith) ],
    )

pub number_written : (bs : List ℕ) (n : ℕ) → WritesNumber n bs → number_of bs ≡ Some n
unfolding number_of
number_written bs n w =
    let facts = number_of_decimal n w.0 in
    let yes : is_number (decimal n) ≡ true = is_number_from (decimal n) facts.0 facts.1 in
    let value : digits_value 10 (decimal n) ≡ n = digits_value-decimal digits_model n (omega (arith, w.0)) in
    rw (w.1) (rw (yes, value) refl)

not_zero : (n : ℕ) → eqb (suc n) 0 ≡ false
not_zero n = grind (arith, nat_tests)

-- a minus precedes only a number that is not 0
negative_is : (o : Option ℕ) (z : ℤ) → negative_of o ≡ Some z → (n : ℕ) × (o ≡ Some (suc n)) × (z ≡ negsuc n)
negative_is None z e = absurd cc
negative_is (Some zero) z e = absurd cc
negative_is (Some (suc n)) z e = let f : Some (negsuc n) ≡ Some z = rw (not_zero n) at e in (n, refl, cc)

positive_is : (o : Option ℕ) (z : ℤ) → option_map pos o ≡ Some z → (n : ℕ) × (o ≡ Some n) × (z ≡ pos n)
positive_is None z e = absurd cc
positive_is (Some n) z e = (n, refl, cc)

minus_first : (bs : List ℕ) → eqb (get_or bs 0 0) 45 ≡ true → bs ≡ 45 ∷ drop 1 bs
minus_first [] e = absurd cc
minus_first (b ∷ bs) e = ap (λ x. x ∷ bs) (grind arith)

signed_read_at : (bs : List ℕ) (z : ℤ) (minus : Bool) → eqb (get_or bs 0 0) 45 ≡ minus → (if minus then negative_of (number_of (drop 1 bs)) else option_map pos (number_of bs)) ≡ Some z → WritesSigned z bs
signed_read_at bs z true m e =
    let n = negative_is (number_of (drop 1 bs)) z e in
    let w : WritesNumber (suc n.0) (drop 1 bs) = number_read (drop 1 bs) (suc n.0) n.1 in
    rw n.2 (w.0, minus_first bs m ∙ ap (λ r. 45 ∷ r) w.1)
signed_read_at bs z false m e =
    let n = positive_is (number_of bs) z e in
    let w : WritesNumber n.0 bs = number_read bs n.0 n.1 in
    rw n.2 w

pub signed_read : (bs : List ℕ) (z : ℤ) → signed_of bs ≡ Some z → WritesSigned z bs
unfolding signed_of
signed_read bs z e = signed_read_at bs z (eqb (get_or bs 0 0) 45) refl e

-- no unsigned number begins with a minus
no_minus : (n : ℕ) → n ≤ max_number → eqb (get_or (decimal n) 0 0) 45 ≡ false
no_minus n small =
    let facts = number_of_decimal n small in
    let front : 48 ≤ get_or (decimal n) 0 0 = facts.1 in
    grind (arith, nat_tests)

signed_of_written : (z : ℤ) → unsigned_abs z ≤ max_number → signed_of (signed_decimal z) ≡ Some z
unfolding signed_of
signed_of_written (pos n) small = rw (no_minus n small, number_written (decimal n) n (small, refl)) refl
signed_of_written (negsuc n) small = rw (number_written (decimal (suc n)) (suc n) (small, refl), not_zero n) refl

pub signed_written : (bs : List ℕ) (z : ℤ) → WritesSigned z bs → signed_of bs ≡ Some z
signed_written bs z w = rw w.1 (signed_of_written z w.0)
