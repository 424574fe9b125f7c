-- Bytes that are decimal digits, and the number that they write. Assumes nothing.
use Rattle.std.proofs.Common.{◌≡◌, ℕ, ◌+◌, ◌-◌, ◌*◌, ◌<◌, ◌≤◌, List, length, get_or, take, true, arith, rules, refl, ◌∙◌, ap}
use Rattle.std.proofs.lemmas.Str.Parse.{IsNumeralModel, numerals_by_value, IsDigitsTest, digits_value_short}
use Rattle.std.proofs.lemmas.Int.Digits.{digits_value_more}
use Rattle.std.proofs.lemmas.List.Folds.{list_all_more}
use Rattle.std.proofs.lemmas.List.{length-take, length-take-le}
use Rattle.std.specs.Char.{is_ascii_digit, digit_value}
use Rattle.std.specs.List.{list_all}
use Rattle.std.specs.Str.Parse.{digits_value}

abbrev pub AreDigits : List ℕ → Type 0
AreDigits bs = list_all is_ascii_digit bs ≡ true

pub are_digits_test : IsDigitsTest AreDigits
are_digits_test = search rules

pub digits_model : IsNumeralModel AreDigits (digits_value 10)
digits_model = numerals_by_value AreDigits are_digits_test

pub digit_value_is : (b : ℕ) → is_ascii_digit b ≡ true → digit_value b ≡ b - 48
digit_value_is b e = grind arith

-- one digit more
pub digits_more : (bs : List ℕ) (i : ℕ) → i < length bs → AreDigits (take i bs) → is_ascii_digit (get_or bs i 0) ≡ true → AreDigits (take (i + 1) bs)
digits_more bs i inside before here = rw (list_all_more is_ascii_digit bs i 0 inside, before, here) refl

pub value_more : (bs : List ℕ) (i : ℕ) → i < length bs → is_ascii_digit (get_or bs i 0) ≡ true → digits_value 10 (take (i + 1) bs) ≡ digits_value 10 (take i bs) * 10 + (get_or bs i 0 - 48)
value_more bs i inside here = digits_value_more 10 bs i inside ∙ ap (λ d. digits_value 10 (take i bs) * 10 + d) (digit_value_is _ here)

-- at most five digits
pub value_small : (bs : List ℕ) (i : ℕ) → i < length bs → length bs ≤ 6 → AreDigits (take i bs) → digits_value 10 (take i bs) < 100000
value_small bs i inside short digits =
    let len : length (take i bs) ≡ i = length-take-le i bs (omega arith) in
    digits_value_short digits_model (take i bs) 5 digits (omega (arith, len))

-- at most six
pub value_below : (bs : List ℕ) (i : ℕ) → length bs ≤ 6 → AreDigits (take i bs) → digits_value 10 (take i bs) ≤ 999999
value_below bs i short digits =
    let some : digits_value 10 (take i bs) < 1000000 = digits_value_short digits_model (take i bs) 6 digits (omega (arith, length-take i bs)) in
    omega arith
