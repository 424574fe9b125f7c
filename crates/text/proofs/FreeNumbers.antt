-- A written number contains no separator. Assumes nothing.
use Rattle.std.proofs.Common.{◌≡◌, ℕ, ◌≤◌, ℤ, pos, negsuc, List, [], ◌∷◌, true, false, arith, unsigned_abs, suc, refl}
use Rattle.std.proofs.lemmas.Bool.Decides.{nat_tests}
use Rattle.std.specs.Char.{is_ascii_digit}
use Rattle.std.specs.Fmt.{decimal, signed_decimal}
use Rattle.text.proofs.Cuts.{Free}
use Rattle.text.proofs.Digits.{AreDigits}
use Rattle.text.proofs.Written.{number_of_decimal}
use Rattle.text.specs.Lines.{is_separator}
use Rattle.text.specs.Numbers.{max_number}

digits_apart : (b : ℕ) (bs : List ℕ) → AreDigits (b ∷ bs) → (is_ascii_digit b ≡ true) × AreDigits bs
digits_apart b bs e = (grind arith, grind arith)

digit_free : (b : ℕ) → is_ascii_digit b ≡ true → is_separator b ≡ false
digit_free b e = grind (arith, nat_tests)

pub digits_free : (bs : List ℕ) → AreDigits bs → Free is_separator bs
digits_free [] e = tt
digits_free (b ∷ bs) e = let apart = digits_apart b bs e in (digit_free b apart.0, digits_free bs apart.1)

pub decimal_free : (n : ℕ) → n ≤ max_number → Free is_separator (decimal n)
decimal_free n small = digits_free (decimal n) (number_of_decimal n small).0.digits

pub signed_free : (z : ℤ) → unsigned_abs z ≤ max_number → Free is_separator (signed_decimal z)
signed_free (pos n) small = decimal_free n small
signed_free (negsuc n) small = (refl, decimal_free (suc n) small)
