-- How long the script lines of the steps and flips are that a bench accepts. Assumes nothing.
use Rattle.std.proofs.Common.{ℕ, ◌≤◌, ℤ, pos, negsuc, suc, [], ◌∷◌, length, unsigned_abs, arith}
use Rattle.std.proofs.lemmas.Fmt.{length-decimal-le}
use Rattle.std.proofs.lemmas.List.{length-append}
use Rattle.std.specs.Fmt.{decimal, signed_decimal}
use Rattle.text.specs.Lines.{separated}
use Rattle.scripts.specs.Records.{fields_of, written}
use Rattle.scripts.specs.declared.record.Record.TheVariants.{Step, Flip}

signed_length : (z : ℤ) → unsigned_abs z ≤ 10000 → length (signed_decimal z) ≤ 6
signed_length (pos n) small = omega (arith, length-decimal-le 5 n (omega arith) (omega (arith, small)) (omega (arith, small)))
signed_length (negsuc n) small = omega (arith, length-decimal-le 5 (suc n) (omega arith) (omega (arith, small)) (omega (arith, small)))

pub step_length : (z : ℤ) → unsigned_abs z ≤ 10000 → length (written (Step z)) ≤ 12
step_length z small = omega (arith, length-append (separated (fields_of (Step z))) (10 ∷ []), signed_length z small)

byte_length : (n : ℕ) → n ≤ 255 → length (decimal n) ≤ 3
byte_length n small = length-decimal-le 3 n (omega arith) (omega (arith, small)) (omega (arith, small))

pub flip_length : (c r m : ℕ) → c ≤ 255 → r ≤ 255 → m ≤ 255 → length (written (Flip c r m)) ≤ 17
flip_length c r m cs rs ms =
    omega (arith, length-append (separated (fields_of (Flip c r m))) (10 ∷ []), length-append (decimal c) (9 ∷ separated (decimal r ∷ decimal m ∷ [])), length-append (decimal r) (9 ∷ decimal m), byte_length c cs, byte_length r rs, byte_length m ms)
