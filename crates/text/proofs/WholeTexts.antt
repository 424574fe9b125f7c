-- Texts that are short enough and finished. Assumes nothing.
use Rattle.std.proofs.Common.{◌≡◌, ℕ, ◌+◌, ◌<◌, ◌≤◌, Bool, true, false, List, length, leb, if◌then◌else◌, Ok, Err, Result, refl, sym, ap, inl, inr, ◌⊎◌}
use Rattle.std.proofs.lemmas.Bool.{leb-true, leb-false, le-leb, lt-leb}
use Rattle.std.specs.List.{count_by}
use Rattle.faults.specs.declared.record.RecordFault.{RecordFault}
use Rattle.faults.specs.declared.record.RecordFault.TheVariants.{TooLong, Unfinished}
use Rattle.text.specs.Lines.{is_newline}
use Rattle.text.specs.Wholes.{max_text, finished, whole}

-- the check by its two tests
abbrev whole_at : ℕ → List ℕ → Bool → Bool → Result Unit RecordFault
whole_at n bs short ends = if short then (if ends then Ok tt else Err (Unfinished (n + count_by is_newline bs))) else Err TooLong

accepted_at : (n : ℕ) (bs : List ℕ) (short ends : Bool) → leb (length bs) max_text ≡ short → finished bs ≡ ends → whole_at n bs short ends ≡ Ok tt → (length bs ≤ max_text) × (finished bs ≡ true)
accepted_at n bs true true short-is ends-is e = (leb-true (length bs) max_text short-is, ends-is)
accepted_at n bs true false short-is ends-is e = absurd cc
accepted_at n bs false ends short-is ends-is e = absurd cc

pub whole_accepted : (n : ℕ) (bs : List ℕ) → whole n bs ≡ Ok tt → (length bs ≤ max_text) × (finished bs ≡ true)
whole_accepted n bs e = accepted_at n bs (leb (length bs) max_text) (finished bs) refl refl e

pub whole_passes : (n : ℕ) (bs : List ℕ) → length bs ≤ max_text → finished bs ≡ true → whole n bs ≡ Ok tt
whole_passes n bs short ends = rw (le-leb (length bs) max_text short, ends) refl

-- what is wrong with a text that fails the check
pub record Unended (n : ℕ) (bs : List ℕ) (e : RecordFault) : Type 0 where
  pub short : length bs ≤ max_text
  pub unended : finished bs ≡ false
  pub is : e ≡ Unfinished (n + count_by is_newline bs)

refused_at : (n : ℕ) (bs : List ℕ) (e : RecordFault) (short ends : Bool) → leb (length bs) max_text ≡ short → finished bs ≡ ends → whole_at n bs short ends ≡ Err e → ((e ≡ TooLong) × (max_text < length bs)) ⊎ Unended n bs e
refused_at n bs e true true short-is ends-is is = absurd cc
refused_at n bs e true false short-is ends-is is = inr (record { short = leb-true (length bs) max_text short-is; unended = ends-is; is = cc (is) })
refused_at n bs e false ends short-is ends-is is = inl (cc (is), leb-false (length bs) max_text short-is)

pub whole_refused : (n : ℕ) (bs : List ℕ) (e : RecordFault) → whole n bs ≡ Err e → ((e ≡ TooLong) × (max_text < length bs)) ⊎ Unended n bs e
whole_refused n bs e is = refused_at n bs e (leb (length bs) max_text) (finished bs) refl refl is

-- the converse
pub too_long : (n : ℕ) (bs : List ℕ) → max_text < length bs → whole n bs ≡ Err TooLong
too_long n bs long = rw (lt-leb (length bs) max_text long) refl

pub unfinished : (n i : ℕ) (bs : List ℕ) → length bs ≤ max_text → finished bs ≡ false → i ≡ n + count_by is_newline bs → whole n bs ≡ Err (Unfinished i)
unfinished n i bs short ends is = rw (le-leb (length bs) max_text short, ends) (ap (λ j. Err (Unfinished j)) (sym is))
