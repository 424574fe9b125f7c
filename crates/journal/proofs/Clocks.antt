-- The clock of a journal: what a step adds to it, and how far it can go. Assumes nothing.
use Rattle.std.proofs.Common.{◌≡◌, ℕ, suc, ◌+◌, ◌-◌, ◌*◌, ◌<◌, ◌≤◌, ℤ, pos, negsuc, Bool, true, false, cond, ltb, List, [], ◌∷◌, ◌++◌, length, take, drop, get_or, unsigned_abs, refl, sym, ap, ap₂, ◌∙◌, arith, FitsSigned, w32}
use Rattle.std.specs.Prelude.{◌+ℤ◌}
use Rattle.std.proofs.lemmas.List.Sums.{fold-append}
use Rattle.std.proofs.lemmas.Int.{fits_signed_from_abs}
use Rattle.actions.specs.Actions.{Action}
use Rattle.actions.specs.declared.flip.Flip.{Flip}
use Rattle.journal.proofs.Standing.{read_more, standing_read}
use Rattle.journal.specs.Views.{entry_ticks, all_places, read, read_all}
use Rattle.journal.specs.declared.entry.Entry.{Entry}
use Rattle.journal.specs.declared.entry.Entry.TheVariants.{Step as StepEntry, Edit as EditEntry}
use Rattle.ledger.specs.Ledgers.{ticks, clock_of}

clock_more : (acts : List Action) (a : Action) → clock_of (acts ++ (a ∷ [])) ≡ clock_of acts +ℤ ticks a
clock_more acts a = fold-append (λ t x. t +ℤ ticks x) (pos 0) acts (a ∷ [])

abs_difference : (c : Bool) (a b : ℕ) → unsigned_abs (cond c (negsuc (suc b - suc a)) (pos (a - suc b))) ≤ a + suc b
abs_difference true a b = omega arith
abs_difference false a b = omega arith

abs_sum : (a b : ℤ) → unsigned_abs (a +ℤ b) ≤ unsigned_abs a + unsigned_abs b
abs_sum (pos a) (pos b) = omega arith
abs_sum (pos a) (negsuc b) = abs_difference (ltb a (suc b)) a b
abs_sum (negsuc a) (pos b) = omega (arith, abs_difference (ltb b (suc a)) b a)
abs_sum (negsuc a) (negsuc b) = omega arith

same_ticks : (e : Entry) (fs : List Flip) → ticks (read e fs) ≡ entry_ticks e
same_ticks (StepEntry z) fs = refl
same_ticks (EditEntry n) fs = refl

-- the clock c of the first i entries, and what the next one adds to it, which is t: at most 10,000 either way
module _ (c t : ℤ) (i : ℕ) (so_far : unsigned_abs c ≤ 10000 * i) (small : unsigned_abs t ≤ 10000) where
  pub sum_small : unsigned_abs (c +ℤ t) ≤ 10000 * (i + 1)
  sum_small = omega (arith, abs_sum c t)

  pub sum_fits : i < 256 → FitsSigned w32 (c +ℤ t)
  sum_fits few = fits_signed_from_abs w32 (c +ℤ t) (omega (arith, sum_small))

pub next_clock : (es : List Entry) (fs : List Flip) (i : ℕ) (d : Entry) (c t : ℤ) → i < length es → c ≡ clock_of (read_all (take i es) fs) → t ≡ entry_ticks (get_or es i d) → c +ℤ t ≡ clock_of (read_all (take (i + 1) es) fs)
next_clock es fs i d c t inside so_far next =
    ap₂ ◌+ℤ◌ so_far (next ∙ sym (same_ticks (get_or es i d) (drop (all_places (take i es)) fs)))
    ∙ sym (ap clock_of (read_more es fs i d inside) ∙ clock_more (read_all (take i es) fs) (read (get_or es i d) (drop (all_places (take i es)) fs)))

pub standing_clock : (es : List Entry) (fs : List Flip) (s u i : ℕ) → s + u ≤ length es → i ≡ s → clock_of (read_all (take i es) fs) ≡ clock_of (take s (read_all (take (s + u) es) fs))
standing_clock es fs s u i inside all = ap (λ k. clock_of (read_all (take k es) fs)) all ∙ ap clock_of (sym (standing_read es fs s u inside))
