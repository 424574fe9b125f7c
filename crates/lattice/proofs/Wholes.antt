-- Maps that are defined on whole lattices, and leave every other lattice as it is. Assumes nothing.
use Rattle.std.proofs.Common.{◌≡◌, ◌-◌, ◌*◌, ◌≤◌, eqb, length, refl, ap, ◌∙◌, ⊎_elim, arith}
use mathlib.Core.Path.{subst⁻¹}
use Rattle.std.proofs.lemmas.Bool.{cond-true, cond-false, cases_eq, eq-eqb, ne_eqb}
use Rattle.lattice.specs.Lattice.{Lattice, Whole, Within, SameShape, turned, if_whole}
use Rattle.lattice.specs.Maps.{UndoneBy, Keeps}

pub if_whole_yes : (f : Lattice → Lattice) (l : Lattice) → Whole l → if_whole f l ≡ f l
if_whole_yes f l whole = cond-true (eqb (length l.cells) (l.width * l.height)) (f l) l (eq-eqb (length l.cells) (l.width * l.height) whole)

pub if_whole_no : (f : Lattice → Lattice) (l : Lattice) → (Whole l → ⊥) → if_whole f l ≡ l
if_whole_no f l part = cond-false (eqb (length l.cells) (l.width * l.height)) (f l) l (ne_eqb (length l.cells) (l.width * l.height) part)

-- what holds of f l for a whole l, and of an l that stays as it is, holds of if_whole f l
pub by_whole : (f : Lattice → Lattice) (l : Lattice) (P : Lattice → Type 0) → (Whole l → P (f l)) → P l → P (if_whole f l)
by_whole f l P yes' no' =
    ⊎_elim (λ whole. subst⁻¹ P (if_whole_yes f l whole) (yes' whole)) (λ part. subst⁻¹ P (if_whole_no f l part) no')
    (cases_eq (length l.cells) (l.width * l.height))

pub same_shape : (l : Lattice) → SameShape l l
same_shape l = record { width = refl; height = refl; count = refl }

pub same_shape_trans : (l m n : Lattice) → SameShape l m → SameShape m n → SameShape l n
same_shape_trans l m n s t = record { width = t.width ∙ s.width; height = t.height ∙ s.height; count = t.count ∙ s.count }

pub same_shape_whole : (l m : Lattice) → SameShape l m → Whole l → Whole m
same_shape_whole l m s whole = s.count ∙ whole ∙ rw (s.width, s.height) refl

pub if_whole_keeps : (f : Lattice → Lattice) → ((l : Lattice) → Within l → Whole l → SameShape l (f l)) → ((l : Lattice) → Within l → Whole l → Within (f l)) → Keeps (if_whole f)
if_whole_keeps f shape within = record {
  shape = λ l w. by_whole f l (SameShape l) (shape l w) (same_shape l);
  within = λ l w. by_whole f l Within (within l w) w;
  partial = λ l w part. if_whole_no f l part;
}

pub if_whole_undoes : (f g : Lattice → Lattice) → ((l : Lattice) → Within l → Whole l → SameShape l (f l)) → ((l : Lattice) → Within l → Whole l → g (f l) ≡ l) → UndoneBy (if_whole f) (if_whole g)
if_whole_undoes f g shape undone l w = ⊎_elim yes' no' (cases_eq (length l.cells) (l.width * l.height))
  where
    yes' : Whole l → if_whole g (if_whole f l) ≡ l
    yes' whole = ap (if_whole g) (if_whole_yes f l whole) ∙ if_whole_yes g (f l) (same_shape_whole l (f l) (shape l w whole) whole) ∙ undone l w whole

    no' : (Whole l → ⊥) → if_whole g (if_whole f l) ≡ l
    no' part = ap (if_whole g) (if_whole_no f l part) ∙ if_whole_no g l part

pub turned_twice : (l : Lattice) → l.phase ≤ 1 → turned (turned l) ≡ l
turned_twice l h = let back : 1 - (1 - l.phase) ≡ l.phase = omega arith in λ i. record { width = l.width; height = l.height; phase = back i; cells = l.cells }

pub turned_within : (l : Lattice) → Within l → Within (turned l)
turned_within l w = record { wide = w.wide; high = w.high; area = w.area; phased = omega arith; bytes = w.bytes }
