-- A rule's values XORed into the pasts, place after place. Assumes nothing.
use Rattle.std.proofs.Common.{◌≡◌, ℕ, ◌+◌, ◌*◌, ◌<◌, ◌≤◌, List, length, get_or, set, ◌∙◌, ⊎_elim, arith}
use Rattle.std.proofs.lemmas.List.{length-set, get_or-set_same, get_or-set_other}
use Rattle.std.proofs.lemmas.Bool.{cases_eq}
use Rattle.lattice.specs.Cells.{cell}
use Rattle.lattice.specs.Limits.{Side}
use Rattle.lattice.proofs.Places.{place_inside, same_place}
use Rattle.lift.specs.Moments.{xored, presents}
use Rattle.lift.specs.Neighbours.{around}
use Rattle.lift.specs.Progress.{answered, Answered}
use Rattle.lift.specs.Bits.{present_xored}
use Rattle.lift.specs.NeighboursLemmas.{around_same}

module _ (f : ℕ → ℕ) (w h : ℕ) where
  -- no present changes
  pub presents_kept : (a b : ℕ) (old new : List ℕ) → Answered f w h a b old new → (x y : ℕ) → x < w → y < h → presents w new x y ≡ presents w old x y
  presents_kept a b old new p x y x< y< = grind (arith, present_xored, p.done x y x< y<, p.rest x y x< y<)

  -- one more place of row Y
  pub answered_more : (X Y k v : ℕ) (old mid : List ℕ) → length old ≡ w * h → X < w → Y < h → k ≡ Y * w + X → Answered f w h (Y * w) (Y * w + X) old mid → v ≡ xored (get_or mid k 0) (f (around w h (presents w old) X Y))
      → Answered f w h (Y * w) (Y * w + (X + 1)) old (set mid k v)
  answered_more X Y k v old mid long X< Y< is p ev = record {
    count = length-set mid k v ∙ p.count;
    done = λ x y x< y< from upto. ⊎_elim (here x y x<) (λ ne. grind (arith, get_or-set_other, p.done x y x< y<)) (cases_eq (y * w + x) k);
    rest = λ x y x< y< o. grind (arith, get_or-set_other, p.rest x y x< y<);
  }
    where
      here : (x y : ℕ) → x < w → y * w + x ≡ k → cell w (set mid k v) x y ≡ answered f w h old x y
      here x y x< e = let s = same_place w x y X Y x< X< (e ∙ is) in rw (s.0, s.1) (grind (arith, get_or-set_same, p.count, place_inside w h X Y X< Y<, p.rest X Y X< Y<))

  -- the second part reads the same presents as the first
  pub answered_join : Side w → Side h → {a b c : ℕ} {old mid new : List ℕ} → a ≤ b → b ≤ c → Answered f w h a b old mid → Answered f w h b c mid new → Answered f w h a c old new
  answered_join wide high {a} {b} {c} {old} {mid} {new} ab bc p q = record {
    count = q.count ∙ p.count;
    done = λ x y x< y< from upto.
        let seen = around_same w h wide high (presents w mid) (presents w old) (presents_kept a b old mid p) x y x< y< in
        grind (arith, p.done x y x< y<, p.rest x y x< y<, q.done x y x< y<, q.rest x y x< y<);
    rest = λ x y x< y< o. grind (arith, p.rest x y x< y<, q.rest x y x< y<);
  }
