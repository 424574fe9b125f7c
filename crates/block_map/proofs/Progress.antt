-- Rewriting some blocks, and then some others. Assumes nothing.
use Rattle.std.proofs.Common.{◌≡◌, ℕ, ◌*◌, ◌<◌, ◌≤◌, Bool, true, false, cond, ◌||◌, List, length, sym, refl, ap, ◌∙◌, ap₂, ⊎_elim, arith}
use Rattle.std.proofs.lemmas.Bool.{cond-true, cond-false, cases_Bool, or_right}
use Rattle.lattice.specs.Cells.{cell, by_place}
use Rattle.lattice.specs.Limits.{Side}
use Rattle.lattice.specs.Torus.{after}
use Rattle.lattice.proofs.Places.{by_place_from_cells}
use Rattle.block_map.specs.Blocks.{corner, block_number, rewritten}
use Rattle.block_map.specs.Progress.{Rewrote, IsCorner}
use Rattle.lattice.proofs.Torus.{after_inside}
use Rattle.block_map.specs.Axis.{corner_is, corner_first, corner_after}

or_false : (a b : Bool) → b ≡ false → (a || b) ≡ a
or_false true b e = refl
or_false false b e = e

module _ (t : List ℕ) (w h p : ℕ) (wide : Side w) (high : Side h) (phase : p ≤ 1) where
  -- the number of a block depends on its four cells alone
  pub same_number : (old new : List ℕ) (X Y : ℕ) → IsCorner w p X → IsCorner h p Y
      → ((x y : ℕ) → x < w → y < h → corner w p x ≡ X → corner h p y ≡ Y → cell w new x y ≡ cell w old x y)
      → block_number w h new X Y ≡ block_number w h old X Y
  same_number old new X Y fx fy same =
      let X' = after w X in
      let Y' = after h Y in
      let xi = after_inside w wide X fx.0 in
      let yi = after_inside h high Y fy.0 in
      let cx = corner_first w p wide phase X fx.1 in
      let cy = corner_first h p high phase Y fy.1 in
      let cx' = corner_after w p wide phase X fx in
      let cy' = corner_after h p high phase Y fy in
      let a = same X Y fx.0 fy.0 cx cy in
      let b = same X' Y xi fy.0 cx' cy in
      let c = same X Y' fx.0 yi cx cy' in
      let d = same X' Y' xi yi cx' cy' in
      rw (a, b, c, d) refl

  pub rewrote_none : (cs : List ℕ) → Rewrote t w h p (λ _ _. false) cs cs
  rewrote_none cs = record { count = refl; cells = λ x y _ _. refl }

  -- only the values at corners matter
  pub rewrote_same : (D E : ℕ → ℕ → Bool) (old new : List ℕ) → ((X Y : ℕ) → IsCorner w p X → IsCorner h p Y → D X Y ≡ E X Y)
      → Rewrote t w h p D old new → Rewrote t w h p E old new
  rewrote_same D E old new same r = record {
    count = r.count;
    cells = λ x y x< y<. r.cells x y x< y< ∙ ap (λ b. cond b (rewritten t w h p old x y) (cell w old x y)) (same (corner w p x) (corner h p y) (corner_is w p wide phase x x<) (corner_is h p high phase y y<));
  }

  -- a block in the second set is still as it was at first
  pub rewrote_join : (D E : ℕ → ℕ → Bool) (old mid new : List ℕ) → ((X Y : ℕ) → E X Y ≡ true → D X Y ≡ false)
      → Rewrote t w h p D old mid → Rewrote t w h p E mid new → Rewrote t w h p (λ X Y. D X Y || E X Y) old new
  rewrote_join D E old mid new apart first second = record {
    count = second.count ∙ first.count;
    cells = λ x y x< y<. ⊎_elim (λ e. now x y x< y< e) (λ e. before x y x< y< e) (cases_Bool (E (corner w p x) (corner h p y)));
  }
    where
      now : (x y : ℕ) → x < w → y < h → E (corner w p x) (corner h p y) ≡ true → cell w new x y ≡ cond (D (corner w p x) (corner h p y) || E (corner w p x) (corner h p y)) (rewritten t w h p old x y) (cell w old x y)
      now x y x< y< e =
          let X = corner w p x in
          let Y = corner h p y in
          let kept : (u v : ℕ) → u < w → v < h → corner w p u ≡ X → corner h p v ≡ Y → cell w mid u v ≡ cell w old u v = λ u v u< v< cu cv.
          first.cells u v u< v< ∙ cond-false (D (corner w p u) (corner h p v)) _ _ (ap₂ D cu cv ∙ apart X Y e) in
          let number = same_number old mid X Y (corner_is w p wide phase x x<) (corner_is h p high phase y y<) kept in
          let here = kept x y x< y< refl refl in
          let fresh = second.cells x y x< y< ∙ cond-true (E X Y) _ _ e in
          fresh ∙ rw (here, number) (sym (cond-true (D X Y || E X Y) _ _ (or_right (D X Y) (E X Y) e)))

      before : (x y : ℕ) → x < w → y < h → E (corner w p x) (corner h p y) ≡ false → cell w new x y ≡ cond (D (corner w p x) (corner h p y) || E (corner w p x) (corner h p y)) (rewritten t w h p old x y) (cell w old x y)
      before x y x< y< e =
          let X = corner w p x in
          let Y = corner h p y in
          second.cells x y x< y< ∙ cond-false (E X Y) _ _ e ∙ first.cells x y x< y<
          ∙ ap (λ b. cond b (rewritten t w h p old x y) (cell w old x y)) (sym (or_false (D X Y) (E X Y) e))

  pub rewrote_all : (D : ℕ → ℕ → Bool) (old new : List ℕ) → length old ≡ w * h → ((X Y : ℕ) → IsCorner w p X → IsCorner h p Y → D X Y ≡ true)
      → Rewrote t w h p D old new → new ≡ by_place w h (rewritten t w h p old)
  rewrote_all D old new long all r =
      by_place_from_cells w h (omega arith) (rewritten t w h p old) new (r.count ∙ long)
      (λ x y x< y<. r.cells x y x< y< ∙ cond-true (D (corner w p x) (corner h p y)) _ _ (all (corner w p x) (corner h p y) (corner_is w p wide phase x x<) (corner_is h p high phase y y<)))
