-- The pass over one row. Assumes nothing.
use Rattle.std.proofs.Common.{◌≡◌, ℕ, ◌+◌, ◌*◌, ◌%◌, ◌<◌, List, length, get_or, set, refl, ap, ◌∙◌, arith}
use Rattle.std.proofs.lemmas.Bool.Decides.{nat_tests}
use Rattle.lattice.specs.Limits.{Side}
use Rattle.lattice.specs.Torus.{after, before}
use Rattle.lattice.proofs.Torus.{after_inside, before_inside, after-before}
use Rattle.lift.specs.Moments.{presents, xored}
use Rattle.lift.specs.Neighbours.{around}
use Rattle.lift.specs.Progress.{column, Answered}
use Rattle.lift.proofs.Progress.{presents_kept, answered_more}

-- three columns make up the number of the cell in the middle
around_columns : (w h : ℕ) (cs : List ℕ) (x y west here east : ℕ) → west ≡ column w h cs (before w x) y → here ≡ column w h cs x y → east ≡ column w h cs (after w x) y → (west + 2 * here + 4 * east) % 512 ≡ around w h (presents w cs) x y
around_columns w h cs x y west here east ew eh ee = omega arith

-- the cells of row y to the left of column x are done, and the columns to the west of x and at x are known; at the end of the row x is w, and
-- the column at it is the first
pub record RowUpTo (f : ℕ → ℕ) (w h y x : ℕ) (old cs : List ℕ) (west here : ℕ) : Type 0 where
  pub done : Answered f w h (y * w) (y * w + x) old cs
  pub west_is : west ≡ column w h old (before w x) y
  pub here_is : here ≡ column w h old (after w (before w x)) y

module _ {f : ℕ → ℕ} {w h : ℕ} (wide : Side w) (high : Side h) {y : ℕ} (y< : y < h) {old : List ℕ} (long : length old ≡ w * h) where
  -- the values so far have changed no column
  column_kept : (cs : List ℕ) (a b : ℕ) → Answered f w h a b old cs → (x : ℕ) → x < w → column w h cs x y ≡ column w h old x y
  column_kept cs a b p x x< =
      let kept = presents_kept f w h a b old cs p in
      rw (kept x (before h y) x< (before_inside h high y y<), kept x y x< y<, kept x (after h y) x< (after_inside h high y y<)) refl

  pub row_more : {x place west here east v : ℕ} {cs : List ℕ} → x < w → place ≡ y * w + x → RowUpTo f w h y x old cs west here → east ≡ column w h cs (after w x) y
      → v ≡ xored (get_or cs place 0) (f ((west + 2 * here + 4 * east) % 512))
      → RowUpTo f w h y (x + 1) old (set cs place v) here east
  row_more {x} {place} {west} {here} {east} {v} {cs} x< is p ee ev =
      let back : before w (x + 1) ≡ x = grind (arith, nat_tests) in
      let eh : here ≡ column w h old x y = p.here_is ∙ ap (λ u. column w h old u y) (after-before w wide x x<) in
      let ee' : east ≡ column w h old (after w x) y = ee ∙ column_kept cs _ _ p.done (after w x) (after_inside w wide x x<) in
      let number = around_columns w h old x y west here east p.west_is eh ee' in
      record {
        done = answered_more f w h x y place v old cs long x< y< is p.done (ev ∙ ap (λ n. xored (get_or cs place 0) (f n)) number);
        west_is = rw back eh;
        here_is = rw back ee';
      }
