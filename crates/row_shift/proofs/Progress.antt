-- Rows that are moved one after another. Assumes nothing.
use Rattle.std.proofs.Common.{◌≡◌, ℕ, ◌+◌, ◌*◌, ◌<◌, ◌≤◌, List, length, get_or, take, drop, ◌∙◌, below_more, arith}
use Rattle.std.proofs.lemmas.List.{places}
use borrow.Rule.Slice.PartMut.{put_mid}
use Rattle.lattice.specs.Cells.{cell}
use Rattle.lattice.specs.Limits.{Side}
use Rattle.lattice.proofs.Places.{place_inside, row_ends_inside}
use Rattle.row_shift.specs.Laws.{comes_inside}
use Rattle.row_shift.specs.Shifts.{comes_from}
use Rattle.row_shift.specs.declared.way.Way.{Way}

-- the rows before row n are moved, and the others are as they were
pub record RowsShifted (way : Way) (w n : ℕ) (old new : List ℕ) : Type 0 where
  pub done : (y : ℕ) → y < n → (x : ℕ) → x < w → cell w new x y ≡ cell w old (comes_from way w x) y
  pub rest : (y : ℕ) → n ≤ y → (x : ℕ) → x < w → cell w new x y ≡ cell w old x y

-- row n is the k cells of `mid` from the place a on, and becomes `row`
module _ (w n a k : ℕ) (mid row : List ℕ) (begins : a ≡ n * w) (long : k ≡ w) (inside : a + k ≤ length mid) (count : length row ≡ k) where
  earlier : (y : ℕ) → y < n → (x : ℕ) → x < w → cell w (put_mid a k mid row) x y ≡ cell w mid x y
  earlier y y< x x< = let p = place_inside w n x y x< y< in grind (arith, places)

  later : (y : ℕ) → n < y → (x : ℕ) → cell w (put_mid a k mid row) x y ≡ cell w mid x y
  later y y< x = let p = row_ends_inside w y n y< in grind (arith, places)

  module _ (way : Way) (wide : Side w) (moved : (x : ℕ) → x < length row → get_or row x 0 ≡ get_or (take k (drop a mid)) (comes_from way (length (take k (drop a mid))) x) 0) where
    here : (x : ℕ) → x < w → cell w (put_mid a k mid row) x n ≡ cell w mid (comes_from way w x) n
    here x x< =
        let from : length (take k (drop a mid)) ≡ w = grind (arith, places) in
        let m = rw from at (moved x (omega arith)) in
        let i = comes_inside way w wide x x< in
        grind (arith, places)

    pub rows_more : {old : List ℕ} → RowsShifted way w n old mid → RowsShifted way w (n + 1) old (put_mid a k mid row)
    rows_more p = record {
      done = below_more _ n (λ y y< x x<. earlier y y< x x< ∙ p.done y y< x x<) (λ x x<. here x x< ∙ p.rest n (omega arith) (comes_from way w x) (comes_inside way w wide x x<));
      rest = λ y y< x x<. later y (omega arith) x ∙ p.rest y (omega arith) x x<;
    }
