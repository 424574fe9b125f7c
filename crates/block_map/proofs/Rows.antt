-- The blocks one after another: row by row, and in each row from its first column on. Assumes nothing.
use Rattle.std.proofs.Common.{◌≡◌, ℕ, ◌+◌, ◌-◌, ◌*◌, ◌<◌, ◌≤◌, ◌≢◌, Bool, true, false, ◌&&◌, ◌||◌, eqb, ltb, List, length, arith}
use Rattle.std.proofs.lemmas.Bool.Decides.{nat_tests}
use Rattle.lattice.specs.Cells.{by_place}
use Rattle.lattice.specs.Limits.{Side}
use Rattle.block_map.specs.Blocks.{offset, rewritten}
use Rattle.block_map.specs.Progress.{Rewrote, IsCorner, only, in_row}
use Rattle.block_map.proofs.Progress.{rewrote_none, rewrote_same, rewrote_join, rewrote_all}

-- the blocks with their corner in row Y and in a column below n
abbrev pub row_before : ℕ → ℕ → ℕ → ℕ → Bool
row_before Y n x y = ltb x n && eqb y Y

-- the blocks with their corner in a row below n
abbrev pub rows_before : ℕ → ℕ → ℕ → Bool
rows_before n x y = ltb y n

-- the blocks of `done n` are done, where n is the next corner along an axis that is gone through up to `end`
pub record Through (t : List ℕ) (w h p end n : ℕ) (done : ℕ → ℕ → ℕ → Bool) (old new : List ℕ) : Type 0 where
  pub corner : offset p n ≡ 0
  pub bounded : n ≤ end + 1
  pub blocks : Rewrote t w h p (done n) old new

module _ (t : List ℕ) (w h p : ℕ) (wide : Side w) (high : Side h) (phase : p ≤ 1) where
  -- some blocks are done, and then some others; at corners the two together are `all`
  more : (done next all : ℕ → ℕ → Bool) (old mid new : List ℕ) → ((x y : ℕ) → next x y ≡ true → done x y ≡ false)
      → ((x y : ℕ) → IsCorner w p x → IsCorner h p y → (done x y || next x y) ≡ all x y)
      → Rewrote t w h p done old mid → Rewrote t w h p next mid new → Rewrote t w h p all old new
  more done next all old mid new apart join first second =
      rewrote_same t w h p wide high phase (λ x y. done x y || next x y) all old new join
      (rewrote_join t w h p wide high phase done next old mid new apart first second)

  -- no corner is in the set
  none : (done : ℕ → ℕ → Bool) (cs : List ℕ) → ((x y : ℕ) → IsCorner w p x → IsCorner h p y → false ≡ done x y) → Rewrote t w h p done cs cs
  none done cs empty = rewrote_same t w h p wide high phase (λ _ _. false) done cs cs empty (rewrote_none t w h p wide high phase cs)

  pub row_none : (Y : ℕ) (cs : List ℕ) → Through t w h p (w - 1) p (row_before Y) cs cs
  row_none Y cs = record { corner = omega arith; bounded = omega arith; blocks = none (row_before Y p) cs (λ x y fx fy. grind (arith, nat_tests)) }

  pub row_more : (Y X : ℕ) (old mid new : List ℕ) → X < w - 1 → Through t w h p (w - 1) X (row_before Y) old mid → Rewrote t w h p (only X Y) mid new → Through t w h p (w - 1) (X + 2) (row_before Y) old new
  row_more Y X old mid new inside before here = record {
    corner = let c = before.corner in omega arith;
    bounded = omega arith;
    blocks =
        let c = before.corner in
        more (row_before Y X) (only X Y) (row_before Y (X + 2)) old mid new (λ x y e. grind (arith, nat_tests)) (λ x y fx fy. grind (arith, nat_tests)) before.blocks here;
  }

  -- at phase 0 a row is done when its columns are
  pub row_all : (Y n : ℕ) (old new : List ℕ) → p ≢ 1 → w - 1 ≤ n → Through t w h p (w - 1) n (row_before Y) old new → Rewrote t w h p (in_row Y) old new
  row_all Y n old new even end before =
      let c = before.corner in
      rewrote_same t w h p wide high phase (row_before Y n) (in_row Y) old new (λ x y fx fy. grind (arith, nat_tests)) before.blocks

  -- at phase 1 one block is left, which wraps round the end
  pub row_last : (Y X n : ℕ) (old mid new : List ℕ) → p ≡ 1 → X ≡ w - 1 → w - 1 ≤ n → Through t w h p (w - 1) n (row_before Y) old mid → Rewrote t w h p (only X Y) mid new → Rewrote t w h p (in_row Y) old new
  row_last Y X n old mid new odd at end before here =
      let c = before.corner in
      let b = before.bounded in
      let last : n ≡ X = omega arith in
      more (row_before Y n) (only X Y) (in_row Y) old mid new (λ x y e. grind (arith, nat_tests)) (λ x y fx fy. grind (arith, nat_tests)) before.blocks here

  pub rows_none : (cs : List ℕ) → Through t w h p h p rows_before cs cs
  rows_none cs = record { corner = omega arith; bounded = omega arith; blocks = none (rows_before p) cs (λ x y fx fy. grind (arith, nat_tests)) }

  pub rows_more : (Y : ℕ) (old mid new : List ℕ) → Y < h → Through t w h p h Y rows_before old mid → Rewrote t w h p (in_row Y) mid new → Through t w h p h (Y + 2) rows_before old new
  rows_more Y old mid new inside before here = record {
    corner = let c = before.corner in omega arith;
    bounded = omega arith;
    blocks =
        let c = before.corner in
        more (rows_before Y) (in_row Y) (rows_before (Y + 2)) old mid new (λ x y e. grind (arith, nat_tests)) (λ x y fx fy. grind (arith, nat_tests)) before.blocks here;
  }

  pub rows_all : (n : ℕ) (old new : List ℕ) → length old ≡ w * h → h ≤ n → Through t w h p h n rows_before old new → new ≡ by_place w h (rewritten t w h p old)
  rows_all n old new long end before = rewrote_all t w h p wide high phase (rows_before n) old new long (λ x y fx fy. grind (arith, nat_tests)) before.blocks
