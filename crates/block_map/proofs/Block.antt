-- One block, written in place. Assumes nothing.
use Rattle.std.specs.Prelude.{◌≡◌, ℕ, ◌+◌, ◌*◌, ◌<◌, true, false, cond, ◌≢◌, List, length, ◌==◌, slice_index}
use Rattle.std.proofs.Math.Path.{sym, ap}
use Rattle.std.proofs.Common.{◌∙◌, ap₂, inl, inr}
use Rattle.std.proofs.Math.Logic.{⊎_elim}
use native.Mathlib.Omega.{arith}
use Rattle.std.proofs.lemmas.Bool.{cond-true, cond-false, cases_Bool, and_parts, and_from, both_ways, eqb-true, eq-eqb}
use Rattle.lattice.specs.Cells.{cell, with_present}
use Rattle.lattice.proofs.Places.{place_inside, same_place}
use Rattle.block_map.specs.Axis.{Pair}
use Rattle.block_map.specs.Block.{rewritten_in, number_of}
use Rattle.block_map.specs.Blocks.{offset, corner, block_number, bit, rewritten}
use Rattle.block_map.specs.Progress.{Rewrote, only}
use Rattle.block_map.specs.Writes.{entry_at, block_written}
use Rattle.block_map.proofs.Four.{four_length, four_other, four_first, four_second, four_third, four_fourth}

pair_apart : (n p X X' : ℕ) → Pair n p X X' → X ≢ X'
pair_apart n p X X' b e = let o = ap (offset p) e in let f = b.first.1 in let g = b.next_odd in omega arith

module _ (t : List ℕ) (w h p : ℕ) (cs : List ℕ) (long : length cs ≡ w * h) (X X' Y Y' : ℕ) (px : Pair w p X X') (py : Pair h p Y Y') where
  -- different cells are at different places
  apart : (x y u v : ℕ) → x < w → u < w → (x ≡ u → y ≢ v) → y * w + x ≢ v * w + u
  apart x y u v x< u< ne e = let s = same_place w x y u v x< u< e in ne s.0 s.1

  inside : (x y : ℕ) → x < w → y < h → y * w + x < length cs
  inside x y x< y< = rw long (place_inside w h x y x< y<)

  X< : X < w
  X< = px.first.0

  Y< : Y < h
  Y< = py.first.0

  X≢ : X ≢ X'
  X≢ = pair_apart w p X X' px

  Y≢ : Y ≢ Y'
  Y≢ = pair_apart h p Y Y' py

  new : List ℕ
  new = block_written t cs (Y * w + X) (Y * w + X') (Y' * w + X) (Y' * w + X')

  e : ℕ
  e = entry_at t cs (Y * w + X) (Y * w + X') (Y' * w + X) (Y' * w + X')

  at_first : cell w new X Y ≡ with_present (cell w cs X Y) (bit 0 0 e)
  unfolding new e
  at_first =
      four_first cs _ _ _ _ _ _ _ _ (inside X Y X< Y<) (apart X Y X' Y X< px.next_inside (λ a b. X≢ a)) (apart X Y X Y' X< X< (λ a b. Y≢ b)) (apart X Y X' Y' X< px.next_inside (λ a b. X≢ a))
      ∙ omega arith

  at_second : cell w new X' Y ≡ with_present (cell w cs X' Y) (bit 1 0 e)
  unfolding new e
  at_second =
      four_second cs _ _ _ _ _ _ _ _ (inside X' Y px.next_inside Y<) (apart X' Y X Y' px.next_inside X< (λ a b. Y≢ b)) (apart X' Y X' Y' px.next_inside px.next_inside (λ a b. Y≢ b))

  at_third : cell w new X Y' ≡ with_present (cell w cs X Y') (bit 0 1 e)
  unfolding new e
  at_third = four_third cs _ _ _ _ _ _ _ _ (inside X Y' X< py.next_inside) (apart X Y' X' Y' X< px.next_inside (λ a b. X≢ a))

  at_fourth : cell w new X' Y' ≡ with_present (cell w cs X' Y') (bit 1 1 e)
  unfolding new e
  at_fourth = four_fourth cs _ _ _ _ _ _ _ _ (inside X' Y' px.next_inside py.next_inside)

  entry_is : e ≡ slice_index t (block_number w h cs X Y)
  unfolding e
  entry_is = ap (λ v. slice_index t v) (sym (number_of w h p cs X X' Y Y' px py))

  -- a cell of the block, by its offsets
  in_block : (x y : ℕ) → x < w → y < h → corner w p x ≡ X → corner h p y ≡ Y → cell w new x y ≡ rewritten t w h p cs x y
  in_block x y x< y< cx cy = elim (px.members x x< cx) [
    | inl u ↦ elim (py.members y y< cy) [ inl v ↦ moved X Y 0 0 u v at_first | inr v ↦ moved X Y' 0 1 u v at_third ]
    | inr u ↦ elim (py.members y y< cy) [ inl v ↦ moved X' Y 1 0 u v at_second | inr v ↦ moved X' Y' 1 1 u v at_fourth ]
  ]
    where
      moved : (x' y' i j : ℕ) → (x ≡ x') × (offset p x ≡ i) → (y ≡ y') × (offset p y ≡ j) → cell w new x' y' ≡ with_present (cell w cs x' y') (bit i j e) → cell w new x y ≡ rewritten t w h p cs x y
      moved x' y' i j u v at =
          ap₂ (cell w new) u.0 v.0 ∙ at
          ∙ ap₂ (λ c f. with_present c (bit i j f)) (sym (ap₂ (cell w cs) u.0 v.0)) entry_is
          ∙ sym (rewritten_in t w h p cs x y X Y i j cx cy u.1 v.1)

  elsewhere : (x y : ℕ) → x < w → y < h → (corner w p x ≡ X → corner h p y ≢ Y) → cell w new x y ≡ cell w cs x y
  unfolding new
  elsewhere x y x< y< ne =
      four_other cs _ _ _ _ _ _ _ _ (y * w + x)
      (away X Y X< px.corner_of_first py.corner_of_first)
      (away X' Y px.next_inside px.corner_of_next py.corner_of_first)
      (away X Y' X< px.corner_of_first py.corner_of_next)
      (away X' Y' px.next_inside px.corner_of_next py.corner_of_next)
    where
      away : (u v : ℕ) → u < w → corner w p u ≡ X → corner h p v ≡ Y → y * w + x ≢ v * w + u
      away u v u< cu cv = apart x y u v x< u< (λ a b. ne (ap (corner w p) a ∙ cu) (ap (corner h p) b ∙ cv))

  pub rewrote_block : Rewrote t w h p (only X Y) cs (block_written t cs (Y * w + X) (Y * w + X') (Y' * w + X) (Y' * w + X'))
  unfolding new
  rewrote_block = record { count = four_length cs _ _ _ _ _ _ _ _; cells = λ x y x< y<. ⊎_elim (yes' x y x< y<) (no' x y x< y<) (cases_Bool (only X Y (corner w p x) (corner h p y))) }
    where
      yes' : (x y : ℕ) → x < w → y < h → only X Y (corner w p x) (corner h p y) ≡ true → cell w new x y ≡ cond (only X Y (corner w p x) (corner h p y)) (rewritten t w h p cs x y) (cell w cs x y)
      yes' x y x< y< b =
          let parts = and_parts (corner w p x == X) (corner h p y == Y) b in
          in_block x y x< y< (eqb-true (corner w p x) X parts.0) (eqb-true (corner h p y) Y parts.1) ∙ sym (cond-true (only X Y (corner w p x) (corner h p y)) (rewritten t w h p cs x y) (cell w cs x y) b)

      no' : (x y : ℕ) → x < w → y < h → only X Y (corner w p x) (corner h p y) ≡ false → cell w new x y ≡ cond (only X Y (corner w p x) (corner h p y)) (rewritten t w h p cs x y) (cell w cs x y)
      no' x y x< y< b =
          elsewhere x y x< y< (λ a c. both_ways (only X Y (corner w p x) (corner h p y)) b (and_from (corner w p x == X) (corner h p y == Y) (eq-eqb (corner w p x) X a) (eq-eqb (corner h p y) Y c)))
          ∙ sym (cond-false (only X Y (corner w p x) (corner h p y)) (rewritten t w h p cs x y) (cell w cs x y) b)
