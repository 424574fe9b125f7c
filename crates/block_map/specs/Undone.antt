-- A table and its inverse undo each other on the blocks of one phase. Assumes nothing.
use Rattle.std.specs.Prelude.{◌≡◌, ℕ, ◌+◌, ◌*◌, ◌/◌, ◌%◌, ◌<◌, ◌≤◌, List, length, slice_index, slice_index_or}
use Rattle.std.proofs.Math.Path.{refl, sym, ap}
use Rattle.std.proofs.Common.{◌∙◌, ap₂, arith}
use Rattle.std.proofs.Math.Logic.{inl, inr}
use Rattle.std.proofs.lemmas.Nat.{shr-shr, div-add-mod'}
use Rattle.lattice.specs.Cells.{cell, present, with_present, by_place}
use Rattle.lattice.specs.Lattice.{Bytes}
use Rattle.lattice.specs.Limits.{Side}
use Rattle.lattice.specs.Torus.{after}
use Rattle.lattice.proofs.Places.{cell_by_place, by_place_from_cells}
use Rattle.tables.specs.Inverses.{InvertedBy}
use Rattle.block_map.specs.Blocks.{offset, corner, block_number, bit, rewritten}
use Rattle.block_map.specs.Axis.{Pair, pair, corner_is}
use Rattle.block_map.specs.Block.{bit_below, rewritten_in, number_of}

present_below : (c : ℕ) → present c < 2
present_below c = omega arith

present_replaced : (c b : ℕ) → b < 2 → present (with_present c b) ≡ b
present_replaced c b h = omega arith

replaced_back : (c b : ℕ) → b < 2 → with_present (with_present c b) (present c) ≡ c
replaced_back c b h = omega arith

pub rewritten_below : (t : List ℕ) (w h p : ℕ) (cs : List ℕ) → Bytes cs → (x y : ℕ) → rewritten t w h p cs x y < 256
rewritten_below t w h p cs bytes x y =
    let c = bytes (y * w + x) in
    let b = bit_below (offset p x) (offset p y) (slice_index t (block_number w h cs (corner w p x) (corner h p y))) in
    omega arith

-- a number below sixteen is made up of its four bits
pub bits_back : (e : ℕ) → e < 16 → bit 0 0 e + 2 * bit 1 0 e + 4 * bit 0 1 e + 8 * bit 1 1 e ≡ e
bits_back e h =
    let whole : e / 1 ≡ e = omega arith in
    let last : e / 8 % 2 ≡ e / 8 = omega arith in
    let halves = div-add-mod' e 2 in
    let quarters = div-add-mod' (e / 2) 2 in
    let eighths = div-add-mod' (e / 4) 2 in
    rw (whole, last) (omega (arith, shr-shr e 1 1, shr-shr e 2 1))

-- the bits of a number that is made up of four
module _ (a b c d : ℕ) (a< : a < 2) (b< : b < 2) (c< : c < 2) (d< : d < 2) where
  pub first_bit : bit 0 0 (a + 2 * b + 4 * c + 8 * d) ≡ a
  first_bit = omega arith

  pub second_bit : bit 1 0 (a + 2 * b + 4 * c + 8 * d) ≡ b
  second_bit = omega arith

  pub third_bit : bit 0 1 (a + 2 * b + 4 * c + 8 * d) ≡ c
  third_bit = omega arith

  pub fourth_bit : bit 1 1 (a + 2 * b + 4 * c + 8 * d) ≡ d
  fourth_bit = omega arith

  pub number_below : a + 2 * b + 4 * c + 8 * d < 16
  number_below = omega arith

module _ (t u : List ℕ) (undo : InvertedBy 16 t u) (w h p : ℕ) (wide : Side w) (high : Side h) (phase : p ≤ 1) (cs : List ℕ) (long : length cs ≡ w * h) where
  new : List ℕ
  new = by_place w h (rewritten t w h p cs)

  module _ (X X' Y Y' : ℕ) (px : Pair w p X X') (py : Pair h p Y Y') where
    v : ℕ
    v = block_number w h cs X Y

    e : ℕ
    e = slice_index t v

    -- the four presents of the block
    a : ℕ
    a = present (cell w cs X Y)

    b : ℕ
    b = present (cell w cs X' Y)

    c : ℕ
    c = present (cell w cs X Y')

    d : ℕ
    d = present (cell w cs X' Y')

    v_is : v ≡ a + 2 * b + 4 * c + 8 * d
    unfolding v a b c d
    v_is = number_of w h p cs X X' Y Y' px py

    v_below : v < 16
    unfolding a b c d
    v_below = rw v_is (number_below a b c d (present_below (cell w cs X Y)) (present_below (cell w cs X' Y)) (present_below (cell w cs X Y')) (present_below (cell w cs X' Y')))

    became : (x y i j : ℕ) → x < w → y < h → corner w p x ≡ X → corner h p y ≡ Y → offset p x ≡ i → offset p y ≡ j → cell w new x y ≡ with_present (cell w cs x y) (bit i j e)
    unfolding new e v
    became x y i j x< y< cx cy ox oy = cell_by_place w h (rewritten t w h p cs) x y x< y< ∙ rewritten_in t w h p cs x y X Y i j cx cy ox oy

    present_became : (x y i j : ℕ) → x < w → y < h → corner w p x ≡ X → corner h p y ≡ Y → offset p x ≡ i → offset p y ≡ j → present (cell w new x y) ≡ bit i j e
    present_became x y i j x< y< cx cy ox oy =
        ap present (became x y i j x< y< cx cy ox oy) ∙ present_replaced (cell w cs x y) (bit i j e) (bit_below i j e)

    number_became : block_number w h new X Y ≡ e
    unfolding e
    number_became =
        let a' = present_became X Y 0 0 px.first.0 py.first.0 px.corner_of_first py.corner_of_first px.first.1 py.first.1 in
        let b' = present_became X' Y 1 0 px.next_inside py.first.0 px.corner_of_next py.corner_of_first px.next_odd py.first.1 in
        let c' = present_became X Y' 0 1 px.first.0 py.next_inside px.corner_of_first py.corner_of_next px.first.1 py.next_odd in
        let d' = present_became X' Y' 1 1 px.next_inside py.next_inside px.corner_of_next py.corner_of_next px.next_odd py.next_odd in
        number_of w h p new X X' Y Y' px py ∙ rw (a', b', c', d') (bits_back (slice_index t v) (undo v v_below).0)

    entry_back : slice_index_or u (block_number w h new X Y) 0 ≡ v
    unfolding e
    entry_back = ap (λ n. slice_index u n) number_became ∙ (undo v v_below).1

    -- the cell at the offsets i and j is as it was, if v has its present there
    came_back : (x y i j : ℕ) → x < w → y < h → corner w p x ≡ X → corner h p y ≡ Y → offset p x ≡ i → offset p y ≡ j → bit i j v ≡ present (cell w cs x y)
        → rewritten u w h p new x y ≡ cell w cs x y
    came_back x y i j x< y< cx cy ox oy same =
        rewritten_in u w h p new x y X Y i j cx cy ox oy
        ∙ ap₂ (λ k n. with_present k (bit i j n)) (became x y i j x< y< cx cy ox oy) entry_back
        ∙ ap (with_present (with_present (cell w cs x y) (bit i j e))) same
        ∙ replaced_back (cell w cs x y) (bit i j e) (bit_below i j e)

    bits_of_v : (bit 0 0 v ≡ a) × (bit 1 0 v ≡ b) × (bit 0 1 v ≡ c) × (bit 1 1 v ≡ d)
    unfolding a b c d
    bits_of_v =
        let pa = present_below (cell w cs X Y) in
        let pb = present_below (cell w cs X' Y) in
        let pc = present_below (cell w cs X Y') in
        let pd = present_below (cell w cs X' Y') in (
          ap (bit 0 0) v_is ∙ first_bit a b c d pa pb pc pd,
          ap (bit 1 0) v_is ∙ second_bit a b c d pa pb pc pd,
          ap (bit 0 1) v_is ∙ third_bit a b c d pa pb pc pd,
          ap (bit 1 1) v_is ∙ fourth_bit a b c d pa pb pc pd,
        )

    back : (x y : ℕ) → x < w → y < h → corner w p x ≡ X → corner h p y ≡ Y → rewritten u w h p new x y ≡ cell w cs x y
    unfolding a b c d
    back x y x< y< cx cy = elim (px.members x x< cx) [
      | inl m ↦ elim (py.members y y< cy) [ inl n ↦ at X Y 0 0 m n bits_of_v.0 | inr n ↦ at X Y' 0 1 m n bits_of_v.2 ]
      | inr m ↦ elim (py.members y y< cy) [ inl n ↦ at X' Y 1 0 m n bits_of_v.1 | inr n ↦ at X' Y' 1 1 m n bits_of_v.3 ]
    ]
      where
        at : (x' y' i j : ℕ) → (x ≡ x') × (offset p x ≡ i) → (y ≡ y') × (offset p y ≡ j) → bit i j v ≡ present (cell w cs x' y') → rewritten u w h p new x y ≡ cell w cs x y
        at x' y' i j m n same = came_back x y i j x< y< cx cy m.1 n.1 (same ∙ ap present (sym (ap₂ (cell w cs) m.0 n.0)))

  pub blocks_undone : by_place w h (rewritten u w h p (by_place w h (rewritten t w h p cs))) ≡ cs
  unfolding new
  blocks_undone = sym (by_place_from_cells w h (omega arith) (rewritten u w h p new) cs long (λ x y x< y<.
      let X = corner w p x in
      let Y = corner h p y in
      sym (back X (after w X) Y (after h Y)
      (pair w p wide phase X (after w X) (corner_is w p wide phase x x<) refl)
      (pair h p high phase Y (after h Y) (corner_is h p high phase y y<) refl)
      x y x< y< refl refl)))
