-- Columns, rows and places. Assumes nothing.
use Rattle.std.proofs.Common.{◌≡◌, ℕ, ◌+◌, ◌*◌, ◌/◌, ◌%◌, ◌<◌, ◌≤◌, List, length, get_or, sym, ap, ◌∙◌, ap₂, ⊎_elim, mul-le-mul_right, mul_comm, add-mul, zero-add, arith}
use Rattle.std.proofs.lemmas.Nat.{mul-add-lt, div-mul-add, mod-mul-add, div-add-mod', div_below, mod_below}
use Rattle.std.proofs.lemmas.List.FromFn.{length-map-range_with_len, get_or-map-range_with_len, fill_by_all}
use Rattle.std.proofs.lemmas.List.{get_or_past}
use Rattle.std.proofs.lemmas.Bool.{cases_lt}
use Rattle.lattice.specs.Cells.{cell, by_place, OnlyBelow}
use Rattle.lattice.specs.Lattice.{Bytes}

pub place_inside : (w h x y : ℕ) → x < w → y < h → y * w + x < w * h
place_inside w h x y x< y< = mul-add-lt y w x h y< x<

-- a row ends within the cells
pub row_ends_inside : (w h y : ℕ) → y < h → y * w + w ≤ w * h
row_ends_inside w h y y< = let m : (y + 1) * w ≤ h * w = mul-le-mul_right w (omega arith) in omega (arith, add-mul y 1 w, mul_comm w h)

-- cells at the same place are the same cell
pub same_place : (w x y u v : ℕ) → x < w → u < w → y * w + x ≡ v * w + u → (x ≡ u) × (y ≡ v)
same_place w x y u v x< u< e = (
  sym (mod-mul-add y w x x<) ∙ ap (λ k. k % w) e ∙ mod-mul-add v w u u<,
  sym (div-mul-add y w x x<) ∙ ap (λ k. k / w) e ∙ div-mul-add v w u u<,
)

module _ (w h : ℕ) where
  pub length_by_place : (f : ℕ → ℕ → ℕ) → length (by_place w h f) ≡ w * h
  length_by_place f = length-map-range_with_len (λ k. f (k % w) (k / w)) 0 (w * h)

  pub cell_by_place : (f : ℕ → ℕ → ℕ) (x y : ℕ) → x < w → y < h → cell w (by_place w h f) x y ≡ f x y
  cell_by_place f x y x< y< =
      get_or-map-range_with_len (λ k. f (k % w) (k / w)) 0 (w * h) (y * w + x) (y * w + x) 0 (place_inside w h x y x< y<) (zero-add (y * w + x))
      ∙ ap₂ f (mod-mul-add y w x x<) (div-mul-add y w x x<)

  -- each place has a column and a row
  module _ (some : 0 < w) (k : ℕ) (inside : k < w * h) where
    pub column_inside : k % w < w
    column_inside = mod_below k w some

    pub row_inside : k / w < h
    row_inside = div_below k w h some (rw mul_comm at inside)

    pub place_of : (k / w) * w + k % w ≡ k
    place_of = div-add-mod' k w

  pub by_place_from_cells : 0 < w → (f : ℕ → ℕ → ℕ) (cs : List ℕ) → length cs ≡ w * h → ((x y : ℕ) → x < w → y < h → cell w cs x y ≡ f x y) → cs ≡ by_place w h f
  by_place_from_cells some f cs long at = fill_by_all (λ k. f (k % w) (k / w)) cs (w * h) 0 long (λ k inside.
      ap (λ j. get_or cs j 0) (sym (place_of some k inside)) ∙ at (k % w) (k / w) (column_inside some k inside) (row_inside some k inside))

  -- what holds for each column and row holds for each place
  pub only_below_by_place : 0 < w → (n : ℕ) (f : ℕ → ℕ → ℕ) (cs : List ℕ) → length cs ≡ w * h → ((x y : ℕ) → f x y / n ≡ cell w cs x y / n) → OnlyBelow n cs (by_place w h f)
  only_below_by_place some n f cs long same k = ⊎_elim within past (cases_lt k (w * h))
    where
      within : k < w * h → get_or (by_place w h f) k 0 / n ≡ get_or cs k 0 / n
      within inside =
          ap (λ c. c / n) (get_or-map-range_with_len (λ j. f (j % w) (j / w)) 0 (w * h) k k 0 inside (zero-add k))
          ∙ same (k % w) (k / w)
          ∙ ap (λ j. get_or cs j 0 / n) (place_of some k inside)

      past : w * h ≤ k → get_or (by_place w h f) k 0 / n ≡ get_or cs k 0 / n
      past l = ap (λ c. c / n) (get_or_past (by_place w h f) k 0 (rw (length_by_place f) l) ∙ sym (get_or_past cs k 0 (rw long l)))

  pub bytes_by_place : 0 < w → (f : ℕ → ℕ → ℕ) → ((x y : ℕ) → x < w → y < h → f x y < 256) → Bytes (by_place w h f)
  bytes_by_place some f small k = ⊎_elim within past (cases_lt k (w * h))
    where
      within : k < w * h → get_or (by_place w h f) k 0 < 256
      within inside =
          let e = get_or-map-range_with_len (λ j. f (j % w) (j / w)) 0 (w * h) k k 0 inside (zero-add k) in
          let s = small (k % w) (k / w) (column_inside some k inside) (row_inside some k inside) in
          omega arith

      past : w * h ≤ k → get_or (by_place w h f) k 0 < 256
      past l =
          let e = get_or_past (by_place w h f) k 0 (rw (length_by_place f) l) in
          omega arith
