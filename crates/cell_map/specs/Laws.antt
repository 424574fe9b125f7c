-- A cell table and its inverse undo each other on every cell, and leave its free bits. Assumes nothing.
use Rattle.std.specs.Prelude.{◌≡◌, ℕ, ◌+◌, ◌*◌, ◌/◌, ◌%◌, ◌<◌, ◌≤◌, List, [], ◌∷◌, map, length, slice_index, slice_index_or, refl}
use Rattle.std.proofs.Common.{sym, ◌∙◌, ap, ap₂, ⊎_elim, arith}
use Rattle.std.proofs.lemmas.List.{length-map, get_or-map, get_or_past}
use Rattle.std.proofs.lemmas.Bool.{cases_lt}
use Rattle.lattice.specs.Cells.{OnlyBelow}
use Rattle.lattice.specs.Lattice.{Lattice, SameShape, Bytes, with_cells}
use Rattle.lattice.specs.Maps.{UndoneBy, Keeps, Reversible}
use Rattle.lattice.proofs.FreeBits.{FreeBitsStay, LeavesFreeBits, if_whole_free}
use Rattle.lattice.proofs.Wholes.{if_whole_keeps, if_whole_undoes}
use Rattle.tables.specs.Inverses.{InvertedBy}
use Rattle.cell_map.specs.Maps.{replaced, cell_moved}

-- a table whose entries are below 4 changes presents and pasts alone
pub only_low : (t : List ℕ) → ((v : ℕ) → v < 4 → slice_index t v < 4) → (old new : List ℕ) → new ≡ map (replaced t) old → OnlyBelow 4 old new
only_low t small old new e k = rw e (⊎_elim within past (cases_lt k (length old)))
  where
    alone : (c b : ℕ) → b < 4 → (c / 4 * 4 + b) / 4 ≡ c / 4
    alone c b h = omega arith

    within : k < length old → slice_index (map (replaced t) old) k / 4 ≡ slice_index old k / 4
    within h =
        let c = slice_index_or old k 0 in
        ap (λ n. n / 4) (get_or-map (replaced t) old k 0 0 h) ∙ alone c (slice_index t (c % 4)) (small (c % 4) (omega arith))

    past : length old ≤ k → slice_index (map (replaced t) old) k / 4 ≡ slice_index old k / 4
    past h = ap (λ n. n / 4) (get_or_past (map (replaced t) old) k 0 (let l = length-map old (replaced t) in omega arith) ∙ sym (get_or_past old k 0 h))

module _ (t u : List ℕ) (undo : InvertedBy 4 t u) where
  replaced_back : (c : ℕ) → replaced u (replaced t c) ≡ c
  replaced_back c =
      let e = slice_index_or t (c % 4) 0 in
      let known = undo (c % 4) (omega arith) in
      let small : e < 4 = known.0 in
      let low : replaced t c % 4 ≡ e = omega arith in
      let high : replaced t c / 4 ≡ c / 4 = omega arith in
      ap₂ (λ q r. q * 4 + slice_index u r) high low ∙ (let back = known.1 in omega arith)

  all_back : (cs : List ℕ) → map (replaced u) (map (replaced t) cs) ≡ cs
  all_back [] = refl
  all_back (c ∷ cs) = ap₂ ◌∷◌ (replaced_back c) (all_back cs)

  replaced_below : (c : ℕ) → c < 256 → replaced t c < 256
  replaced_below c h = let known = undo (c % 4) (omega arith) in let small = known.0 in omega arith

  all_below : (cs : List ℕ) → Bytes cs → Bytes (map (replaced t) cs)
  all_below cs bytes k = ⊎_elim within past (cases_lt k (length cs))
    where
      within : k < length cs → slice_index (map (replaced t) cs) k < 256
      within h = let e = get_or-map (replaced t) cs k 0 0 h in let b = replaced_below (slice_index cs k) (bytes k) in omega arith

      past : length cs ≤ k → slice_index (map (replaced t) cs) k < 256
      past h = let e = get_or_past (map (replaced t) cs) k 0 (let l = length-map cs (replaced t) in omega arith) in omega arith

  moved_shape : (l : Lattice) → SameShape l (with_cells l (map (replaced t) l.cells))
  moved_shape l = record { width = refl; height = refl; count = length-map l.cells (replaced t) }

  pub moved_keeps : Keeps (cell_moved t)
  moved_keeps = if_whole_keeps (λ l. with_cells l (map (replaced t) l.cells)) (λ l _ _. moved_shape l)
      (λ l w _. record { wide = w.wide; high = w.high; area = w.area; phased = w.phased; bytes = all_below l.cells w.bytes })

  pub moved_undone : UndoneBy (cell_moved t) (cell_moved u)
  moved_undone = if_whole_undoes (λ l. with_cells l (map (replaced t) l.cells)) (λ l. with_cells l (map (replaced u) l.cells))
      (λ l _ _. moved_shape l) (λ l _ _. ap (with_cells l) (all_back l.cells))

  pub moved_free : FreeBitsStay (cell_moved t)
  moved_free = if_whole_free (λ l. with_cells l (map (replaced t) l.cells)) (λ l _ _. only_low t (λ v h. let known = undo v h in known.0) l.cells _ refl)

-- forward by a table, and back by its inverse
pub cell_laws : (t u : List ℕ) → InvertedBy 4 t u → InvertedBy 4 u t → Reversible (cell_moved t) (cell_moved u)
cell_laws t u there home = record {
  back_undoes_forward = moved_undone t u there;
  forward_undoes_back = moved_undone u t home;
  forward_keeps = moved_keeps t u there;
  backward_keeps = moved_keeps u t home;
}

pub cell_free : (t u : List ℕ) → InvertedBy 4 t u → InvertedBy 4 u t → LeavesFreeBits (cell_moved t) (cell_moved u)
cell_free t u there home = record { forward = moved_free t u there; backward = moved_free u t home }
