-- What a function of every cell keeps, and what undoes it. Assumes nothing.
use Rattle.std.proofs.Common.{◌≡◌, ℕ, ◌<◌, List, sym, refl, ap, ◌∙◌}
use Rattle.lattice.specs.Cells.{cell, by_place}
use Rattle.lattice.specs.EveryCell.{every_cell}
use Rattle.lattice.specs.Lattice.{Lattice, Whole, Within, SameShape, Bytes, with_cells}
use Rattle.lattice.specs.Limits.{Side}
use Rattle.lattice.specs.Maps.{UndoneBy, Keeps}
use Rattle.lattice.proofs.Places.{length_by_place, bytes_by_place, by_place_from_cells}
use Rattle.lattice.proofs.Torus.{side_some}
use Rattle.lattice.proofs.Wholes.{if_whole_keeps, if_whole_undoes}

moved : (ℕ → ℕ → List ℕ → ℕ → ℕ → ℕ) → Lattice → Lattice
moved g l = with_cells l (by_place l.width l.height (g l.width l.height l.cells))

module _ (g : ℕ → ℕ → List ℕ → ℕ → ℕ → ℕ) where
  shape : (l : Lattice) → Within l → Whole l → SameShape l (moved g l)
  unfolding moved
  shape l w whole = record { width = refl; height = refl; count = length_by_place l.width l.height (g l.width l.height l.cells) ∙ sym whole }

  -- g gives bytes for bytes
  pub every_cell_keeps : ((w h : ℕ) → Side w → Side h → (cs : List ℕ) → Bytes cs → (x y : ℕ) → x < w → y < h → g w h cs x y < 256) → Keeps (every_cell g)
  unfolding moved
  every_cell_keeps small = if_whole_keeps (moved g) shape (λ l w whole. record {
    wide = w.wide;
    high = w.high;
    area = w.area;
    phased = w.phased;
    bytes = bytes_by_place l.width l.height (side_some l.width w.wide) (g l.width l.height l.cells) (small l.width l.height w.wide w.high l.cells w.bytes);
  })

  -- g' turns the new cells back into the old ones
  pub every_cell_undone : (g' : ℕ → ℕ → List ℕ → ℕ → ℕ → ℕ)
      → ((w h : ℕ) → Side w → Side h → (cs : List ℕ) (x y : ℕ) → x < w → y < h → g' w h (by_place w h (g w h cs)) x y ≡ cell w cs x y)
      → UndoneBy (every_cell g) (every_cell g')
  unfolding moved
  every_cell_undone g' undo = if_whole_undoes (moved g) (moved g') shape (λ l w whole.
      ap (with_cells l) (sym (by_place_from_cells l.width l.height (side_some l.width w.wide) _ l.cells whole (λ x y x< y<. sym (undo l.width l.height w.wide w.high l.cells x y x< y<)))))
