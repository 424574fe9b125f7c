-- Maps that leave the free bits of every cell as they are: they change only presents and pasts. Assumes nothing.
--     FreeBitsStay f       f leaves them so, on every lattice within the limits
--     LeavesFreeBits f g   f and g do, the two functions of a map
use Rattle.std.proofs.Common.{◌≡◌, ℕ, ◌/◌, List, zero, suc, get_or, refl, ap, ◌∙◌}
use Rattle.lattice.specs.Cells.{cell, OnlyBelow}
use Rattle.lattice.specs.EveryCell.{every_cell, each_cell}
use Rattle.lattice.specs.Lattice.{Lattice, Whole, Within, Bytes, with_cells, if_whole}
use Rattle.lattice.specs.Maps.{Keeps, repeated}
use Rattle.lattice.specs.Starts.{held}
use Rattle.lattice.specs.declared.start.Start.{Start}
use Rattle.lattice.proofs.Places.{only_below_by_place}
use Rattle.lattice.proofs.Repeats.{repeated_within}
use Rattle.lattice.proofs.Starts.{held_within}
use Rattle.lattice.proofs.Torus.{side_some}
use Rattle.lattice.proofs.Wholes.{by_whole}

abbrev pub FreeBitsStay : (Lattice → Lattice) → Type 0
FreeBitsStay f = (l : Lattice) → Within l → OnlyBelow 4 l.cells (f l).cells

pub record LeavesFreeBits (f g : Lattice → Lattice) : Type 0 where
  pub forward : FreeBitsStay f
  pub backward : FreeBitsStay g

pub if_whole_free : (f : Lattice → Lattice) → ((l : Lattice) → Within l → Whole l → OnlyBelow 4 l.cells (f l).cells) → FreeBitsStay (if_whole f)
if_whole_free f free l w = by_whole f l (λ m. OnlyBelow 4 l.cells m.cells) (free l w) (λ k. refl)

pub every_cell_free : (g : ℕ → ℕ → List ℕ → ℕ → ℕ → ℕ) → ((w h : ℕ) (cs : List ℕ) (x y : ℕ) → g w h cs x y / 4 ≡ cell w cs x y / 4) → FreeBitsStay (every_cell g)
every_cell_free g high = if_whole_free (λ l. with_cells l (each_cell g l)) (λ l w whole.
    only_below_by_place l.width l.height (side_some l.width w.wide) 4 (g l.width l.height l.cells) l.cells whole (high l.width l.height l.cells))

pub repeated_free : (f : Lattice → Lattice) → Keeps f → FreeBitsStay f → (n : ℕ) → FreeBitsStay (repeated n f)
repeated_free f keeps free zero l w k = refl
repeated_free f keeps free (suc n) l w k = free (repeated n f l) (repeated_within f keeps n l w) k ∙ repeated_free f keeps free n l w k

-- the same for cells in memory that a map with the function f has moved
pub held_free : (f g : Lattice → Lattice) → FreeBitsStay f → g ≡ f → (s s' : Start) (cs cs' : List ℕ) → Bytes cs → held s' cs' ≡ g (held s cs) → OnlyBelow 4 cs cs'
held_free f g free means s s' cs cs' bytes moved k = ap (λ l. get_or l.cells k 0 / 4) (moved ∙ ap (λ m. m (held s cs)) means) ∙ free (held s cs) (held_within s cs bytes) k
