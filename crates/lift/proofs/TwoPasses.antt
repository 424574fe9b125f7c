-- What the two passes over the cells amount to. Assumes nothing.
use Rattle.std.proofs.Common.{◌≡◌, ℕ, ◌+◌, ◌*◌, ◌/◌, ◌%◌, List, map, get_or, ap, ◌∙◌}
use Rattle.std.proofs.Math.ListN.{get_or-map}
use mathlib.Core.List.{map-map}
use Rattle.std.specs.List.{range_with_len}
use Rattle.lattice.specs.Cells.{cell, present, by_place, OnlyBelow}
use Rattle.lattice.specs.Lattice.{Whole}
use Rattle.lattice.specs.Starts.{width_of, height_of, held}
use Rattle.lattice.specs.declared.start.Start.{Start}
use Rattle.lattice.proofs.Places.{only_below_by_place}
use Rattle.lattice.proofs.Starts.{start_wide}
use Rattle.lattice.proofs.Torus.{side_some}
use Rattle.lift.specs.Maps.{lifted, unlifted}
use Rattle.lift.specs.Moments.{xored, exchanged, presents, pasts}
use Rattle.lift.specs.Neighbours.{around}
use Rattle.lift.specs.Progress.{answered}
use Rattle.lift.specs.Bits.{present_exchanged}

-- the cells cs are `mid` after the first pass and `new` after the second
module _ (f : ℕ → ℕ) (w h : ℕ) (cs mid new : List ℕ) where
  pub cells_forward : mid ≡ by_place w h (answered f w h cs) → new ≡ map exchanged mid → new ≡ by_place w h (lifted f w h cs)
  cells_forward first second = second ∙ ap (map exchanged) first ∙ map-map exchanged (λ k. answered f w h cs (k % w) (k / w)) (range_with_len 0 (w * h))

  -- past the end a list gives 0, and that is exchanged to 0
  exchanged_at : (k : ℕ) → get_or (map exchanged cs) k 0 ≡ exchanged (get_or cs k 0)
  exchanged_at k = get_or-map exchanged cs k 0

  -- after the exchange, the presents are what the pasts were
  seen : presents w (map exchanged cs) ≡ pasts w cs
  seen = λ i x y. (ap present (exchanged_at (y * w + x)) ∙ present_exchanged (cell w cs x y)) i

  pub cells_backward : mid ≡ map exchanged cs → new ≡ by_place w h (answered f w h mid) → new ≡ by_place w h (unlifted f w h cs)
  cells_backward first second = second ∙ rw first (λ i. by_place w h (λ x y. xored (exchanged_at (y * w + x) i) (f (around w h (seen i) x y))))

-- cells given by a g that changes presents and pasts alone
pub low_alone : (s : Start) (cs new : List ℕ) → Whole (held s cs) → (g : ℕ → ℕ → ℕ) → ((x y : ℕ) → g x y / 4 ≡ cell (width_of s) cs x y / 4) → new ≡ by_place (width_of s) (height_of s) g → OnlyBelow 4 cs new
low_alone s cs new whole g high e = rw e (only_below_by_place (width_of s) (height_of s) (side_some (width_of s) (start_wide s)) 4 g cs whole high)
