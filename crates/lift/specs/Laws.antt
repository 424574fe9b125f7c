-- The lift's two functions undo each other, keep what a map has to keep, and leave the free bits of every cell. Assumes nothing.
use Rattle.std.specs.Prelude.{◌≡◌, ℕ, ◌/◌, ◌<◌, List}
use Rattle.std.proofs.Common.{refl, ap₂, ◌∙◌}
use Rattle.lattice.specs.Cells.{cell, by_place}
use Rattle.lattice.specs.Limits.{Side}
use Rattle.lattice.specs.Maps.{UndoneBy, Keeps, Reversible}
use Rattle.lattice.proofs.EveryCell.{every_cell_keeps, every_cell_undone}
use Rattle.lattice.proofs.FreeBits.{LeavesFreeBits, every_cell_free}
use Rattle.lattice.proofs.Places.{cell_by_place}
use Rattle.lift.specs.Maps.{lifted, unlifted, lift_forward, lift_backward}
use Rattle.lift.specs.Moments.{xored, exchanged, presents, pasts}
use Rattle.lift.specs.Bits.{present_xored, xored_twice, exchanged_twice, present_exchanged, past_exchanged, xored_high, exchanged_high, below_by_high}
use Rattle.lift.specs.NeighboursLemmas.{around_same}

module _ (f : ℕ → ℕ) where
  pub lifted_high : (w h : ℕ) (cs : List ℕ) (x y : ℕ) → lifted f w h cs x y / 4 ≡ cell w cs x y / 4
  lifted_high w h cs x y = rw (exchanged_high, xored_high) refl

  pub unlifted_high : (w h : ℕ) (cs : List ℕ) (x y : ℕ) → unlifted f w h cs x y / 4 ≡ cell w cs x y / 4
  unlifted_high w h cs x y = rw (xored_high, exchanged_high) refl

  module _ (w h : ℕ) (wide : Side w) (high : Side h) (cs : List ℕ) where
    pub unlifted_lifted : (x y : ℕ) → x < w → y < h → unlifted f w h (by_place w h (lifted f w h cs)) x y ≡ cell w cs x y
    unlifted_lifted x y x< y< =
        let there = by_place w h (lifted f w h cs) in
        let moved = cell_by_place w h (lifted f w h cs) in
        let seen : (u v : ℕ) → u < w → v < h → pasts w there u v ≡ presents w cs u v = λ u v u< v<. rw (moved u v u< v<, past_exchanged, present_xored) refl in
        ap₂ (λ d n. xored (exchanged d) (f n)) (moved x y x< y<) (around_same w h wide high (pasts w there) (presents w cs) seen x y x< y<) ∙ rw (exchanged_twice, xored_twice) refl

    pub lifted_unlifted : (x y : ℕ) → x < w → y < h → lifted f w h (by_place w h (unlifted f w h cs)) x y ≡ cell w cs x y
    lifted_unlifted x y x< y< =
        let back = by_place w h (unlifted f w h cs) in
        let moved = cell_by_place w h (unlifted f w h cs) in
        let seen : (u v : ℕ) → u < w → v < h → presents w back u v ≡ pasts w cs u v = λ u v u< v<. rw (moved u v u< v<, present_xored, present_exchanged) refl in
        ap₂ (λ d n. exchanged (xored d (f n))) (moved x y x< y<) (around_same w h wide high (presents w back) (pasts w cs) seen x y x< y<) ∙ rw (xored_twice, exchanged_twice) refl

module _ (f : ℕ → ℕ) where
  pub forward_undone : UndoneBy (lift_forward f) (lift_backward f)
  forward_undone = every_cell_undone (lifted f) (unlifted f) (unlifted_lifted f)

  pub backward_undone : UndoneBy (lift_backward f) (lift_forward f)
  backward_undone = every_cell_undone (unlifted f) (lifted f) (lifted_unlifted f)

  pub keeps_forward : Keeps (lift_forward f)
  keeps_forward = every_cell_keeps (lifted f) (λ w h _ _ cs bytes x y _ _. below_by_high (lifted f w h cs x y) (cell w cs x y) (lifted_high f w h cs x y) (bytes _))

  pub keeps_backward : Keeps (lift_backward f)
  keeps_backward = every_cell_keeps (unlifted f) (λ w h _ _ cs bytes x y _ _. below_by_high (unlifted f w h cs x y) (cell w cs x y) (unlifted_high f w h cs x y) (bytes _))

  pub lift_laws : Reversible (lift_forward f) (lift_backward f)
  lift_laws = record { back_undoes_forward = forward_undone; forward_undoes_back = backward_undone; forward_keeps = keeps_forward; backward_keeps = keeps_backward }

  pub lift_free : LeavesFreeBits (lift_forward f) (lift_backward f)
  lift_free = record { forward = every_cell_free (lifted f) (lifted_high f); backward = every_cell_free (unlifted f) (unlifted_high f) }
