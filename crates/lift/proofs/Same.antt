-- Rules with the same values have the same lift. Assumes nothing.
use Rattle.std.proofs.Common.{◌≡◌, ℕ, arith}
use Rattle.lattice.specs.Cells.{cell}
use Rattle.lattice.specs.EveryCell.{every_cell}
use Rattle.rules.specs.Rules.{SameAnswers}
use Rattle.lift.specs.Maps.{lift_forward, lift_backward}
use Rattle.lift.specs.Moments.{xored, exchanged, presents, pasts}
use Rattle.lift.specs.Neighbours.{around}

module _ (f g : ℕ → ℕ) (same : SameAnswers f g) where
  pub forward_same : lift_forward f ≡ lift_forward g
  forward_same = λ i. every_cell (λ w h cs x y. exchanged (xored (cell w cs x y) (same (around w h (presents w cs) x y) (omega arith) i)))

  pub backward_same : lift_backward f ≡ lift_backward g
  backward_same = λ i. every_cell (λ w h cs x y. xored (exchanged (cell w cs x y)) (same (around w h (pasts w cs) x y) (omega arith) i))
