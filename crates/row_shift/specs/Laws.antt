-- The two shifts undo each other and keep what a map has to keep. Assumes nothing.
use Rattle.std.specs.Prelude.{◌≡◌, ℕ, ◌<◌}
use Rattle.std.proofs.Common.{◌∙◌, ap}
use Rattle.lattice.specs.Cells.{cell}
use Rattle.lattice.specs.EveryCell.{every_cell}
use Rattle.lattice.specs.Limits.{Side}
use Rattle.lattice.specs.Maps.{UndoneBy, Keeps, Reversible}
use Rattle.lattice.proofs.EveryCell.{every_cell_keeps, every_cell_undone}
use Rattle.lattice.proofs.Places.{cell_by_place}
use Rattle.lattice.proofs.Torus.{after_inside, before_inside, before-after, after-before}
use Rattle.row_shift.specs.Shifts.{comes_from, shifted, row_forward, row_backward}
use Rattle.row_shift.specs.declared.way.Way.{Way}
use Rattle.row_shift.specs.declared.way.Way.TheVariants.{East, West}

-- each cell is one of the cells before, so it is a byte
pub shifted_keeps : (way : Way) → Keeps (every_cell (shifted way))
shifted_keeps way = every_cell_keeps (shifted way) (λ w h _ _ cs bytes x y _ _. bytes _)

-- a cell comes from a column of its row
pub comes_inside : (way : Way) (w : ℕ) → Side w → (x : ℕ) → x < w → comes_from way w x < w
comes_inside East = before_inside
comes_inside West = after_inside

-- a cell that is moved one way and then the other is at its old place
shifted_undone : (way back : Way) → ((w : ℕ) → Side w → (x : ℕ) → x < w → comes_from way w (comes_from back w x) ≡ x) → UndoneBy (every_cell (shifted way)) (every_cell (shifted back))
shifted_undone way back home = every_cell_undone (shifted way) (shifted back) (λ w h wide high cs x y x< y<.
    cell_by_place w h (shifted way w h cs) (comes_from back w x) y (comes_inside back w wide x x<) y< ∙ ap (λ u. cell w cs u y) (home w wide x x<))

pub forward_undone : UndoneBy row_forward row_backward
forward_undone = shifted_undone East West before-after

pub backward_undone : UndoneBy row_backward row_forward
backward_undone = shifted_undone West East after-before

pub shift_laws : Reversible row_forward row_backward
shift_laws = record { back_undoes_forward = forward_undone; forward_undoes_back = backward_undone; forward_keeps = shifted_keeps East; backward_keeps = shifted_keeps West }
