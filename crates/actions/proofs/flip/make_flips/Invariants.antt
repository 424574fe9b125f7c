use Rattle.std.proofs.Common.{◌≡◌, take}
use Rattle.lattice.specs.Starts.{held}
use Rattle.actions.specs.Flips.{all_flipped}
use Rattle.actions.proofs.flip.make_flips.Given as goal

abbrev pub invariant-loop-flip : goal.invariant-loop-flip
invariant-loop-flip l = held l.start l.cells ≡ all_flipped (take l.flip-index l.flips) (held l.start l.initial.cells)
