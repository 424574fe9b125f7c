use Rattle.std.proofs.Common.{◌≡◌}
use Rattle.lattice.specs.Starts.{held}
use Rattle.actions.specs.Flips.{all_flipped}
use Rattle.actions.proofs.flip.take_back_flips.Given as goal

abbrev pub invariant-loop-flip : goal.invariant-loop-flip
invariant-loop-flip l = held l.start l.cells ≡ all_flipped l.yielded (held l.start l.initial.cells)
