use Rattle.std.proofs.Common.{◌≡◌}
use Rattle.lattice.specs.Maps.{repeated}
use Rattle.lattice.specs.Starts.{held}
use Rattle.lattice.proofs.map.Map.retreat_by.Given as goal

abbrev pub invariant-loop-undone : goal.invariant-loop-undone
invariant-loop-undone g l = held l.start l.cells ≡ repeated l.undone (g.Self.Map.backward l.self) (held l.initial.start l.initial.cells)
