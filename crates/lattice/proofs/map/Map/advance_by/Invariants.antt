use Rattle.std.proofs.Common.{◌≡◌}
use Rattle.lattice.specs.Maps.{repeated}
use Rattle.lattice.specs.Starts.{held}
use Rattle.lattice.proofs.map.Map.advance_by.Given as goal

abbrev pub invariant-loop-made : goal.invariant-loop-made
invariant-loop-made g l = held l.start l.cells ≡ repeated l.made (g.Self.Map.forward l.self) (held l.initial.start l.initial.cells)
