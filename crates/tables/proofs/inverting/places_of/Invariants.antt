use Rattle.std.proofs.Common.{length}
use Rattle.tables.proofs.Placing.{Placed}
use Rattle.tables.proofs.inverting.places_of.Given as goal

abbrev pub invariant-loop-i : goal.invariant-loop-i
invariant-loop-i g l = Placed (length l.entries) l.entries l.places l.i
