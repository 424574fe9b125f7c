use Rattle.row_shift.proofs.stacks.staggered_round_trip.Goals as goal

-- the round trip is one by this stack, which means the staggered blocks
pub returns-clause-turning : goal.returns-clause-turning
returns-clause-turning c = rw (← c.staggered.ensures.forward) c.round_trip.ensures.turning

pub returns-clause-far : goal.returns-clause-far
returns-clause-far c = rw (← c.staggered.ensures.forward) c.round_trip.ensures.far
