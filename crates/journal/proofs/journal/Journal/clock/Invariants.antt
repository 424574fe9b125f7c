use Rattle.std.proofs.Common.{◌≡◌, ◌*◌, ◌≤◌, take, unsigned_abs}
use Rattle.actions.specs.Limits.{max_step}
use Rattle.journal.proofs.journal.Journal.clock.Given as goal
use Rattle.journal.specs.Views.{read_all}
use Rattle.ledger.specs.Ledgers.{clock_of}

abbrev pub invariant-loop-entry : goal.invariant-loop-entry
invariant-loop-entry l = (l.clock ≡ clock_of (read_all (take l.entry-index l.fn.self.entries) l.fn.self.flips)) × (unsigned_abs l.clock ≤ max_step * l.entry-index)
