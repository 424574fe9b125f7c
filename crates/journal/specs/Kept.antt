-- The actions that a journal can have. Cited by inner functions alone.
--     IsKept a     the action a is one: it takes an entry at least, so an edit has a flip
use Rattle.std.specs.Prelude.{◌<◌}
use Rattle.actions.specs.Actions.{Action}
use Rattle.ledger.specs.Ledgers.{size}

abbrev pub IsKept : Action → Type 0
IsKept a = 0 < size a
