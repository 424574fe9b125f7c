-- The actions that are left to go through.
--     left_of b     those that b has left, the earliest first
use Rattle.std.specs.Prelude.{List, take}
use Rattle.actions.specs.Actions.{Action}
use Rattle.journal.specs.Journals.{standing_of}
use Rattle.journal.specs.declared.backwards.Backwards.{Backwards}

abbrev pub left_of : Backwards → List Action
left_of b = take b.count (standing_of b.journal.now)
