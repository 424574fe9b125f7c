-- The journal of a bench in session.
--     open_standing j     the actions that stand, the earliest first
--     session_of j        the flips that the session has so far, the first one first
use Rattle.std.specs.Prelude.{List, take}
use Rattle.actions.specs.Actions.{Action}
use Rattle.actions.specs.declared.flip.Flip.{Flip}
use Rattle.journal.specs.Journals.{standing_of, places_of}
use Rattle.journal.specs.declared.open_journal.OpenJournal.{OpenJournal}

abbrev pub open_standing : OpenJournal → List Action
open_standing j = standing_of j.journal

abbrev pub session_of : OpenJournal → List Flip
session_of j = take j.count (places_of j.journal)
