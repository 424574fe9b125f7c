-- The actions of a journal.
--     standing_of j     those that stand, the earliest first
--     undone_of j       those that were undone, the one undone last first
--     places_of j       the free places: those after the places of what stands
use Rattle.std.specs.Prelude.{◌+◌, List, take, drop}
use Rattle.actions.specs.Actions.{Action}
use Rattle.actions.specs.declared.flip.Flip.{Flip}
use Rattle.journal.specs.Views.{read_all}
use Rattle.journal.specs.declared.journal.Journal.{Journal}
use Rattle.ledger.specs.Ledgers.{entries}

abbrev all_of : Journal → List Action
all_of j = read_all (take (j.standing + j.undone) j.entries) j.flips

abbrev pub standing_of : Journal → List Action
standing_of j = take j.standing (all_of j)

abbrev pub undone_of : Journal → List Action
undone_of j = drop j.standing (all_of j)

abbrev pub places_of : Journal → List Flip
places_of j = drop (entries (standing_of j)) j.flips
