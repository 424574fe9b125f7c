-- What a journal says, read from its two arrays: the actions, and the places of their entries. A step takes one place, which stays unused, and an edit
-- takes one for each of its flips.
--     places e            how many places the action e takes
--     entry_ticks e       what it adds to the clock
--     all_places es       how many places the actions es take
--     read e fs           the action e, if its places are the first of fs
--     IsEntry e           it has a place at least: an edit has a flip
--     read_all es fs      the actions es, if their places are the first of fs
use Rattle.std.specs.Prelude.{ℕ, ◌<◌, List, [], ◌∷◌, take, drop, sum_by, ℤ, pos}
use Rattle.actions.specs.Actions.{Action, Step, Edit}
use Rattle.actions.specs.StepCounts.{count_of}
use Rattle.actions.specs.declared.flip.Flip.{Flip}
use Rattle.journal.specs.declared.entry.Entry.{Entry}
use Rattle.journal.specs.declared.entry.Entry.TheVariants.{Step as StepEntry, Edit as EditEntry}

abbrev pub places : Entry → ℕ
places (StepEntry z) = 1
places (EditEntry n) = n

abbrev pub entry_ticks : Entry → ℤ
entry_ticks (StepEntry c) = count_of c
entry_ticks (EditEntry n) = pos 0

abbrev pub all_places : List Entry → ℕ
all_places es = sum_by places es

abbrev pub read : Entry → List Flip → Action
read (StepEntry c) fs = Step (count_of c)
read (EditEntry n) fs = Edit (take n fs)

abbrev pub read_all : List Entry → List Flip → List Action
read_all [] fs = []
read_all (e ∷ es) fs = read e fs ∷ read_all es (drop (places e) fs)

abbrev pub IsEntry : Entry → Type 0
IsEntry e = 0 < places e
