-- Every action of a journal is one that it can have. Assumes nothing.
use Rattle.std.proofs.Common.{◌+◌, ◌≤◌, List, [], ◌∷◌, length, take, drop, sym, subst, arith}
use Rattle.std.proofs.lemmas.List.{length-take-le, length-drop, take-take}
use Rattle.std.proofs.lemmas.List.Elements.{All-nil, All-cons, All-head, All-tail, All-take}
use Rattle.std.specs.List.{All}
use Rattle.actions.specs.declared.flip.Flip.{Flip}
use Rattle.journal.proofs.Booking.{standing_places}
use Rattle.journal.proofs.Entries.{places_cons}
use Rattle.journal.proofs.Standing.{standing_read}
use Rattle.journal.specs.Journals.{standing_of}
use Rattle.journal.specs.Kept.{IsKept}
use Rattle.journal.specs.Views.{places, all_places, read, read_all, IsEntry}
use Rattle.journal.specs.declared.entry.Entry.{Entry}
use Rattle.journal.specs.declared.entry.Entry.TheVariants.{Step as StepEntry, Edit as EditEntry}
use Rattle.journal.specs.declared.journal.Journal.{Journal}

read_kept : (e : Entry) (fs : List Flip) → IsEntry e → places e ≤ length fs → IsKept (read e fs)
read_kept (StepEntry z) fs valid room = valid
read_kept (EditEntry n) fs valid room = let len = length-take-le n fs room in omega arith

all_kept : (es : List Entry) (fs : List Flip) → All IsEntry es → all_places es ≤ length fs → All IsKept (read_all es fs)
all_kept [] fs valid room = All-nil IsKept
all_kept (e ∷ es) fs valid room =
    let split = places_cons e es in
    let len = length-drop (places e) fs in
    All-cons IsKept (read e fs) (read_all es (drop (places e) fs)) (read_kept e fs (All-head IsEntry e es valid) (omega arith)) (all_kept es (drop (places e) fs) (All-tail IsEntry e es valid) (omega arith))

pub standing_kept : (j : Journal) → All IsKept (standing_of j)
standing_kept j =
    let s = j.sizes in
    let p = j.counted in
    let fewer = standing_places j.entries j.flips j.standing j.undone (omega arith) in
    let front : All IsEntry (take j.standing j.entries) = subst (All IsEntry) (take-take j.standing (j.standing + j.undone) j.entries (omega arith)) (All-take IsEntry j.standing (take (j.standing + j.undone) j.entries) j.valid) in
    subst (All IsKept) (sym (standing_read j.entries j.flips j.standing j.undone (omega arith))) (all_kept (take j.standing j.entries) j.flips front (omega arith))
