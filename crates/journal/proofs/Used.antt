-- There are as many places in use as entries of what stands. Assumes nothing.
use Rattle.std.proofs.Common.{◌≡◌, ◌-◌, ◌+◌, ◌<◌, ◌≤◌, [], length, sym, ap, ◌∙◌, arith}
use Rattle.std.proofs.lemmas.List.{length-drop}
use Rattle.journal.proofs.Booking.{standing_places, entries_standing, fewer_than_places}
use Rattle.journal.proofs.Standing.{count_undone}
use Rattle.journal.specs.Journals.{standing_of, undone_of, places_of}
use Rattle.journal.specs.Views.{places, IsEntry}
use Rattle.journal.specs.declared.entry.Entry.{Entry}
use Rattle.journal.specs.declared.journal.Journal.{Journal}
use Rattle.ledger.specs.Ledgers.{entries}

pub used_is : (j : Journal) → j.used ≡ entries (standing_of j)
used_is j =
    let s = j.sizes in
    let p = j.counted in
    let fewer = standing_places j.entries j.flips j.standing j.undone (omega arith) in
    p.0 ∙ sym (entries_standing j.entries j.flips j.standing j.undone (omega arith) j.valid (omega arith))

-- where there is room for its places, there is room for an action
pub room_behind : (j : Journal) (e : Entry) → IsEntry e → entries (standing_of j) + places e ≤ 256 → j.standing < length j.entries
room_behind j e valid room =
    let s = j.sizes in
    let p = j.counted in
    omega (arith, used_is j, fewer_than_places j.entries j.flips j.standing j.undone (omega arith) j.valid)

pub standing_room : (j : Journal) → entries (standing_of j) ≤ 256
standing_room j =
    let s = j.sizes in
    let p = j.counted in
    omega (arith, used_is j, standing_places j.entries j.flips j.standing j.undone (omega arith))

-- the places after those of what stands
pub places_left : (j : Journal) → length (places_of j) ≡ 256 - entries (standing_of j)
places_left j = let s = j.sizes in length-drop (entries (standing_of j)) j.flips ∙ omega arith

pub none_left_undone : (j : Journal) → undone_of j ≡ [] → j.undone ≡ 0
none_left_undone j none = let s = j.sizes in sym (count_undone j.entries j.flips j.standing j.undone (omega arith)) ∙ ap length none
