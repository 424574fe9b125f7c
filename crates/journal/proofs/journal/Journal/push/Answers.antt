use Rattle.std.proofs.Common.{◌+◌, ◌++◌, [], ◌∷◌, drop, sym, ap, ◌∙◌, arith}
use Rattle.std.proofs.lemmas.List.{length-set}
use Rattle.journal.proofs.Booking.{new_valid, new_places, new_standing, new_undone}
use Rattle.journal.proofs.Used.{used_is, room_behind, none_left_undone}
use Rattle.journal.proofs.journal.Journal.push.Goals as goal
use Rattle.journal.specs.Journals.{standing_of}
use Rattle.journal.specs.Views.{read}

pub bounds-self-self : goal.bounds-self-self
bounds-self-self c = let s = c.args.self.now.sizes in omega (arith, room_behind c.args.self.now c.args.entry c.requires.valid c.requires.room)

-- the entry that is overwritten is one of the array
pub listed : goal.listed
listed c = room_behind c.args.self.now c.args.entry c.requires.valid c.requires.room

pub overflow_add-self : goal.overflow_add-self
overflow_add-self c = record { fits = omega (arith, used_is c.args.self.now, c.requires.room, c.places.ensures) }

pub invariant_of-self : goal.invariant_of-self
invariant_of-self c =
    let j = c.args.self.now in
    let s = j.sizes in
    let p = j.counted in
    let room = room_behind c.args.self.now c.args.entry c.requires.valid c.requires.room in
    let is = used_is j in
    let none = none_left_undone j c.requires.nothing_undone in
    let len = length-set j.entries j.standing c.args.entry in
    let new = new_places j.entries j.flips j.standing j.undone (omega arith) j.valid c.args.entry room in
    record {
      sizes = (omega arith, s.1, omega arith);
      valid = new_valid j.entries j.flips j.standing j.undone (omega arith) j.valid c.args.entry room (j.standing + 1 + j.undone) (omega arith) c.requires.valid;
      counted = (omega (arith, new (j.standing + 1) (omega arith), c.places.ensures, p.0), omega (arith, new (j.standing + 1 + j.undone) (omega arith), p.0, c.requires.room));
    }

pub returns-clause-standing : goal.returns-clause-standing
returns-clause-standing c =
    let j = c.args.self.now in
    let s = j.sizes in
    let p = j.counted in
    new_standing j.entries j.flips j.standing j.undone (omega arith) j.valid c.args.entry (room_behind j c.args.entry c.requires.valid c.requires.room) (j.standing + 1 + j.undone) (omega (arith, none_left_undone j c.requires.nothing_undone))
    ∙ ap (λ k. standing_of j ++ (read c.args.entry (drop k j.flips) ∷ [])) (sym p.0 ∙ used_is j)

pub returns-clause-undone : goal.returns-clause-undone
returns-clause-undone c =
    let j = c.args.self.now in
    let s = j.sizes in
    new_undone j.entries j.flips j.standing j.undone (omega arith) j.valid c.args.entry (room_behind j c.args.entry c.requires.valid c.requires.room) (j.standing + 1 + j.undone) (omega (arith, none_left_undone j c.requires.nothing_undone))
