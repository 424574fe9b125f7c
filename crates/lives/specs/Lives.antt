-- A whole life, by the ledger. It begins with the lattice l; f and g are the two functions of the map; the memory `second` has n bytes; es are the events so far,
-- in their order.
--     life_ledger l n es          the ledger after the events
--     life_lattice f g l n es     the lattice that is held after them
--     reply_after f g l n es e     what the bench reports of one more event, e: the answer to it, and the counts afterwards
--     opposite_clock c            the counts c with the opposite clock
--     of_mirror t                 the report t with the opposite clock
--     seen_after f g l n es e     what bench and mirror report of e: the mirror has had the mirrored events, over the reversed map
use Rattle.std.specs.Prelude.{ℕ, List, [], ◌∷◌, ◌++◌, map, fold, ℤ, neg_ℤ}
use Rattle.lattice.specs.Lattice.{Lattice}
use Rattle.ledger.specs.Effects.{standing_for}
use Rattle.ledger.specs.Ledgers.{Ledger, at_opening, counts}
use Rattle.lives.specs.Events.{event_answered, event_booked}
use Rattle.lives.specs.Mirrors.{mirror_event}
use Rattle.lives.specs.declared.event.Event.{Event}
use Rattle.lives.specs.declared.event.Seen.{Seen}
use Rattle.lives.specs.declared.event.Reply.{Reply}

abbrev pub life_ledger : Lattice → ℕ → List Event → Ledger
life_ledger l n es = fold (λ led e. event_booked l.width l.height n e led) at_opening es

abbrev pub life_lattice : (Lattice → Lattice) → (Lattice → Lattice) → Lattice → ℕ → List Event → Lattice
life_lattice f g l n es = standing_for f g (life_ledger l n es) l

abbrev pub reply_after : (Lattice → Lattice) → (Lattice → Lattice) → Lattice → ℕ → List Event → Event → Reply
reply_after f g l n es e = record {
  answer = event_answered l.width l.height n e (life_ledger l n es);
  counts = counts (life_ledger l n (es ++ (e ∷ []))) (life_lattice f g l n (es ++ (e ∷ []))).phase;
}

abbrev pub opposite_clock : (ℕ × ℕ × ℤ × ℕ) → ℕ × ℕ × ℤ × ℕ
opposite_clock c = (c.0, c.1, neg_ℤ c.2, c.3)

abbrev pub of_mirror : Reply → Reply
of_mirror t = record { answer = t.answer; counts = opposite_clock t.counts }

abbrev pub seen_after : (Lattice → Lattice) → (Lattice → Lattice) → Lattice → ℕ → List Event → Event → Seen
seen_after f g l n es e = record { bench = reply_after f g l n es e; mirror = reply_after g f l n (map mirror_event es) (mirror_event e) }
