-- What happens in a life, by the ledger. The lattice has w columns and h rows, and the memory `second` has n bytes.
--     lent_count k n t         how many bytes a call gets that is lent t, if its bench has k cells
--     is_part t                whether t lends bytes of `second`
--     lent_cells w h n e       how many bytes the call of the event e gets as cells
--     is_call w h n e led      whether e is a call of the life: the state permits it, and the cells that it needs, if any, are not w * h bytes of `second`
--     event_answered w h n e led   the answer to e: Skipped if it is not a call of the life, and Given for Open and Close
--     event_booked w h n e led     the ledger after e
--     event_made f g n e led l     the lattice after e, if l is held before it; f and g are the two functions of the map
use Rattle.std.specs.Prelude.{ℕ, ◌*◌, ◌==◌, ◌&&◌, Bool, true, false, not, min, if◌then◌else◌}
use Rattle.any_bench.specs.Answers.{said}
use Rattle.any_bench.specs.declared.answer.Answer.{Answer}
use Rattle.any_bench.specs.declared.answer.Answer.TheVariants.{Skipped, Given}
use Rattle.lattice.specs.Lattice.{Lattice}
use Rattle.ledger.specs.Effects.{effect}
use Rattle.ledger.specs.Ledgers.{Ledger}
use Rattle.ledger.specs.Refusals.{takes_cells, refusal, if_accepted, answer, after}
use Rattle.lives.specs.declared.event.Event.{Event}
use Rattle.lives.specs.declared.event.Lent.{Lent}
use Rattle.lives.specs.declared.event.Lent.TheVariants.{Own, Part}
use Rattle.scripts.specs.Records.{kind_of}
use Rattle.scripts.specs.States.{permits}

abbrev pub lent_count : ℕ → ℕ → Lent → ℕ
lent_count cells n Own = cells
lent_count cells n (Part k) = min k n

abbrev pub is_part : Lent → Bool
is_part Own = false
is_part (Part k) = true

abbrev pub lent_cells : ℕ → ℕ → ℕ → Event → ℕ
lent_cells w h n e = lent_count (w * h) n e.lent

abbrev pub is_call : ℕ → ℕ → ℕ → Event → Ledger → Bool
is_call w h n e led = permits led.state (kind_of e.call) && not (takes_cells e.call && (is_part e.lent && lent_cells w h n e == w * h))

abbrev pub event_answered : ℕ → ℕ → ℕ → Event → Ledger → Answer
event_answered w h n e led = if is_call w h n e led then (if takes_cells e.call then said (answer w h (lent_cells w h n e) e.call led) else Given) else Skipped

abbrev pub event_booked : ℕ → ℕ → ℕ → Event → Ledger → Ledger
event_booked w h n e led = if is_call w h n e led then after w h (lent_cells w h n e) e.call led else led

abbrev pub event_made : (Lattice → Lattice) → (Lattice → Lattice) → ℕ → Event → Ledger → Lattice → Lattice
event_made f g n e led l =
    if is_call l.width l.height n e led then if_accepted (refusal l.width l.height (lent_cells l.width l.height n e) e.call led) (effect f g e.call led l) l else l
