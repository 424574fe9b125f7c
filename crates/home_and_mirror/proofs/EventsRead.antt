-- The events of the records read so far, and those of the records that are left. Assumes nothing.
use Rattle.std.proofs.Common.{◌≡◌, List, [], ◌∷◌, ◌++◌, map, Ok, Some, None, Option, refl, sym, ◌∙◌, ap}
use Rattle.std.proofs.lemmas.List.{append_assoc, append-nil}
use Rattle.lives.specs.declared.event.Event.{Event}
use Rattle.scripts.specs.Judgements.{in_front}
use Rattle.scripts.specs.Reading.{left_of, LeftAfter}
use Rattle.scripts.specs.declared.record.Record.{Record}
use Rattle.scripts.specs.declared.records.Records.{Records}
use Rattle.home_and_mirror.specs.Events.{own_event}

-- es are the events of the records that `first` had left and `now` no longer has
abbrev pub EventsRead : Records → Records → List Event → Type 0
EventsRead first now es = (all rs : List Record) → left_of first ≡ Ok all → left_of now ≡ Ok rs → map own_event all ≡ es ++ map own_event rs

pub one_more : (first r s : Records) (es : List Event) (x : Record) → EventsRead first r es → left_of r ≡ in_front x (left_of s) → EventsRead first s (es ++ (own_event x ∷ []))
one_more first r s es x before left all rs is rest =
    let there : left_of r ≡ Ok (x ∷ rs) = left ∙ ap (in_front x) rest in
    before all (x ∷ rs) is there ∙ sym (append_assoc es (own_event x ∷ []) (map own_event rs))

pub no_more : (r s : Records) (o : Option Record) → ((x : Record) → o ≡ Some x → ⊥) → LeftAfter r (Ok o) s → left_of r ≡ Ok []
no_more r s None none left = left
no_more r s (Some x) none left = absurd (none x refl)

pub all_read : (first r : Records) (es : List Event) (rs : List Record) → EventsRead first r es → left_of r ≡ Ok [] → left_of first ≡ Ok rs → es ≡ map own_event rs
all_read first r es rs read none is = sym (append-nil es) ∙ sym (read rs [] is none)
