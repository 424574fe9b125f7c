-- The life of the mirror.
--     mirror_event e     the event that the mirror gets where the bench gets e
--     bench_map m        the map of the bench, where m is the mirror's: both borrow it, and the mirror uses it reversed
use Rattle.std.specs.Borrow.{Bor}
use Rattle.layers.specs.Parts.{reversed_of}
use Rattle.layers.specs.declared.reverse.Reverse.{Reverse}
use Rattle.ledger.specs.Mirrors.{mirror_call}
use Rattle.lives.specs.declared.event.Event.{Event}

abbrev pub mirror_event : Event → Event
mirror_event e = record { call = mirror_call e.call; lent = e.lent }

abbrev pub bench_map : {M : Type 0} → Reverse (Bor M) → M
bench_map m = (reversed_of m).now
