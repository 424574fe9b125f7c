-- The life of a job's script.
--     own_event r     the record r as an event: a call with the cells of its own bench
use Rattle.lives.specs.declared.event.Event.{Event}
use Rattle.lives.specs.declared.event.Lent.TheVariants.{Own}
use Rattle.scripts.specs.declared.record.Record.{Record}

abbrev pub own_event : Record → Event
own_event r = record { call = r; lent = Own }
