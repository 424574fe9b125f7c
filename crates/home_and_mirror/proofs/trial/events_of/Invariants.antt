-- The events made so far are those of the records read so far.
use Rattle.std.proofs.Common.{length}
use Rattle.scripts.specs.Reading.{reader_of}
use Rattle.text.specs.Readers.{rest_of}
use Rattle.home_and_mirror.proofs.EventsRead.{EventsRead}
use Rattle.home_and_mirror.proofs.trial.events_of.Given as goal

abbrev pub invariant-loop-events : goal.invariant-loop-events
invariant-loop-events l = EventsRead l.initial.records l.records l.events.items

abbrev pub decreases-loop-events : goal.decreases-loop-events
decreases-loop-events l = length (rest_of (reader_of l.records))
