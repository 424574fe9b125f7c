-- A result that may be a refusal.
--     unless e x     x, unless there is a refusal e
use Rattle.std.specs.Prelude.{Option, Some, None, Result, Ok, Err}

abbrev pub unless : {A E : Type 0} → Option E → A → Result A E
unless None x = Ok x
unless (Some e) x = Err e
