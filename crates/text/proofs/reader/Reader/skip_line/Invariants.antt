-- The reader is still on the line where it began, and closer to the end of the text.
use Rattle.std.proofs.Common.{◌≡◌, ◌<◌, ◌-◌, length}
use Rattle.text.specs.Lines.{below_first}
use Rattle.text.specs.Readers.{lent_of, text_of, position_of, rest_of, line_of, fields_read_of}
use Rattle.text.proofs.reader.Reader.skip_line.Given as goal

abbrev pub invariant-loop-field : goal.invariant-loop-field
invariant-loop-field l = (0 < fields_read_of l.self) × (lent_of l.self ≡ lent_of l.initial.self) × (below_first (rest_of l.self) ≡ below_first (rest_of l.initial.self)) × (line_of l.self ≡ line_of l.initial.self)

abbrev pub decreases-loop-field : goal.decreases-loop-field
decreases-loop-field l = length (text_of l.self) - position_of l.self
