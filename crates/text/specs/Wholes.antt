-- The limits on a text as a whole.
--     max_text       the most bytes that a text may have
--     finished bs    bs is empty, or its last byte is a newline
--     whole n bs     whether bs, whose first line is line n, is short enough and finished. The fault of an unfinished text names its last line:
--                    as many lines precede it as there are newlines
use Rattle.std.specs.Prelude.{ℕ, ◌+◌, ◌-◌, ◌==◌, ◌||◌, Bool, List, length, slice_index, nat_le, Result, Ok, Err, if◌then◌else◌}
use Rattle.std.specs.List.{count_by}
use Rattle.faults.specs.declared.record.RecordFault.{RecordFault}
use Rattle.faults.specs.declared.record.RecordFault.TheVariants.{TooLong, Unfinished}
use Rattle.text.specs.Lines.{is_newline}

abbrev pub max_text : ℕ
max_text = 65536

abbrev pub finished : List ℕ → Bool
finished bs = length bs == 0 || is_newline (slice_index bs (length bs - 1))

abbrev pub whole : ℕ → List ℕ → Result Unit RecordFault
whole n bs = if nat_le (length bs) max_text then (if finished bs then Ok tt else Err (Unfinished (n + count_by is_newline bs))) else Err TooLong
