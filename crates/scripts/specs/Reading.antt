-- A reader of records, and what it gives.
--     reader_of r, state_of r     the reader of its fields, and the state after the records read so far
--     left_of r                   the records that are left to read, or the first fault
--     next_of r                   the result of asking r for the next record
--     MovedBy r a s               with the result a, r becomes s
--     LeftAfter r a s            the result a and what is then left of s make up what was left of r
use Rattle.std.specs.Prelude.{◌≡◌, ℕ, ◌+◌, ◌<◌, length, List, [], ◌∷◌, Option, Some, None, Result, Ok, Err}
use Rattle.faults.specs.Results.{◌>>=◌}
use Rattle.faults.specs.declared.record.RecordFault.{RecordFault}
use Rattle.text.specs.Lines.{below_first, lines, fields}
use Rattle.text.specs.Readers.{text_of, line_of, rest_of}
use Rattle.text.specs.declared.reader.Reader.{Reader}
use Rattle.scripts.specs.Judgements.{end_of_text, judged, records_from, in_front}
use Rattle.scripts.specs.Records.{kind_of}
use Rattle.scripts.specs.States.{after}
use Rattle.scripts.specs.declared.record.Record.{Record}
use Rattle.scripts.specs.declared.records.Records.{Records}
use Rattle.scripts.specs.declared.state.State.{State}

abbrev pub reader_of : Records → Reader
reader_of r = r.reader

abbrev pub state_of : Records → State
state_of r = r.state

abbrev pub left_of : Records → Result (List Record) RecordFault
left_of r = records_from (state_of r) (line_of (reader_of r)) (lines (rest_of (reader_of r)))

-- there was a line, s stands after it, and the record x leads to the state of s
pub record GoneOn (r : Records) (x : Record) (s : Records) : Type 0 where
  pub some : 0 < length (rest_of (reader_of r))
  pub text : text_of (reader_of s) ≡ text_of (reader_of r)
  pub rest : rest_of (reader_of s) ≡ below_first (rest_of (reader_of r))
  pub line : line_of (reader_of s) ≡ line_of (reader_of r) + 1
  pub state : state_of s ≡ after (state_of r) (kind_of x)

-- the next record, or the first fault of its line; at the end none, if the state is rest
abbrev pub next_from : State → ℕ → List (List ℕ) → Result (Option Record) RecordFault
next_from s n [] = end_of_text s n >>= λ _. Ok None
next_from s n (l ∷ ls) = judged s n (fields l) >>= λ x. Ok (Some x)

abbrev pub next_of : Records → Result (Option Record) RecordFault
next_of r = next_from (state_of r) (line_of (reader_of r)) (lines (rest_of (reader_of r)))

-- only a record moves the reader
abbrev pub MovedBy : Records → Result (Option Record) RecordFault → Records → Type 0
MovedBy r (Ok (Some x)) s = GoneOn r x s
MovedBy r (Ok None) s = s ≡ r
MovedBy r (Err e) s = s ≡ r

-- what was left before, by the result and what is left then
abbrev pub LeftAfter : Records → Result (Option Record) RecordFault → Records → Type 0
LeftAfter r (Ok (Some x)) s = left_of r ≡ in_front x (left_of s)
LeftAfter r (Ok None) s = left_of r ≡ Ok []
LeftAfter r (Err e) s = left_of r ≡ Err e
