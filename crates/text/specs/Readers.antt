-- A reader of a text, and what it gives.
--     lent_of r                    the text as it was lent: its bytes, and where they lie in memory
--     text_of r, position_of r     its bytes, and how many of them have been read
--     line_of r                    the line of the next field
--     fields_read_of r             how many fields of that line have been read
--     rest_of r                    the bytes that have not been read
--     AtEnd r                      no field is left: no bytes are left, and the last byte read, if any, is not a tab
--     Moves f r s                  reading the field f takes r to s
--     Gives r f s                  r gives the field f and becomes s
use Rattle.std.specs.Prelude.{◌≡◌, ℕ, ◌+◌, List, [], length, drop}
use Rattle.std.specs.List.{before_first}
use Rattle.std.specs.Borrow.{Bor}
use Rattle.text.specs.declared.field.Field.{Field}
use Rattle.text.specs.declared.field.Field.TheVariants.{Inner, Last, Unfinished}
use Rattle.text.specs.declared.reader.Reader.{Reader}
use Rattle.text.specs.Fields.{bytes_of, place_of, LiesAt, EndsAt}
use Rattle.text.specs.Lines.{is_separator}

abbrev pub lent_of : Reader → Bor (List ℕ)
lent_of r = r.text

abbrev pub text_of : Reader → List ℕ
text_of r = r.text.now

abbrev pub position_of : Reader → ℕ
position_of r = r.position

abbrev pub line_of : Reader → ℕ
line_of r = r.line

abbrev pub fields_read_of : Reader → ℕ
fields_read_of r = r.fields_read

abbrev pub rest_of : Reader → List ℕ
rest_of r = drop (position_of r) (text_of r)

abbrev pub AtEnd : Reader → Type 0
AtEnd r = (rest_of r ≡ []) × (fields_read_of r ≡ 0)

-- to just after the tab or the newline, or to the end of the text; the next line begins after the last field of a line
abbrev pub Moves : Field → Reader → Reader → Type 0
Moves (Inner b p) r s = (position_of s ≡ position_of r + length b.now + 1) × (line_of s ≡ line_of r) × (fields_read_of s ≡ fields_read_of r + 1)
Moves (Last b p) r s = (position_of s ≡ position_of r + length b.now + 1) × (line_of s ≡ line_of r + 1) × (fields_read_of s ≡ 0)
Moves (Unfinished b p) r s = (position_of s ≡ position_of r + length b.now) × (line_of s ≡ line_of r + 1) × (fields_read_of s ≡ 0)

pub record Gives (r : Reader) (f : Field) (s : Reader) : Type 0 where
  pub bytes : bytes_of f ≡ before_first is_separator (rest_of r)
  pub lies : LiesAt f (lent_of r) (position_of r)
  pub ends : EndsAt f (drop (length (bytes_of f)) (rest_of r))
  pub line : (place_of f).line ≡ line_of r
  pub field : (place_of f).field ≡ fields_read_of r + 1
  pub lent : lent_of s ≡ lent_of r
  pub moves : Moves f r s
