-- What reading the lines of a board does, for a reader that stands at the beginning of a line. Only inner functions cite it.
--     lines_left r            the lines that are left to read
--     LineDown r s            s is r one line further
--     LineGiven r a s         taking the next line from r returns a and leaves the reader at s
--     LinesDown k r s         s is r k lines further
--     RowsChecked w h r a s   checking h rows of w cells from r on returns a and leaves the reader at s
--     BoardChecked r a s      checking a board from r on returns a and leaves the reader at s
--     StartIs a r             r is the start record of the lattice a, or its fault
--     DigitsAre w a r         r are the digits of the w cells a, or their fault
use Rattle.std.specs.Prelude.{◌≡◌, ℕ, ◌+◌, ◌*◌, List, [], ◌∷◌, length, drop, Result, Ok, Err, IsTrue}
use Rattle.std.specs.Borrow.{Bor}
use Rattle.std.specs.List.{list_all}
use Rattle.faults.specs.declared.record.RecordFault.{RecordFault}
use Rattle.faults.specs.declared.record.RecordFault.TheVariants.{MissingLine}
use Rattle.lattice.specs.Lattice.{Lattice}
use Rattle.lattice.specs.Starts.{height_of, held}
use Rattle.lattice.specs.declared.start.Start.{Start}
use Rattle.text.specs.FieldsOfLines.{GivesLine}
use Rattle.text.specs.Lines.{first_line, below_first, lines}
use Rattle.text.specs.Readers.{text_of, rest_of, line_of, fields_read_of}
use Rattle.text.specs.declared.line.Line.{Line}
use Rattle.text.specs.declared.reader.Reader.{Reader}
use Rattle.boards.specs.Reading.{rows_from, board_from, is_hex, cells_of}

abbrev pub lines_left : Reader → List (List ℕ)
lines_left r = lines (rest_of r)

pub record LineDown (r s : Reader) : Type 0 where
  pub text : text_of s ≡ text_of r
  pub rest : rest_of s ≡ below_first (rest_of r)
  pub lines : lines_left s ≡ drop 1 (lines_left r)
  pub line : line_of s ≡ line_of r + 1
  pub begins : fields_read_of s ≡ 0

abbrev pub LineGiven : Reader → Result Line RecordFault → Reader → Type 0
LineGiven r (Ok l) s = GivesLine r l s × LineDown r s × (lines_left r ≡ first_line (rest_of r) ∷ lines_left s)
LineGiven r (Err e) s = (lines_left r ≡ []) × (e ≡ MissingLine (line_of r))

abbrev pub StartIs : Result Lattice RecordFault → Result Start RecordFault → Type 0
StartIs a (Ok s) = a ≡ Ok (held s [])
StartIs a (Err e) = a ≡ Err e

abbrev pub DigitsAre : ℕ → Result (List ℕ) RecordFault → Result (Bor (List ℕ)) RecordFault → Type 0
DigitsAre w a (Ok d) = (a ≡ Ok (cells_of d.now)) × (length d.now ≡ 2 * w) × IsTrue (list_all is_hex d.now)
DigitsAre w a (Err e) = a ≡ Err e

-- s is r `count` lines further
pub record LinesDown (count : ℕ) (r s : Reader) : Type 0 where
  pub text : text_of s ≡ text_of r
  pub lines : lines_left s ≡ drop count (lines_left r)
  pub line : line_of s ≡ line_of r + count
  pub begins : fields_read_of s ≡ 0

abbrev pub RowsChecked : ℕ → ℕ → Reader → Result Unit RecordFault → Reader → Type 0
RowsChecked w h r (Ok _) s = ((cs : List ℕ) × (rows_from w h (line_of r) (lines_left r) ≡ Ok cs)) × LinesDown h r s
RowsChecked w h r (Err e) s = rows_from w h (line_of r) (lines_left r) ≡ Err e

abbrev pub BoardChecked : Reader → Result Start RecordFault → Reader → Type 0
BoardChecked r (Ok s) t = ((cs : List ℕ) × (board_from (line_of r) (lines_left r) ≡ Ok (held s cs))) × LinesDown (height_of s + 1) r t
BoardChecked r (Err e) t = board_from (line_of r) (lines_left r) ≡ Err e
