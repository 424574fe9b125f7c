-- The faults of a text that should begin with a board, in terms of its lines and fields and not of how it is read.
--     RefusedStart w h p c    c is the first cause why w, h and p make no start record: it applies, and none before it does
--     field k fs              field k of the fields fs
--     Counted w k fs          the first of the fields fs is the word w, and there are k of them
--     LineFault w k F n fs e  e is what is wrong with a line with the fields fs, which is line n and should have k fields, beginning with the word
--                             w: the word, or else the number of fields, or else what F says of them
--     FirstNoNumber fs k      on a board's line with the fields fs, field k is the first that should be a number and is not
--     NumbersFault n fs e     e is what is wrong with these fields: one is not a number, or else they make no start record
--     BoardLineFault n fs e   e is what is wrong with the line of a board
--     IsHexDigit b            the byte b is `0` to `9` or `a` to `f`
--     IsRow w bs              bs has two such digits for each of w cells
--     DigitsFault w n fs e    e is what is wrong with the digits of a row of w cells
--     RowFault w n fs e       e is what is wrong with the line of a row of w cells
--     NextFault F n bs e      e is what is wrong with the first line of bs, which is line n: it is missing, or else what F says of its fields
--     first_lines l r         the line of a board with sides and phase of l, and r rows with the cells of l
--     FaultyRow n bs e        the text bs has the first lines of a board, its line being line n, and e is what is wrong with the row after them
--     BoardFault n bs e       e is what is wrong with the text bs as one that begins with a board, its first line being line n: it applies,
--                             and nothing before it is wrong
--     ReadFault n k bs e      the same where the board is read into a memory of k bytes
use Rattle.std.specs.Prelude.{◌≡◌, ◌≢◌, ◌⊎◌, ℕ, ◌+◌, ◌-◌, ◌*◌, ◌<◌, ◌≤◌, List, [], ◌++◌, length, codes, false, IsTrue, slice_index_or}
use Rattle.std.specs.List.{AllByRecursion, count_by}
use Rattle.faults.specs.declared.field.FieldFault.TheVariants.{NotANumber, WrongDigits}
use Rattle.faults.specs.declared.record.RecordFault.{RecordFault}
use Rattle.faults.specs.declared.record.RecordFault.TheVariants.{Field, TooLong, Unfinished, UnknownWord, FieldCount, Start, MissingLine, CellsTooShort}
use Rattle.lattice.specs.Lattice.{Lattice, Within}
use Rattle.lattice.specs.Limits.{Side, max_area, max_phase}
use Rattle.lattice.specs.declared.refusal.StartRefusal.{StartRefusal}
use Rattle.lattice.specs.declared.refusal.StartRefusal.TheVariants as Cause
use Rattle.text.specs.Lines.{is_newline, first_line, fields}
use Rattle.text.specs.Numbers.{WritesNumber, IsNumber}
use Rattle.text.specs.Wholes.{max_text, finished}
use Rattle.boards.specs.Answers.{BeginsWith}
use Rattle.boards.specs.Boards.{start_line, rows_text}

abbrev pub RefusedStart : ℕ → ℕ → ℕ → StartRefusal → Type 0
RefusedStart w h p Cause.Side = Side w × Side h → ⊥
RefusedStart w h p Cause.Area = Side w × Side h × (max_area < w * h)
RefusedStart w h p Cause.Phase = Side w × Side h × (w * h ≤ max_area) × (max_phase < p)

abbrev pub field : ℕ → List (List ℕ) → List ℕ
field k fs = slice_index_or fs (k - 1) []

abbrev pub Counted : List ℕ → ℕ → List (List ℕ) → Type 0
Counted w k fs = (field 1 fs ≡ w) × (length fs ≡ k)

abbrev pub LineFault : List ℕ → ℕ → (ℕ → List (List ℕ) → RecordFault → Type 0) → ℕ → List (List ℕ) → RecordFault → Type 0
LineFault w k F n fs (UnknownWord i) = (i ≡ n) × (field 1 fs ≢ w)
LineFault w k F n fs (FieldCount i) = (i ≡ n) × (field 1 fs ≡ w) × (length fs ≢ k)
LineFault w k F n fs e = Counted w k fs × F n fs e

pub record FirstNoNumber (fs : List (List ℕ)) (k : ℕ) : Type 0 where
  pub argument : 2 ≤ k
  pub inside : k ≤ length fs
  pub here : IsNumber (field k fs) → ⊥
  pub before : (j : ℕ) → 2 ≤ j → j < k → IsNumber (field j fs)

-- the fields are numbers that make no start record
pub record NoStart (fs : List (List ℕ)) (c : StartRefusal) : Type 0 where
  pub width : ℕ
  pub height : ℕ
  pub phase : ℕ
  pub is_width : WritesNumber width (field 2 fs)
  pub is_height : WritesNumber height (field 3 fs)
  pub is_phase : WritesNumber phase (field 4 fs)
  pub refused : RefusedStart width height phase c

abbrev pub NumbersFault : ℕ → List (List ℕ) → RecordFault → Type 0
NumbersFault n fs (Field (NotANumber p)) = (p.line ≡ n) × FirstNoNumber fs p.field
NumbersFault n fs (Start c i) = (i ≡ n) × NoStart fs c
NumbersFault n fs _ = ⊥

abbrev pub BoardLineFault : ℕ → List (List ℕ) → RecordFault → Type 0
BoardLineFault n fs e = LineFault (codes "board") 4 NumbersFault n fs e

abbrev pub IsHexDigit : ℕ → Type 0
IsHexDigit b = ((48 ≤ b) × (b ≤ 57)) ⊎ ((97 ≤ b) × (b ≤ 102))

abbrev pub IsRow : ℕ → List ℕ → Type 0
IsRow w bs = (length bs ≡ 2 * w) × AllByRecursion IsHexDigit bs

abbrev pub DigitsFault : ℕ → ℕ → List (List ℕ) → RecordFault → Type 0
DigitsFault w n fs (Field (WrongDigits p)) = (p.line ≡ n) × (p.field ≡ 2) × (IsRow w (field 2 fs) → ⊥)
DigitsFault w n fs _ = ⊥

abbrev pub RowFault : ℕ → ℕ → List (List ℕ) → RecordFault → Type 0
RowFault w n fs e = LineFault (codes "row") 2 (DigitsFault w) n fs e

abbrev pub NextFault : (ℕ → List (List ℕ) → RecordFault → Type 0) → ℕ → List ℕ → RecordFault → Type 0
NextFault F n [] e = e ≡ MissingLine n
NextFault F n bs e = F n (fields (first_line bs)) e

abbrev pub first_lines : Lattice → ℕ → List ℕ
first_lines l r = start_line l.width l.height l.phase ++ rows_text l.width r l.cells

-- within the limits; the cells are those of the rows before
pub record FaultyRow (n : ℕ) (bs : List ℕ) (e : RecordFault) : Type 0 where
  pub lattice : Lattice
  pub rows : ℕ
  pub rest : List ℕ
  pub within : Within lattice
  pub count : length lattice.cells ≡ rows * lattice.width
  pub few : rows < lattice.height
  pub text : bs ≡ first_lines lattice rows ++ rest
  pub fault : NextFault (RowFault lattice.width) (n + 1 + rows) rest e

abbrev pub BoardFault : ℕ → List ℕ → RecordFault → Type 0
BoardFault n bs TooLong = max_text < length bs
BoardFault n bs (Unfinished i) = (length bs ≤ max_text) × (finished bs ≡ false) × (i ≡ n + count_by is_newline bs)
BoardFault n bs e = (length bs ≤ max_text) × IsTrue (finished bs) × (NextFault BoardLineFault n bs e ⊎ FaultyRow n bs e)

abbrev pub ReadFault : ℕ → ℕ → List ℕ → RecordFault → Type 0
ReadFault n k bs CellsTooShort = (l : Lattice) × BeginsWith l bs × (k < length l.cells)
ReadFault n k bs e = BoardFault n bs e
