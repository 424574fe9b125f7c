-- What the calls that read and write boards return.
--     BoardFound a r             looking for the board a returns r: its start record and the length of its text, or its fault
--     BoardRead a old new r      reading the board a into a memory that holds `old` returns r and leaves `new` there
--     BeginsWith l bs            bs is a text that begins with the board of l, which is a whole lattice within the limits
--     BoardWritten s cs old new r     writing the lattice of s and the cells cs into a memory that holds `old` returns r and leaves `new` there
use Rattle.std.specs.Prelude.{◌≡◌, ◌≢◌, ℕ, ◌*◌, ◌<◌, ◌≤◌, List, ◌++◌, length, drop, Result, Ok, Err, IsTrue}
use Rattle.faults.specs.declared.record.RecordFault.{RecordFault}
use Rattle.faults.specs.declared.record.RecordFault.TheVariants.{CellsTooShort}
use Rattle.lattice.specs.Lattice.{Lattice, Whole, Within}
use Rattle.lattice.specs.Starts.{width_of, height_of, held, StartOf}
use Rattle.lattice.specs.declared.start.Start.{Start}
use Rattle.text.specs.Wholes.{max_text, finished}
use Rattle.boards.specs.Boards.{board_text}
use Rattle.boards.specs.declared.refusal.BoardRefusal.{BoardRefusal}
use Rattle.boards.specs.declared.refusal.BoardRefusal.TheVariants.{Cells, MemoryTooShort}

abbrev pub BoardFound : Result Lattice RecordFault → Result (Start × ℕ) RecordFault → Type 0
BoardFound (Ok l) (Ok x) = StartOf l x.0 × (x.1 ≡ length (board_text l))
BoardFound (Ok l) (Err e) = ⊥
BoardFound (Err d) (Ok x) = ⊥
BoardFound (Err d) (Err e) = e ≡ d

abbrev pub BoardRead : Result Lattice RecordFault → List ℕ → List ℕ → Result (Start × ℕ) RecordFault → Type 0
BoardRead (Ok l) old new (Ok x) = (length l.cells ≤ length old) × StartOf l x.0 × (x.1 ≡ length (board_text l)) × (new ≡ l.cells ++ drop (length l.cells) old)
BoardRead (Ok l) old new (Err e) = (length old < length l.cells) × (e ≡ CellsTooShort) × (new ≡ old)
BoardRead (Err d) old new (Ok x) = ⊥
BoardRead (Err d) old new (Err e) = (e ≡ d) × (new ≡ old)

pub record BeginsWith (l : Lattice) (bs : List ℕ) : Type 0 where
  pub within : Within l
  pub whole : Whole l
  pub more : List ℕ
  pub text : bs ≡ board_text l ++ more
  pub short : length bs ≤ max_text
  pub finished : IsTrue (finished bs)

abbrev pub BoardWritten : Start → List ℕ → List ℕ → List ℕ → Result ℕ BoardRefusal → Type 0
BoardWritten s cs old new (Ok n) = (length cs ≡ width_of s * height_of s) × (n ≡ length (board_text (held s cs))) × (n ≤ length old) × (new ≡ board_text (held s cs) ++ drop n old)
BoardWritten s cs old new (Err Cells) = (length cs ≢ width_of s * height_of s) × (new ≡ old)
BoardWritten s cs old new (Err MemoryTooShort) = (length cs ≡ width_of s * height_of s) × (length old < length (board_text (held s cs))) × (new ≡ old)
