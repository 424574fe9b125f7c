-- Why a board is not written.
--     board_number e     the number of the cause e
use Rattle.std.specs.Prelude.{ℕ}
use Rattle.boards.specs.declared.refusal.BoardRefusal.{BoardRefusal}
use Rattle.boards.specs.declared.refusal.BoardRefusal.TheVariants.{Cells, MemoryTooShort}

abbrev pub board_number : BoardRefusal → ℕ
board_number Cells = 10
board_number MemoryTooShort = 30
