-- The text of a whole board, when it is written. Assumes nothing.
use Rattle.std.proofs.Common.{◌≡◌, ℕ, ◌+◌, ◌*◌, ◌<◌, ◌≤◌, List, ◌++◌, length, take, drop, Ok, Err, arith, refl, sym, ◌∙◌, ap}
use Rattle.std.proofs.Math.Nat.{mul_comm}
use Rattle.std.proofs.lemmas.List.{length-append, take_at}
use Rattle.lattice.specs.Lattice.{Whole}
use Rattle.lattice.specs.Starts.{width_of, height_of, phase_of, held}
use Rattle.lattice.specs.declared.start.Start.{Start}
use Rattle.boards.proofs.Puts.{length-rows_text}
use Rattle.text.proofs.Puts.{put_two}
use Rattle.boards.specs.Boards.{start_line, rows_text, board_text}
use Rattle.text.specs.Puts.{put_at}
use Rattle.boards.specs.Answers.{BoardWritten}
use Rattle.boards.specs.declared.refusal.BoardRefusal.TheVariants.{MemoryTooShort}

pub board_length : (s : Start) (cs : List ℕ) → Whole (held s cs) → length (board_text (held s cs)) ≡ length (start_line (width_of s) (height_of s) (phase_of s)) + height_of s * (2 * width_of s + 5)
board_length s cs whole =
    let count : length cs ≡ height_of s * width_of s = whole ∙ mul_comm (width_of s) (height_of s) in
    omega (arith, length-append (start_line (width_of s) (height_of s) (phase_of s)) (rows_text (width_of s) (height_of s) cs), length-rows_text (width_of s) (height_of s) (height_of s) cs (omega arith) count)

pub board_too_long : (s : Start) (cs m : List ℕ) (rows : ℕ) → Whole (held s cs) → rows ≡ length (start_line (width_of s) (height_of s) (phase_of s)) → length m < rows + height_of s * (2 * width_of s + 5) → BoardWritten s cs m m (Err MemoryTooShort)
board_too_long s cs m rows whole is long = (whole, omega (arith, board_length s cs whole, is, long), refl)

pub board_put : (s : Start) (cs m one two zeros line : List ℕ) (rows : ℕ) → Whole (held s cs) → line ≡ put_at zeros 0 (start_line (width_of s) (height_of s) (phase_of s)) → rows ≡ length (start_line (width_of s) (height_of s) (phase_of s)) → one ≡ put_at m 0 (take rows line) → two ≡ put_at one rows (rows_text (width_of s) (height_of s) cs) → rows + height_of s * (2 * width_of s + 5) ≤ length m → BoardWritten s cs m two (Ok (rows + height_of s * (2 * width_of s + 5)))
board_put s cs m one two zeros line rows whole line-is rows-is first second room =
    let start : List ℕ = start_line (width_of s) (height_of s) (phase_of s) in
    let below : List ℕ = rows_text (width_of s) (height_of s) cs in
    let front : take rows line ≡ start = ap (take rows) line-is ∙ take_at start (drop (0 + length start) zeros) rows (sym rows-is) in
    let len : length (board_text (held s cs)) ≡ rows + height_of s * (2 * width_of s + 5) = omega (arith, board_length s cs whole, rows-is) in
    let fits : 0 + length start + length below ≤ length m = omega (arith, len, room, length-append start below) in
    let place : rows ≡ 0 + length start = omega (arith, rows-is) in
    let all : two ≡ put_at m 0 (start ++ below) = second ∙ ap (λ x. put_at x rows below) first ∙ ap (λ x. put_at (put_at m 0 x) rows below) front ∙ ap (λ k. put_at (put_at m 0 start) k below) place ∙ put_two m 0 start below fits in
    let end : 0 + length (board_text (held s cs)) ≡ rows + height_of s * (2 * width_of s + 5) = omega (arith, len) in
    (whole, sym len, room, all ∙ ap (λ k. board_text (held s cs) ++ drop k m) end)
