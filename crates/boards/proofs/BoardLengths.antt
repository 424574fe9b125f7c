-- How long the text of a board is at most. Assumes nothing.
use Rattle.std.proofs.Common.{ℕ, ◌+◌, ◌*◌, ◌≤◌, List, [], ◌∷◌, length, codes, arith}
use Rattle.std.proofs.lemmas.Fmt.{length-decimal-le}
use Rattle.std.proofs.lemmas.List.{length-append}
use Rattle.std.specs.Fmt.{decimal}
use Rattle.lattice.specs.Lattice.{Whole}
use Rattle.lattice.specs.Starts.{width_of, height_of, phase_of, held}
use Rattle.lattice.specs.declared.start.Start.{Start}
use Rattle.boards.proofs.WholeBoards.{board_length}
use Rattle.boards.specs.Boards.{start_line, board_text}
use Rattle.text.specs.Lines.{separated}

three_at_most : (n : ℕ) → n ≤ 256 → length (decimal n) ≤ 3
three_at_most n small = length-decimal-le 3 n (omega arith) (omega (arith, small)) (omega (arith, small))

start_line_short : (w h p : ℕ) → w ≤ 256 → h ≤ 256 → p ≤ 256 → length (start_line w h p) ≤ 18
start_line_short w h p ws hs ps =
    omega (arith, length-append (separated (codes "board" ∷ decimal w ∷ decimal h ∷ decimal p ∷ [])) (10 ∷ []), length-append (decimal w) (9 ∷ separated (decimal h ∷ decimal p ∷ [])), length-append (decimal h) (9 ∷ decimal p), three_at_most w ws, three_at_most h hs, three_at_most p ps)

pub board_short : (s : Start) (cs : List ℕ) → Whole (held s cs) → length (board_text (held s cs)) ≤ 18 + height_of s * (2 * width_of s + 5)
board_short s cs whole =
    let wide : width_of s ≤ 256 = s.wide.1 in
    let high : height_of s ≤ 256 = s.high.1 in
    let phased : phase_of s ≤ 1 = s.phased in
    omega (arith, board_length s cs whole, start_line_short (width_of s) (height_of s) (phase_of s) wide high (omega (arith, phased)))
