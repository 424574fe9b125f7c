-- A board that was read, by its first line and its rows. Assumes nothing.
use Rattle.std.proofs.Common.{◌≡◌, ℕ, ◌+◌, ◌*◌, List, [], length, drop, Ok, arith, sym, ◌∙◌, ap}
use Rattle.faults.proofs.Joined.{went_on}
use Rattle.faults.specs.Results.{◌>>=◌}
use Rattle.lattice.specs.Lattice.{Lattice, with_cells}
use Rattle.lattice.specs.Starts.{held, width_of, height_of}
use Rattle.lattice.specs.declared.start.Start.{Start}
use Rattle.text.specs.Lines.{lines}
use Rattle.text.specs.Readers.{text_of, position_of, line_of}
use Rattle.text.specs.Wholes.{whole}
use Rattle.text.specs.declared.reader.Reader.{Reader}
use Rattle.boards.proofs.BoardLaws.{rows_read_from}
use Rattle.boards.specs.Reading.{board, board_from, rows_from, on_first, start_at}
use Rattle.boards.specs.Steps.{lines_left, LineDown}

pub record BoardParts (n : ℕ) (ls : List (List ℕ)) (l : Lattice) : Type 0 where
  pub start : Lattice
  pub cells : List ℕ
  pub first : on_first start_at n ls ≡ Ok start
  pub rows : rows_from start.width start.height (n + 1) (drop 1 ls) ≡ Ok cells
  pub is : with_cells start cells ≡ l

pub parts_of_board : (n : ℕ) (bs : List ℕ) (l : Lattice) → board n bs ≡ Ok l → BoardParts n (lines bs) l
unfolding board
parts_of_board n bs l e =
    let good = went_on (whole n bs) (λ _. board_from n (lines bs)) l e in
    let first = went_on (on_first start_at n (lines bs)) (λ s. rows_from s.width s.height (n + 1) (drop 1 (lines bs)) >>= λ cs. Ok (with_cells s cs)) l good.2 in
    let second = went_on (rows_from first.0.width first.0.height (n + 1) (drop 1 (lines bs))) (λ cs. Ok (with_cells first.0 cs)) l first.2 in
    record { start = first.0; cells = second.0; first = first.1; rows = second.1; is = cc (second.2) }

-- the rows that are left after the first line of a board
pub rows_left : (n : ℕ) (bs : List ℕ) (l : Lattice) (r t : Reader) (s : Start) → board n bs ≡ Ok l → text_of r ≡ bs → position_of r ≡ 0 → line_of r ≡ n → on_first start_at (line_of r) (lines_left r) ≡ Ok (held s []) → LineDown r t → rows_from (width_of s) (height_of s) (line_of t) (lines_left t) ≡ Ok l.cells
rows_left n bs l r t s e text begin line first down =
    let p : BoardParts n (lines bs) l = parts_of_board n bs l e in
    let all : lines_left r ≡ lines bs = ap lines (ap (λ k. drop k (text_of r)) begin ∙ text) in
    let first' : on_first start_at n (lines bs) ≡ Ok (held s []) = sym (ap (λ k. on_first start_at k (lines_left r)) line ∙ ap (on_first start_at n) all) ∙ first in
    let same : p.start ≡ held s [] = cc (p.first, first') in
    let rows : rows_from (width_of s) (height_of s) (n + 1) (drop 1 (lines bs)) ≡ Ok p.cells = sym (ap (λ x. rows_from x.width x.height (n + 1) (drop 1 (lines bs))) same) ∙ p.rows in
    let place : line_of t ≡ n + 1 = omega (arith, down.line, line) in
    let left : lines_left t ≡ drop 1 (lines bs) = down.lines ∙ ap (drop 1) all in
    ap (λ k. rows_from (width_of s) (height_of s) k (lines_left t)) place ∙ ap (rows_from (width_of s) (height_of s) (n + 1)) left ∙ rows ∙ ap (λ x. Ok x.cells) p.is

-- the number of cells in rows that were read
pub cells_counted : (w h n : ℕ) (ls : List (List ℕ)) (cs : List ℕ) → rows_from w h n ls ≡ Ok cs → length cs ≡ h * w
cells_counted w h n ls cs e = (rows_read_from w h n ls cs e).count
