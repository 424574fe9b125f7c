-- The promise of `read_board`: it undoes writing, writing undoes it, and a board that was read is within the limits.
-- Assumes nothing.
use Rattle.std.proofs.Common.{◌≡◌, ℕ, ◌+◌, ◌*◌, ◌≤◌, true, List, ◌++◌, length, take, drop, flat_map, Ok, Err, Result, IfOk, arith, refl, sym, ◌∙◌, ap, subst}
use Rattle.std.proofs.Math.Nat.{mul_comm}
use Rattle.std.proofs.lemmas.List.{take_at, length-append}
use Rattle.faults.proofs.Joined.{went_on}
use Rattle.faults.specs.Results.{◌>>=◌}
use Rattle.faults.specs.declared.record.RecordFault.{RecordFault}
use Rattle.lattice.specs.Lattice.{Lattice, Within}
use Rattle.lattice.specs.Starts.{width_of, height_of, held}
use Rattle.lattice.specs.declared.start.Start.{Start}
use Rattle.text.proofs.EndedLines.{text_is_its_lines}
use Rattle.text.proofs.WholeTexts.{whole_accepted, whole_passes}
use Rattle.text.specs.Lines.{lines, ended}
use Rattle.text.specs.Wholes.{max_text, finished, whole}
use Rattle.boards.proofs.BoardLaws.{BoardWas, board_read_from, board_taken, lines_of_first}
use Rattle.boards.proofs.Found.{FoundBoard, board_there, found_count}
use Rattle.boards.proofs.HexText.{bytes_one_by_one}
use Rattle.boards.proofs.StartRefusals.{not_refused, within_limits}
use Rattle.boards.specs.Answers.{BoardFound, BoardRead, BeginsWith}
use Rattle.boards.specs.Boards.{board_text}
use Rattle.boards.specs.Reading.{board, board_from}

-- the text of a board that was read
board_was : (n : ℕ) (bs : List ℕ) (l : Lattice) → board n bs ≡ Ok l → (finished bs ≡ true) × BoardWas l.height (lines bs) l
unfolding board
board_was n bs l is = let good = went_on (whole n bs) (λ _. board_from n (lines bs)) l is in ((whole_accepted n bs good.1).1, board_read_from n (lines bs) l good.2)

pub board_short : (n : ℕ) (bs : List ℕ) (l : Lattice) → board n bs ≡ Ok l → (length bs ≤ max_text) × (finished bs ≡ true)
unfolding board
board_short n bs l is = let good = went_on (whole n bs) (λ _. board_from n (lines bs)) l is in whole_accepted n bs good.1

-- a board that was read is within the limits
pub board_within : (n : ℕ) (bs : List ℕ) (l : Lattice) → board n bs ≡ Ok l → Within l
board_within n bs l is =
    let was : BoardWas l.height (lines bs) l = (board_was n bs l is).1 in
    within_limits l was.accepted was.bytes

-- reading undoes writing
pub written_board : (n : ℕ) (bs : List ℕ) (l : Lattice) → BeginsWith l bs → board n bs ≡ Ok l
unfolding board
written_board n bs l b =
    let w : Within l = b.within in
    let wide : l.width ≤ 256 = w.wide.1 in
    let high : l.height ≤ 256 = w.high.1 in
    let phased : l.phase ≤ 1 = w.phased in
    let count : length l.cells ≡ l.height * l.width = b.whole ∙ mul_comm l.width l.height in
    let contents = lines_of_first l l.height b.more (omega (arith, wide)) (omega (arith, high)) (omega (arith, phased)) (bytes_one_by_one l.cells w.bytes) in
    let read = board_taken n l (lines b.more) (omega (arith, wide)) (omega (arith, high)) (omega (arith, phased)) (not_refused l w) count (bytes_one_by_one l.cells w.bytes) in
    ap (λ a. a >>= λ u. board_from n (lines bs)) (whole_passes n bs b.short b.finished) ∙ ap (λ x. board_from n (lines x)) b.text ∙ ap (board_from n) contents ∙ read

pub written_is_found : (n : ℕ) (bs : List ℕ) (l : Lattice) (r : Result (Start × ℕ) RecordFault) → BoardFound (board n bs) r → BeginsWith l bs → BoardFound (Ok l) r
written_is_found n bs l r found b = subst (λ (a : Result Lattice RecordFault). BoardFound a r) (written_board n bs l b) found

pub written_is_read : (n : ℕ) (bs old new : List ℕ) (l : Lattice) (r : Result (Start × ℕ) RecordFault) → BoardRead (board n bs) old new r → BeginsWith l bs → BoardRead (Ok l) old new r
written_is_read n bs old new l r read b = subst (λ (a : Result Lattice RecordFault). BoardRead a old new r) (written_board n bs l b) read

-- writing undoes reading
pub board_begins : (n : ℕ) (bs : List ℕ) (l : Lattice) → board n bs ≡ Ok l → (more : List ℕ) × (bs ≡ board_text l ++ more)
board_begins n bs l is = let was = board_was n bs l is in (flat_map ended (drop (l.height + 1) (lines bs)), text_is_its_lines bs was.0 ∙ was.1.text)

pub board_inside : (n : ℕ) (bs : List ℕ) (x : Start × ℕ) → BoardFound (board n bs) (Ok x) → x.1 ≤ length bs
board_inside n bs x found =
    let f : FoundBoard n bs x = board_there n bs x found in
    let b = board_begins n bs f.lattice f.is in
    omega (arith, f.end, ap length b.1, length-append (board_text f.lattice) b.0)

pub board_bytes : (n : ℕ) (bs : List ℕ) (l : Lattice) → board n bs ≡ Ok l → take (length (board_text l)) bs ≡ board_text l
board_bytes n bs l is = let b = board_begins n bs l is in ap (take (length (board_text l))) b.1 ∙ take_at (board_text l) b.0 (length (board_text l)) refl

read_at : (n : ℕ) (bs old new : List ℕ) (r : Result (Start × ℕ) RecordFault) (a : Result Lattice RecordFault) → board n bs ≡ a → BoardRead a old new r → IfOk r (λ x. take x.1 bs ≡ board_text (held x.0 (take (width_of x.0 * height_of x.0) new)))
read_at n bs old new (Err e) a is read = tt
read_at n bs old new (Ok x) (Err e) is read = absurd read
read_at n bs old new (Ok x) (Ok l) is read =
    let f : FoundBoard n bs x = record { lattice = l; is = is; start = read.1; end = read.2 } in
    let count : length l.cells ≡ width_of x.0 * height_of x.0 = found_count n bs x f in
    let cells : take (width_of x.0 * height_of x.0) new ≡ l.cells = ap (take (width_of x.0 * height_of x.0)) read.3 ∙ take_at l.cells (drop (length l.cells) old) (width_of x.0 * height_of x.0) count in
    let same : held x.0 (take (width_of x.0 * height_of x.0) new) ≡ l = ap (held x.0) cells ∙ read.1 in
    ap (λ k. take k bs) read.2 ∙ board_bytes n bs l is ∙ sym (ap board_text same)

pub read_is_written : (n : ℕ) (bs old new : List ℕ) (r : Result (Start × ℕ) RecordFault) → BoardRead (board n bs) old new r → IfOk r (λ x. take x.1 bs ≡ board_text (held x.0 (take (width_of x.0 * height_of x.0) new)))
read_is_written n bs old new r read = read_at n bs old new r (board n bs) refl read
