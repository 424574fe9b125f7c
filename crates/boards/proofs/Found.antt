-- Where the text of a board ends. Assumes nothing.
use Rattle.std.proofs.Common.{◌≡◌, ℕ, ◌+◌, ◌*◌, ◌<◌, ◌≤◌, List, ◌++◌, length, take, drop, flat_map, true, Ok, Err, Result, arith, refl, sym, ◌∙◌, ap, subst}
use Rattle.std.proofs.lemmas.List.{length-append, length-drop, length-take-le}
use Rattle.std.proofs.Math.Nat.{mul_comm}
use Rattle.faults.specs.Results.{◌>>=◌}
use Rattle.faults.specs.declared.record.RecordFault.{RecordFault}
use Rattle.faults.specs.declared.record.RecordFault.TheVariants.{CellsTooShort}
use Rattle.lattice.specs.Lattice.{Lattice}
use Rattle.lattice.specs.Starts.{width_of, height_of, held, StartOf}
use Rattle.lattice.specs.declared.start.Start.{Start}
use Rattle.text.proofs.EndedLines.{text_is_its_lines, finished_drop}
use Rattle.text.proofs.ReaderFacts.{reader_within}
use Rattle.text.proofs.WholeTexts.{whole_accepted}
use Rattle.text.specs.Lines.{lines, ended}
use Rattle.text.specs.Readers.{text_of, position_of, line_of, rest_of}
use Rattle.text.specs.Wholes.{finished, whole}
use Rattle.text.specs.declared.reader.Reader.{Reader}
use Rattle.boards.proofs.BoardLaws.{BoardWas, board_read_from}
use Rattle.boards.proofs.Parts.{BoardParts, parts_of_board, cells_counted}
use Rattle.boards.specs.Answers.{BoardFound, BoardRead}
use Rattle.boards.specs.Boards.{board_text}
use Rattle.boards.specs.Reading.{board, board_from}
use Rattle.boards.specs.Steps.{LinesDown, lines_left}

-- what follows a board's text in a finished text, as its reader left it
pub board_ends : (n : ℕ) (bs : List ℕ) (l : Lattice) (t : Reader) → finished bs ≡ true → board_from n (lines bs) ≡ Ok l → text_of t ≡ bs → lines_left t ≡ drop (l.height + 1) (lines bs) → bs ≡ board_text l ++ drop (position_of t) bs
board_ends n bs l t ends is text left =
    let was : BoardWas l.height (lines bs) l = board_read_from n (lines bs) l is in
    let rest : drop (position_of t) bs ≡ rest_of t = ap (drop (position_of t)) (sym text) in
    let rest-ends : finished (rest_of t) ≡ true = ap finished (sym rest) ∙ finished_drop (position_of t) bs ends in
    let below : rest_of t ≡ flat_map ended (drop (l.height + 1) (lines bs)) = text_is_its_lines (rest_of t) rest-ends ∙ ap (flat_map ended) left in
    text_is_its_lines bs ends ∙ was.text ∙ ap (λ x. board_text l ++ x) (sym (rest ∙ below))

pub length_before : (bs front : List ℕ) (p : ℕ) → p ≤ length bs → bs ≡ front ++ drop p bs → p ≡ length front
length_before bs front p inside e = omega (arith, inside, ap length e, length-append front (drop p bs), length-drop p bs)

pub found : (n : ℕ) (bs : List ℕ) (r t : Reader) (s : Start) (cs : List ℕ) → whole n bs ≡ Ok tt → text_of r ≡ bs → position_of r ≡ 0 → line_of r ≡ n → board_from (line_of r) (lines_left r) ≡ Ok (held s cs) → LinesDown (height_of s + 1) r t → BoardFound (board n bs) (Ok (s, position_of t))
unfolding board
found n bs r t s cs good text begin line is down =
    let all : rest_of r ≡ bs = ap (λ k. drop k (text_of r)) begin ∙ text in
    let is' : board_from n (lines bs) ≡ Ok (held s cs) = sym (ap (λ k. board_from k (lines_left r)) line ∙ ap (λ x. board_from n (lines x)) all) ∙ is in
    let text' : text_of t ≡ bs = down.text ∙ text in
    let left : lines_left t ≡ drop (height_of s + 1) (lines bs) = down.lines ∙ ap (λ x. drop (height_of s + 1) (lines x)) all in
    let inside : position_of t ≤ length bs = omega (arith, reader_within t, ap length text') in
    let there : bs ≡ board_text (held s cs) ++ drop (position_of t) bs = board_ends n bs (held s cs) t (whole_accepted n bs good).1 is' text' left in
    let whole-is : board n bs ≡ Ok (held s cs) = ap (λ a. a >>= λ u. board_from n (lines bs)) good ∙ is' in
    subst (λ (a : Result Lattice RecordFault). BoardFound a (Ok (s, position_of t))) (sym whole-is) (refl, length_before bs (board_text (held s cs)) (position_of t) inside there)

-- the board that was found
pub record FoundBoard (n : ℕ) (bs : List ℕ) (x : Start × ℕ) : Type 0 where
  pub lattice : Lattice
  pub is : board n bs ≡ Ok lattice
  pub start : StartOf lattice x.0
  pub end : x.1 ≡ length (board_text lattice)

found_at : (n : ℕ) (bs : List ℕ) (x : Start × ℕ) (a : Result Lattice RecordFault) → board n bs ≡ a → BoardFound a (Ok x) → FoundBoard n bs x
found_at n bs x (Ok l) is f = record { lattice = l; is = is; start = f.0; end = f.1 }
found_at n bs x (Err e) is f = absurd f

pub board_there : (n : ℕ) (bs : List ℕ) (x : Start × ℕ) → BoardFound (board n bs) (Ok x) → FoundBoard n bs x
board_there n bs x f = found_at n bs x (board n bs) refl f

pub board_count : (n : ℕ) (bs : List ℕ) (l : Lattice) → board n bs ≡ Ok l → length l.cells ≡ l.height * l.width
board_count n bs l is = let p : BoardParts n (lines bs) l = parts_of_board n bs l is in subst (λ (m : Lattice). length m.cells ≡ m.height * m.width) p.is (cells_counted p.start.width p.start.height (n + 1) (drop 1 (lines bs)) p.cells p.rows)

pub found_count : (n : ℕ) (bs : List ℕ) (x : Start × ℕ) (f : FoundBoard n bs x) → length f.lattice.cells ≡ width_of x.0 * height_of x.0
found_count n bs x f =
    let wide : width_of x.0 ≡ f.lattice.width = ap (λ (m : Lattice). m.width) f.start in
    let high : height_of x.0 ≡ f.lattice.height = ap (λ (m : Lattice). m.height) f.start in
    board_count n bs f.lattice f.is ∙ mul_comm f.lattice.height f.lattice.width ∙ sym (ap (λ w. w * height_of x.0) wide ∙ ap (λ h. f.lattice.width * h) high)

refused_at : (a : Result Lattice RecordFault) (old : List ℕ) (e : RecordFault) → BoardFound a (Err e) → BoardRead a old old (Err e)
refused_at (Ok l) old e f = absurd f
refused_at (Err d) old e f = (f, refl)

pub read_refused : (n : ℕ) (bs old : List ℕ) (e : RecordFault) → BoardFound (board n bs) (Err e) → BoardRead (board n bs) old old (Err e)
read_refused n bs old e f = refused_at (board n bs) old e f

pub read_short : (n : ℕ) (bs old : List ℕ) (x : Start × ℕ) → BoardFound (board n bs) (Ok x) → length old < width_of x.0 * height_of x.0 → BoardRead (board n bs) old old (Err CellsTooShort)
read_short n bs old x found short =
    let f : FoundBoard n bs x = board_there n bs x found in
    subst (λ (a : Result Lattice RecordFault). BoardRead a old old (Err CellsTooShort)) (sym f.is) (omega (arith, found_count n bs x f, short), refl, refl)

pub read_whole : (n : ℕ) (bs old new : List ℕ) (x : Start × ℕ) → BoardFound (board n bs) (Ok x) → width_of x.0 * height_of x.0 ≤ length old → ((l : Lattice) → board n bs ≡ Ok l → new ≡ l.cells ++ drop (width_of x.0 * height_of x.0) old) → BoardRead (board n bs) old new (Ok x)
read_whole n bs old new x found enough is =
    let f : FoundBoard n bs x = board_there n bs x found in
    let count : length f.lattice.cells ≡ width_of x.0 * height_of x.0 = found_count n bs x f in
    let all : new ≡ f.lattice.cells ++ drop (length f.lattice.cells) old = is f.lattice f.is ∙ ap (λ k. f.lattice.cells ++ drop k old) (sym count) in
    subst (λ (a : Result Lattice RecordFault). BoardRead a old new (Ok x)) (sym f.is) (omega (arith, count, enough), f.start, f.end, all)

pub read_asked : (n : ℕ) (bs old : List ℕ) (x : Start × ℕ) (count : ℕ) → BoardFound (board n bs) (Ok x) → count ≡ width_of x.0 * height_of x.0 → count ≤ length old → (l : Lattice) × (board n bs ≡ Ok l) × (length (take count old) ≡ length l.cells)
read_asked n bs old x count found e enough =
    let f : FoundBoard n bs x = board_there n bs x found in
    (f.lattice, f.is, length-take-le count old enough ∙ e ∙ sym (found_count n bs x f))
