-- A fault of a board is the first that there is, and what is the first is reported. Assumes nothing.
use Rattle.std.proofs.Common.{◌≡◌, ℕ, suc, zero, ◌+◌, ◌-◌, ◌<◌, ◌≤◌, true, false, List, [], ◌∷◌, ◌++◌, length, drop, map, flat_map, Ok, Err, arith, refl, sym, ◌∙◌, ap, subst, inl, inr, ◌⊎◌}
use Rattle.std.proofs.lemmas.List.{append-nil, drop-drop, drop_at, length-map}
use Rattle.std.specs.List.{AllByRecursion}
use Rattle.faults.proofs.Joined.{went_on}
use Rattle.faults.specs.Results.{◌>>=◌}
use Rattle.faults.specs.declared.record.RecordFault.{RecordFault}
use Rattle.faults.specs.declared.record.RecordFault.TheVariants.{TooLong, Unfinished, MissingLine}
use Rattle.lattice.specs.Lattice.{Lattice, with_cells}
use Rattle.text.proofs.Cuts.{Free}
use Rattle.text.proofs.EndedLines.{text_is_its_lines, lines_free, lines_of_front}
use Rattle.text.proofs.WholeTexts.{whole_accepted, whole_passes, whole_refused, too_long, unfinished}
use Rattle.text.specs.Lines.{is_newline, lines, ended}
use Rattle.text.specs.Wholes.{max_text, finished, whole}
use Rattle.boards.proofs.BoardLaws.{BoardWas, lines_read_from, start_content, row_content, start_taken, rows_taken, lines_of_first}
use Rattle.boards.proofs.HexText.{bytes_one_by_one}
use Rattle.boards.proofs.LineFaults.{went_wrong, start_fault, start_line_refused, row_fault, row_refused, next_fault, next_refused}
use Rattle.boards.proofs.StartRefusals.{not_refused, within_limits}
use Rattle.boards.specs.Boards.{rows}
use Rattle.boards.specs.Laws.{BoardLineFault, RowFault, NextFault, FaultyRow, BoardFault}
use Rattle.boards.specs.Reading.{start_at, row_at, on_first, rows_from, board_from, board, empty}

-- rows that were read, and then one that is missing or wrong
record RowStop (w h n : ℕ) (ls : List (List ℕ)) (e : RecordFault) : Type 0 where
  rows : ℕ
  cells : List ℕ
  few : rows < h
  before : rows_from w rows n ls ≡ Ok cells
  here : on_first (row_at w) (n + rows) (drop rows ls) ≡ Err e

first_stop : (w h n : ℕ) (ls : List (List ℕ)) (e : RecordFault) → on_first (row_at w) n ls ≡ Err e → RowStop w (suc h) n ls e
first_stop w h n ls e wrong =
    let place : n ≡ n + 0 = omega arith in
    record { rows = 0; cells = []; few = omega arith; before = refl; here = ap (λ k. on_first (row_at w) k ls) (sym place) ∙ wrong }

later_stop : (w h n : ℕ) (ls : List (List ℕ)) (e : RecordFault) (xs : List ℕ) → on_first (row_at w) n ls ≡ Ok xs → RowStop w h (n + 1) (drop 1 ls) e → RowStop w (suc h) n ls e
later_stop w h n ls e xs first s =
    let place : n + suc s.rows ≡ n + 1 + s.rows = omega arith in
    let count : 1 + s.rows ≡ suc s.rows = omega arith in
    let left : drop (suc s.rows) ls ≡ drop s.rows (drop 1 ls) = sym (drop-drop s.rows 1 ls ∙ ap (λ k. drop k ls) count) in
    record {
      rows = suc s.rows;
      cells = xs ++ s.cells;
      few = omega (arith, s.few);
      before = ap (λ a. a >>= λ x. rows_from w s.rows (n + 1) (drop 1 ls) >>= λ more. Ok (x ++ more)) first ∙ ap (λ a. a >>= λ more. Ok (xs ++ more)) s.before;
      here = ap (λ k. on_first (row_at w) k (drop (suc s.rows) ls)) place ∙ ap (on_first (row_at w) (n + 1 + s.rows)) left ∙ s.here;
    }

rows_stop : (w h n : ℕ) (ls : List (List ℕ)) (e : RecordFault) → rows_from w h n ls ≡ Err e → RowStop w h n ls e
rows_stop w zero n ls e is = absurd (cc (is))
rows_stop w (suc h) n ls e is = elim (went_wrong (on_first (row_at w) n ls) (λ xs. rows_from w h (n + 1) (drop 1 ls) >>= λ more. Ok (xs ++ more)) e is) [
  | inl wrong ↦ first_stop w h n ls e wrong
  | inr x ↦ elim (went_wrong (rows_from w h (n + 1) (drop 1 ls)) (λ more. Ok (x.0 ++ more)) e x.2) [
    | inl below ↦ later_stop w h n ls e x.0 x.1 (rows_stop w h (n + 1) (drop 1 ls) e below)
    | inr y ↦ absurd (cc (y.2))
  ]
]

-- the lines that are left are those of what is left
free_below : (k : ℕ) (ls : List (List ℕ)) → AllByRecursion (Free is_newline) ls → AllByRecursion (Free is_newline) (drop k ls)
free_below zero ls free = free
free_below (suc k) [] free = tt
free_below (suc k) (l ∷ ls) free = free_below k ls free.1

lines_ended : (ls : List (List ℕ)) → AllByRecursion (Free is_newline) ls → lines (flat_map ended ls) ≡ ls
lines_ended ls free = ap lines (sym (append-nil (flat_map ended ls))) ∙ lines_of_front ls [] free ∙ append-nil ls

faulty_row : (n : ℕ) (bs : List ℕ) (e : RecordFault) (s : Lattice) → finished bs ≡ true → on_first start_at n (lines bs) ≡ Ok s → rows_from s.width s.height (n + 1) (drop 1 (lines bs)) ≡ Err e → FaultyRow n bs e
faulty_row n bs e s ends first wrong =
    let stop : RowStop s.width s.height (n + 1) (drop 1 (lines bs)) e = rows_stop s.width s.height (n + 1) (drop 1 (lines bs)) e wrong in
    let l : Lattice = with_cells s stop.cells in
    let was : BoardWas stop.rows (lines bs) l = lines_read_from n stop.rows (lines bs) s stop.cells first stop.before in
    let left : List (List ℕ) = drop (stop.rows + 1) (lines bs) in
    let place : 1 + stop.rows ≡ stop.rows + 1 = omega arith in
    let there : lines (flat_map ended left) ≡ drop stop.rows (drop 1 (lines bs)) = lines_ended left (free_below (stop.rows + 1) (lines bs) (lines_free bs)) ∙ sym (drop-drop stop.rows 1 (lines bs) ∙ ap (λ k. drop k (lines bs)) place) in
    record {
      lattice = l;
      rows = stop.rows;
      rest = flat_map ended left;
      within = within_limits l was.accepted was.bytes;
      count = was.count;
      few = stop.few;
      text = text_is_its_lines bs ends ∙ was.text;
      fault = next_fault (row_at s.width) (RowFault s.width) (n + 1 + stop.rows) (flat_map ended left) e (λ fs wrong-row. row_fault s.width (n + 1 + stop.rows) fs e wrong-row) (ap (on_first (row_at s.width) (n + 1 + stop.rows)) there ∙ stop.here);
    }

fault_of_lines : (n : ℕ) (bs : List ℕ) (e : RecordFault) → finished bs ≡ true → board_from n (lines bs) ≡ Err e → NextFault BoardLineFault n bs e ⊎ FaultyRow n bs e
fault_of_lines n bs e ends is = elim (went_wrong (on_first start_at n (lines bs)) (λ s. rows_from s.width s.height (n + 1) (drop 1 (lines bs)) >>= λ cs. Ok (with_cells s cs)) e is) [
  | inl wrong ↦ inl (next_fault start_at BoardLineFault n bs e (λ fs wrong-line. start_fault n fs e wrong-line) wrong)
  | inr s ↦ elim (went_wrong (rows_from s.0.width s.0.height (n + 1) (drop 1 (lines bs))) (λ cs. Ok (with_cells s.0 cs)) e s.2) [
    | inl below ↦ inr (faulty_row n bs e s.0 ends s.1 below)
    | inr y ↦ absurd (cc (y.2))
  ]
]

-- a fault that no line has is not found on one
pub next_has_none : (F : ℕ → List (List ℕ) → RecordFault → Type 0) (n : ℕ) (bs : List ℕ) (e : RecordFault) → ((i : ℕ) → e ≡ MissingLine i → ⊥) → ((fs : List (List ℕ)) → F n fs e → ⊥) → NextFault F n bs e → ⊥
next_has_none F n [] e not_missing none f = not_missing n f
next_has_none F n (b ∷ bs) e not_missing none f = none _ f

pub lines_have_none : (n : ℕ) (bs : List ℕ) (e : RecordFault) → ((i : ℕ) → e ≡ MissingLine i → ⊥) → ((fs : List (List ℕ)) → BoardLineFault n fs e → ⊥) → ((w m : ℕ) (fs : List (List ℕ)) → RowFault w m fs e → ⊥) → (NextFault BoardLineFault n bs e ⊎ FaultyRow n bs e) → ⊥
lines_have_none n bs e not_missing no_board no_row (inl f) = next_has_none BoardLineFault n bs e not_missing no_board f
lines_have_none n bs e not_missing no_board no_row (inr f) = next_has_none (RowFault f.lattice.width) (n + 1 + f.rows) f.rest e not_missing (no_row f.lattice.width (n + 1 + f.rows)) f.fault

placed : (n : ℕ) (bs : List ℕ) (e : RecordFault) → length bs ≤ max_text → finished bs ≡ true → (NextFault BoardLineFault n bs e ⊎ FaultyRow n bs e) → BoardFault n bs e
placed n bs TooLong short ends f = absurd (lines_have_none n bs TooLong (λ i x. cc) (λ fs x. x.1) (λ w m fs x. x.1) f)
placed n bs (Unfinished i) short ends f = absurd (lines_have_none n bs (Unfinished i) (λ j x. cc) (λ fs x. x.1) (λ w m fs x. x.1) f)
placed n bs e short ends f = (short, ends, f)

-- the whole text is wrong, or its lines are
fault_of_whole : (n : ℕ) (bs : List ℕ) (e : RecordFault) → whole n bs ≡ Err e → BoardFault n bs e
fault_of_whole n bs e is = elim (whole_refused n bs e is) [
  | inl l ↦ subst (BoardFault n bs) (sym l.0) l.1
  | inr u ↦ subst (BoardFault n bs) (sym u.is) (u.short, u.unended, refl)
]

pub board_fault : (n : ℕ) (bs : List ℕ) (e : RecordFault) → board n bs ≡ Err e → BoardFault n bs e
unfolding board
board_fault n bs e is = elim (went_wrong (whole n bs) (λ _. board_from n (lines bs)) e is) [
  | inl wrong ↦ fault_of_whole n bs e wrong
  | inr u ↦ let good = whole_accepted n bs u.1 in placed n bs e good.0 good.1 (fault_of_lines n bs e good.1 u.2)
]

-- the converse: r rows that are read, and then one that is not
rows_on : (w r k n : ℕ) (ls : List (List ℕ)) (cs : List ℕ) (e : RecordFault) → rows_from w r n ls ≡ Ok cs → rows_from w k (n + r) (drop r ls) ≡ Err e → rows_from w (r + k) n ls ≡ Err e
rows_on w zero k n ls cs e read wrong =
    let none : zero + k ≡ k = omega arith in
    let place : n + zero ≡ n = omega arith in
    ap (λ h. rows_from w h n ls) none ∙ ap (λ m. rows_from w k m ls) (sym place) ∙ wrong
rows_on w (suc r) k n ls cs e read wrong =
    let first = went_on (on_first (row_at w) n ls) (λ xs. rows_from w r (n + 1) (drop 1 ls) >>= λ more. Ok (xs ++ more)) cs read in
    let second = went_on (rows_from w r (n + 1) (drop 1 ls)) (λ more. Ok (first.0 ++ more)) cs first.2 in
    let count : suc r + k ≡ suc (r + k) = omega arith in
    let place : n + 1 + r ≡ n + suc r = omega arith in
    let one : 1 + r ≡ suc r = omega arith in
    let left : drop r (drop 1 ls) ≡ drop (suc r) ls = drop-drop r 1 ls ∙ ap (λ i. drop i ls) one in
    let wrong' : rows_from w k (n + 1 + r) (drop r (drop 1 ls)) ≡ Err e = ap (λ m. rows_from w k m (drop r (drop 1 ls))) place ∙ ap (rows_from w k (n + suc r)) left ∙ wrong in
    ap (λ h. rows_from w h n ls) count
    ∙ ap (λ a. a >>= λ xs. rows_from w (r + k) (n + 1) (drop 1 ls) >>= λ more. Ok (xs ++ more)) first.1
    ∙ ap (λ a. a >>= λ more. Ok (first.0 ++ more)) (rows_on w r k (n + 1) (drop 1 ls) second.0 e second.1 wrong')

rows_counted : (w h : ℕ) (cs : List ℕ) → length (rows w h cs) ≡ h
rows_counted w zero cs = refl
rows_counted w (suc h) cs = omega (arith, rows_counted w h (drop w cs))

row_missed : (n : ℕ) (bs : List ℕ) (e : RecordFault) → FaultyRow n bs e → board_from n (lines bs) ≡ Err e
row_missed n bs e f =
    let l : Lattice = f.lattice in
    let wide : l.width ≤ 256 = f.within.wide.1 in
    let high : l.height ≤ 256 = f.within.high.1 in
    let phased : l.phase ≤ 1 = f.within.phased in
    let bytes = bytes_one_by_one l.cells f.within.bytes in
    let before : List (List ℕ) = map row_content (rows l.width f.rows l.cells) in
    let ls : List (List ℕ) = before ++ lines f.rest in
    let all : lines bs ≡ start_content l.width l.height l.phase ∷ ls = ap lines f.text ∙ lines_of_first l f.rows f.rest (omega (arith, wide)) (omega (arith, high)) (omega (arith, phased)) bytes in
    let first = start_taken n l.width l.height l.phase ls (omega (arith, wide)) (omega (arith, high)) (omega (arith, phased)) (not_refused l f.within) in
    let read : rows_from l.width f.rows (n + 1) ls ≡ Ok l.cells = rows_taken l.width f.rows (n + 1) l.cells (lines f.rest) f.count bytes in
    let left : drop f.rows ls ≡ lines f.rest = drop_at before (lines f.rest) f.rows (length-map (rows l.width f.rows l.cells) row_content ∙ rows_counted l.width f.rows l.cells) in
    let here : on_first (row_at l.width) (n + 1 + f.rows) (drop f.rows ls) ≡ Err e = ap (on_first (row_at l.width) (n + 1 + f.rows)) left ∙ next_refused (row_at l.width) (RowFault l.width) (n + 1 + f.rows) f.rest e (λ fs some wrong. row_refused l.width (n + 1 + f.rows) fs e some wrong) f.fault in
    let k : ℕ = l.height - (f.rows + 1) in
    let more : rows_from l.width (suc k) (n + 1 + f.rows) (drop f.rows ls) ≡ Err e = ap (λ a. a >>= λ xs. rows_from l.width k (n + 1 + f.rows + 1) (drop 1 (drop f.rows ls)) >>= λ ys. Ok (xs ++ ys)) here in
    let count : f.rows + suc k ≡ l.height = omega (arith, f.few) in
    let stopped : rows_from l.width l.height (n + 1) ls ≡ Err e = ap (λ h. rows_from l.width h (n + 1) ls) (sym count) ∙ rows_on l.width f.rows (suc k) (n + 1) ls l.cells e read more in
    ap (board_from n) all ∙ ap (λ a. a >>= λ s. rows_from s.width s.height (n + 1) ls >>= λ cs. Ok (with_cells s cs)) first ∙ ap (λ a. a >>= λ cs. Ok (with_cells (empty l.width l.height l.phase) cs)) stopped

lines_refused : (n : ℕ) (bs : List ℕ) (e : RecordFault) → (NextFault BoardLineFault n bs e ⊎ FaultyRow n bs e) → board_from n (lines bs) ≡ Err e
lines_refused n bs e (inl f) = ap (λ a. a >>= λ s. rows_from s.width s.height (n + 1) (drop 1 (lines bs)) >>= λ cs. Ok (with_cells s cs)) (next_refused start_at BoardLineFault n bs e (λ fs some wrong. start_line_refused n fs e some wrong) f)
lines_refused n bs e (inr f) = row_missed n bs e f

pub board_refused : (n : ℕ) (bs : List ℕ) (e : RecordFault) → BoardFault n bs e → board n bs ≡ Err e
unfolding board
board_refused n bs TooLong f = ap (λ a. a >>= λ _. board_from n (lines bs)) (too_long n bs f)
board_refused n bs (Unfinished i) f = ap (λ a. a >>= λ _. board_from n (lines bs)) (unfinished n i bs f.0 f.1 f.2)
board_refused n bs e f = ap (λ a. a >>= λ _. board_from n (lines bs)) (whole_passes n bs f.0 f.1) ∙ lines_refused n bs e f.2
