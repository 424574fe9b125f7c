-- The lines of a whole board: reading undoes writing, and writing undoes reading. Assumes nothing.
use Rattle.std.proofs.Common.{◌≡◌, ℕ, suc, zero, ◌+◌, ◌*◌, ◌≤◌, List, [], ◌∷◌, ◌++◌, length, take, drop, map, flat_map, Ok, Result, arith, refl, sym, ◌∙◌, ap, subst, codes, None}
use Rattle.std.proofs.Math.Nat.{suc-mul}
use Rattle.std.proofs.lemmas.List.{append_assoc, take_at, drop_at, length-append, length-take-le, length-drop, take-append-drop, nil_from_length}
use Rattle.std.specs.Fmt.{decimal}
use Rattle.std.specs.List.{AllByRecursion}
use Rattle.faults.proofs.Joined.{went_on}
use Rattle.faults.specs.Results.{◌>>=◌}
use Rattle.faults.specs.declared.record.RecordFault.{RecordFault}
use Rattle.lattice.specs.Lattice.{Lattice, with_cells}
use Rattle.lattice.specs.Refusals.{start_refusal}
use Rattle.text.proofs.Cuts.{Free}
use Rattle.text.proofs.EndedLines.{ended_by_fields, fields_of_separated, lines_of_front}
use Rattle.text.proofs.FreeNumbers.{decimal_free}
use Rattle.text.proofs.LineFields.{no_tab, separated_free}
use Rattle.text.specs.Lines.{is_newline, lines, ended, separated, fields}
use Rattle.boards.proofs.BoardLines.{StartRead, start_from_fields, start_written, RowRead, row_from_fields, row_written}
use Rattle.boards.proofs.HexText.{AreBytes, hex_free}
use Rattle.boards.specs.Boards.{hex, rows, start_line, row_line}
use Rattle.boards.specs.Laws.{first_lines}
use Rattle.boards.specs.Reading.{on_first, start_at, row_at, rows_from, board_from, empty}

-- a result for the first line comes from its fields
first_was : {A : Type 0} (f : ℕ → List (List ℕ) → Result A RecordFault) (n : ℕ) (ls : List (List ℕ)) (y : A) → on_first f n ls ≡ Ok y → (l : List ℕ) × (more : List (List ℕ)) × (ls ≡ l ∷ more) × (f n (fields l) ≡ Ok y)
first_was f n [] y is = absurd cc
first_was f n (l ∷ ls) y is = (l, ls, refl, is)

-- rows that were read
pub record RowsWere (w h : ℕ) (ls : List (List ℕ)) (cs : List ℕ) : Type 0 where
  pub text : flat_map ended ls ≡ flat_map row_line (rows w h cs) ++ flat_map ended (drop h ls)
  pub count : length cs ≡ h * w
  pub bytes : AreBytes cs

bytes_append : (xs ys : List ℕ) → AreBytes xs → AreBytes ys → AreBytes (xs ++ ys)
bytes_append [] ys x y = y
bytes_append (b ∷ xs) ys x y = (x.0, bytes_append xs ys x.1 y)

first_row : (w h : ℕ) (xs ys : List ℕ) → length xs ≡ w → rows w (suc h) (xs ++ ys) ≡ xs ∷ rows w h ys
first_row w h xs ys count = ap (λ x. x ∷ rows w h (drop w (xs ++ ys))) (take_at xs ys w count) ∙ ap (λ x. xs ∷ rows w h x) (drop_at xs ys w count)

pub rows_read_from : (w h n : ℕ) (ls : List (List ℕ)) (cs : List ℕ) → rows_from w h n ls ≡ Ok cs → RowsWere w h ls cs
rows_read_from w zero n ls cs is = let none : [] ≡ cs = cc in subst (RowsWere w zero ls) none (record { text = refl; count = omega arith; bytes = tt })
rows_read_from w (suc h) n ls cs is =
    let first = went_on (on_first (row_at w) n ls) (λ xs. rows_from w h (n + 1) (drop 1 ls) >>= λ ys. Ok (xs ++ ys)) cs is in
    let second = went_on (rows_from w h (n + 1) (drop 1 ls)) (λ ys. Ok (first.0 ++ ys)) cs first.2 in
    let xs : List ℕ = first.0 in
    let ys : List ℕ = second.0 in
    let line = first_was (row_at w) n ls xs first.1 in
    let row : RowRead w (fields line.0) xs = row_from_fields w n (fields line.0) xs line.3 in
    let below : RowsWere w h (drop 1 ls) ys = rows_read_from w h (n + 1) (drop 1 ls) ys second.1 in
    let rest : drop 1 ls ≡ line.1 = ap (drop 1) line.2 in
    let here : ended line.0 ≡ row_line xs = ended_by_fields line.0 (codes "row" ∷ flat_map hex xs ∷ []) row.written in
    let same : xs ++ ys ≡ cs = cc (second.2) in
    let split : rows w (suc h) (xs ++ ys) ≡ xs ∷ rows w h ys = first_row w h xs ys row.count in
    let after : drop h (drop 1 ls) ≡ drop (suc h) ls = ap (drop h) rest ∙ sym (ap (drop (suc h)) line.2) in
    subst (RowsWere w (suc h) ls) same (record {
      text =
          ap (flat_map ended) line.2 ∙ ap (λ x. ended line.0 ++ flat_map ended x) (sym rest) ∙ ap (λ x. x ++ flat_map ended (drop 1 ls)) here ∙ ap (λ x. row_line xs ++ x) below.text
          ∙ sym (append_assoc (row_line xs) (flat_map row_line (rows w h ys)) (flat_map ended (drop h (drop 1 ls))))
          ∙ ap (λ x. flat_map row_line x ++ flat_map ended (drop h (drop 1 ls))) (sym split)
          ∙ ap (λ x. flat_map row_line (rows w (suc h) (xs ++ ys)) ++ flat_map ended x) after;
      count = omega (arith, length-append xs ys, row.count, below.count, suc-mul h w);
      bytes = bytes_append xs ys row.bytes below.bytes;
    })

-- the line of a board that was read, and r rows, with the cells of l
pub record BoardWas (r : ℕ) (ls : List (List ℕ)) (l : Lattice) : Type 0 where
  pub text : flat_map ended ls ≡ first_lines l r ++ flat_map ended (drop (r + 1) ls)
  pub accepted : start_refusal l.width l.height l.phase ≡ None
  pub count : length l.cells ≡ r * l.width
  pub bytes : AreBytes l.cells

pub lines_read_from : (n r : ℕ) (ls : List (List ℕ)) (s : Lattice) (cs : List ℕ) → on_first start_at n ls ≡ Ok s → rows_from s.width r (n + 1) (drop 1 ls) ≡ Ok cs → BoardWas r ls (with_cells s cs)
lines_read_from n r ls s cs first second =
    let line = first_was start_at n ls s first in
    let start : StartRead (fields line.0) s = start_from_fields n (fields line.0) s line.3 in
    let below : RowsWere s.width r (drop 1 ls) cs = rows_read_from s.width r (n + 1) (drop 1 ls) cs second in
    let rest : drop 1 ls ≡ line.1 = ap (drop 1) line.2 in
    let here : ended line.0 ≡ start_line s.width s.height s.phase = ended_by_fields line.0 (codes "board" ∷ decimal s.width ∷ decimal s.height ∷ decimal s.phase ∷ []) start.written in
    let one : r + 1 ≡ suc r = omega arith in
    let after : drop r (drop 1 ls) ≡ drop (r + 1) ls = ap (drop r) rest ∙ sym (ap (λ k. drop k ls) one ∙ ap (drop (suc r)) line.2) in
    record {
      text =
          ap (flat_map ended) line.2 ∙ ap (λ x. ended line.0 ++ flat_map ended x) (sym rest) ∙ ap (λ x. x ++ flat_map ended (drop 1 ls)) here ∙ ap (λ x. start_line s.width s.height s.phase ++ x) below.text
          ∙ sym (append_assoc (start_line s.width s.height s.phase) (flat_map row_line (rows s.width r cs)) (flat_map ended (drop r (drop 1 ls))))
          ∙ ap (λ x. first_lines (with_cells s cs) r ++ flat_map ended x) after;
      accepted = start.accepted;
      count = below.count;
      bytes = below.bytes;
    }

pub board_read_from : (n : ℕ) (ls : List (List ℕ)) (l : Lattice) → board_from n ls ≡ Ok l → BoardWas l.height ls l
board_read_from n ls l is =
    let first = went_on (on_first start_at n ls) (λ s. rows_from s.width s.height (n + 1) (drop 1 ls) >>= λ cs. Ok (with_cells s cs)) l is in
    let second = went_on (rows_from first.0.width first.0.height (n + 1) (drop 1 ls)) (λ cs. Ok (with_cells first.0 cs)) l first.2 in
    let same : with_cells first.0 second.0 ≡ l = cc (second.2) in
    subst (λ (m : Lattice). BoardWas m.height ls m) same (lines_read_from n first.0.height ls first.0 second.0 first.1 second.1)

-- the lines of a board, with no newlines
abbrev pub row_content : List ℕ → List ℕ
row_content cs = separated (codes "row" ∷ flat_map hex cs ∷ [])

abbrev pub start_content : ℕ → ℕ → ℕ → List ℕ
start_content w h p = separated (codes "board" ∷ decimal w ∷ decimal h ∷ decimal p ∷ [])

-- written rows are read back
fields_of_row : (cs : List ℕ) → AreBytes cs → fields (row_content cs) ≡ codes "row" ∷ flat_map hex cs ∷ []
fields_of_row cs bytes = fields_of_separated (codes "row") (flat_map hex cs ∷ []) ((refl, (refl, (refl, tt))), (no_tab (flat_map hex cs) (hex_free cs bytes), tt))

bytes_take : (n : ℕ) (cs : List ℕ) → AreBytes cs → AreBytes (take n cs)
bytes_take zero cs bytes = tt
bytes_take (suc n) [] bytes = tt
bytes_take (suc n) (c ∷ cs) bytes = (bytes.0, bytes_take n cs bytes.1)

bytes_drop : (n : ℕ) (cs : List ℕ) → AreBytes cs → AreBytes (drop n cs)
bytes_drop zero cs bytes = bytes
bytes_drop (suc n) [] bytes = tt
bytes_drop (suc n) (c ∷ cs) bytes = bytes_drop n cs bytes.1

pub rows_taken : (w h n : ℕ) (cs : List ℕ) (more : List (List ℕ)) → length cs ≡ h * w → AreBytes cs → rows_from w h n (map row_content (rows w h cs) ++ more) ≡ Ok cs
rows_taken w zero n cs more count bytes = ap Ok (sym (nil_from_length cs (omega (arith, count))))
rows_taken w (suc h) n cs more count bytes =
    let row : List ℕ = take w cs in
    let rest : List ℕ = drop w cs in
    let long : w ≤ length cs = omega (arith, count, suc-mul h w) in
    let len : length row ≡ w = length-take-le w cs long in
    let left : length rest ≡ h * w = omega (arith, length-drop w cs, count, suc-mul h w) in
    let first : row_at w n (fields (row_content row)) ≡ Ok row = ap (row_at w n) (fields_of_row row (bytes_take w cs bytes)) ∙ row_written w n row len (bytes_take w cs bytes) in
    let below : rows_from w h (n + 1) (map row_content (rows w h rest) ++ more) ≡ Ok rest = rows_taken w h (n + 1) rest more left (bytes_drop w cs bytes) in
    rw (first, below) (ap Ok (take-append-drop w cs))

fields_of_start : (w h p : ℕ) → w ≤ 999999 → h ≤ 999999 → p ≤ 999999 → fields (start_content w h p) ≡ codes "board" ∷ decimal w ∷ decimal h ∷ decimal p ∷ []
fields_of_start w h p a b c = fields_of_separated (codes "board") (decimal w ∷ decimal h ∷ decimal p ∷ []) ((refl, (refl, (refl, (refl, (refl, tt))))), (no_tab _ (decimal_free w a), (no_tab _ (decimal_free h b), (no_tab _ (decimal_free p c), tt))))

pub start_taken : (n w h p : ℕ) (more : List (List ℕ)) → w ≤ 999999 → h ≤ 999999 → p ≤ 999999 → start_refusal w h p ≡ None → on_first start_at n (start_content w h p ∷ more) ≡ Ok (empty w h p)
start_taken n w h p more a b c ok = ap (start_at n) (fields_of_start w h p a b c) ∙ start_written n w h p a b c ok

pub board_taken : (n : ℕ) (l : Lattice) (more : List (List ℕ)) → l.width ≤ 999999 → l.height ≤ 999999 → l.phase ≤ 999999 → start_refusal l.width l.height l.phase ≡ None → length l.cells ≡ l.height * l.width → AreBytes l.cells → board_from n (start_content l.width l.height l.phase ∷ (map row_content (rows l.width l.height l.cells) ++ more)) ≡ Ok l
board_taken n l more a b c ok count bytes =
    let below : rows_from l.width l.height (n + 1) (map row_content (rows l.width l.height l.cells) ++ more) ≡ Ok l.cells = rows_taken l.width l.height (n + 1) l.cells more count bytes in
    rw (start_taken n l.width l.height l.phase (map row_content (rows l.width l.height l.cells) ++ more) a b c ok, below) refl

-- the first lines of a board are its lines
start_free : (w h p : ℕ) → w ≤ 999999 → h ≤ 999999 → p ≤ 999999 → Free is_newline (start_content w h p)
start_free w h p a b c = separated_free (codes "board" ∷ decimal w ∷ decimal h ∷ decimal p ∷ []) ((refl, (refl, (refl, (refl, (refl, tt))))), (decimal_free w a, (decimal_free h b, (decimal_free p c, tt))))

rows_free : (w h : ℕ) (cs : List ℕ) → AreBytes cs → AllByRecursion (Free is_newline) (map row_content (rows w h cs))
rows_free w zero cs bytes = tt
rows_free w (suc h) cs bytes = (separated_free (codes "row" ∷ flat_map hex (take w cs) ∷ []) ((refl, (refl, (refl, tt))), (hex_free (take w cs) (bytes_take w cs bytes), tt)), rows_free w h (drop w cs) (bytes_drop w cs bytes))

pub rows_joined : (rs : List (List ℕ)) → flat_map row_line rs ≡ flat_map ended (map row_content rs)
rows_joined [] = refl
rows_joined (r ∷ rs) = ap (λ x. row_line r ++ x) (rows_joined rs)

pub lines_of_first : (l : Lattice) (r : ℕ) (more : List ℕ) → l.width ≤ 999999 → l.height ≤ 999999 → l.phase ≤ 999999 → AreBytes l.cells → lines (first_lines l r ++ more) ≡ start_content l.width l.height l.phase ∷ (map row_content (rows l.width r l.cells) ++ lines more)
lines_of_first l r more a b c bytes =
    let contents : List (List ℕ) = start_content l.width l.height l.phase ∷ map row_content (rows l.width r l.cells) in
    let joined : first_lines l r ≡ flat_map ended contents = ap (λ x. start_line l.width l.height l.phase ++ x) (rows_joined (rows l.width r l.cells)) in
    ap (λ x. lines (x ++ more)) joined ∙ lines_of_front contents more (start_free l.width l.height l.phase a b c, rows_free l.width r l.cells bytes)
