-- Rows one after another. Assumes nothing.
use Rattle.std.proofs.Common.{◌≡◌, ℕ, suc, ◌+◌, ◌-◌, ◌<◌, ◌≤◌, List, [], ◌++◌, ◌*◌, length, take, drop, Ok, Err, Result, arith, refl, ◌∙◌, ap, sym, subst}
use Rattle.std.proofs.lemmas.List.{append_assoc, append-nil, drop-drop, take_all}
use Rattle.std.proofs.lemmas.Slice.{take-put_mid}
use Rattle.std.proofs.Math.Nat.{suc-mul, mul-le-mul_right}
use borrow.Rule.Slice.PartMut.{put_mid}
use Rattle.faults.specs.Results.{◌>>=◌}
use Rattle.faults.specs.declared.record.RecordFault.{RecordFault}
use Rattle.text.specs.Readers.{line_of, fields_read_of}
use Rattle.text.specs.declared.reader.Reader.{Reader}
use Rattle.boards.specs.Reading.{on_first, row_at, rows_from}
use Rattle.boards.specs.Steps.{LineDown, LinesDown, lines_left}

-- the cells cs and then those of a
abbrev pub after : List ℕ → Result (List ℕ) RecordFault → Result (List ℕ) RecordFault
after cs a = a >>= λ more. Ok (cs ++ more)

after_none : (a : Result (List ℕ) RecordFault) → after [] a ≡ a
after_none (Ok cs) = refl
after_none (Err e) = refl

after_two : (xs ys : List ℕ) (a : Result (List ℕ) RecordFault) → after xs (after ys a) ≡ after (xs ++ ys) a
after_two xs ys (Ok cs) = ap Ok (sym (append_assoc xs ys cs))
after_two xs ys (Err e) = refl

-- after the first i of h rows from r on, which have the cells `front`, the reader is s
pub record RowsRead (w h : ℕ) (r : Reader) (i : ℕ) (s : Reader) (front : List ℕ) : Type 0 where
  pub down : LinesDown i r s
  pub rows : rows_from w h (line_of r) (lines_left r) ≡ after front (rows_from w (h - i) (line_of s) (lines_left s))

pub no_row : (w h : ℕ) (r : Reader) → fields_read_of r ≡ 0 → RowsRead w h r 0 r []
no_row w h r begins = record {
  down = record { text = refl; lines = refl; line = omega arith; begins = begins };
  rows = sym (after_none (rows_from w (h - 0) (line_of r) (lines_left r)) ∙ ap (λ k. rows_from w k (line_of r) (lines_left r)) (omega arith));
}

-- the rows that are left, if there is one
rows_more : (w h i n : ℕ) (ls : List (List ℕ)) → i < h → rows_from w (h - i) n ls ≡ (on_first (row_at w) n ls >>= λ cs. after cs (rows_from w (h - (i + 1)) (n + 1) (drop 1 ls)))
rows_more w h i n ls l = let left : h - i ≡ suc (h - (i + 1)) = omega arith in ap (λ k. rows_from w k n ls) left

pub one_row : (w h : ℕ) (r : Reader) (i : ℕ) (s : Reader) (front : List ℕ) (t : Reader) (cs : List ℕ) → RowsRead w h r i s front → i < h → on_first (row_at w) (line_of s) (lines_left s) ≡ Ok cs → LineDown s t → RowsRead w h r (i + 1) t (front ++ cs)
one_row w h r i s front t cs before l row d = record {
  down = record {
    text = d.text ∙ before.down.text;
    lines = d.lines ∙ ap (drop 1) before.down.lines ∙ drop-drop 1 i (lines_left r);
    line = omega (arith, d.line, before.down.line);
    begins = d.begins;
  };
  rows =
      before.rows ∙ ap (after front) (rows_more w h i (line_of s) (lines_left s) l ∙ ap (λ a. a >>= λ xs. after xs (rows_from w (h - (i + 1)) (line_of s + 1) (drop 1 (lines_left s)))) row)
      ∙ after_two front cs (rows_from w (h - (i + 1)) (line_of s + 1) (drop 1 (lines_left s)))
      ∙ ap (λ n. after (front ++ cs) (rows_from w (h - (i + 1)) n (drop 1 (lines_left s)))) (sym d.line)
      ∙ ap (λ ls. after (front ++ cs) (rows_from w (h - (i + 1)) (line_of t) ls)) (sym d.lines);
}

pub bad_row : (w h : ℕ) (r : Reader) (i : ℕ) (s : Reader) (front : List ℕ) (e : RecordFault) → RowsRead w h r i s front → i < h → on_first (row_at w) (line_of s) (lines_left s) ≡ Err e → rows_from w h (line_of r) (lines_left r) ≡ Err e
bad_row w h r i s front e before l row = before.rows ∙ ap (after front) (rows_more w h i (line_of s) (lines_left s) l ∙ ap (λ a. a >>= λ xs. after xs (rows_from w (h - (i + 1)) (line_of s + 1) (drop 1 (lines_left s)))) row)

pub all_rows : (w h : ℕ) (r : Reader) (i : ℕ) (s : Reader) (front : List ℕ) → RowsRead w h r i s front → h ≤ i → rows_from w h (line_of r) (lines_left r) ≡ Ok front
all_rows w h r i s front done l = let left : h - i ≡ 0 = omega arith in done.rows ∙ ap (λ k. after front (rows_from w k (line_of s) (lines_left s))) left ∙ ap Ok (append-nil front)

pub next_place : (w i : ℕ) → (i + 1) * w ≡ i * w + w
next_place w i = let one : i + 1 ≡ suc i = omega arith in ap (λ k. k * w) one ∙ suc-mul i w

pub place_within : (w h i : ℕ) → i < h → i * w + w ≤ h * w
place_within w h i l = let more : i + 1 ≤ h = omega arith in let less : (i + 1) * w ≤ h * w = mul-le-mul_right w more in omega (arith, next_place w i, less)

-- the cells of the row are written after those of the rows before it
pub row_filled : (w h : ℕ) (r : Reader) (i : ℕ) (s t : Reader) (cells row cs : List ℕ) → RowsRead w h r i s (take (i * w) cells) → i < h → on_first (row_at w) (line_of s) (lines_left s) ≡ Ok cs → LineDown s t → row ≡ cs → length cs ≡ w → length cells ≡ h * w → RowsRead w h r (i + 1) t (take ((i + 1) * w) (put_mid (i * w) ((i + 1) * w - i * w) cells row))
row_filled w h r i s t cells row cs before l first d is count all =
    let len : (i + 1) * w ≡ i * w + length row = omega (arith, next_place w i, count, ap length is) in
    let inside : i * w ≤ length cells = omega (arith, place_within w h i l, all) in
    let taken : take ((i + 1) * w) (put_mid (i * w) ((i + 1) * w - i * w) cells row) ≡ take (i * w) cells ++ row = take-put_mid (i * w) ((i + 1) * w - i * w) cells row ((i + 1) * w) len inside in
    subst (RowsRead w h r (i + 1) t) (sym (taken ∙ ap (λ x. take (i * w) cells ++ x) is)) (one_row w h r i s (take (i * w) cells) t cs before l first d)

pub rows_filled : (w h : ℕ) (r : Reader) (i : ℕ) (s : Reader) (cells : List ℕ) → RowsRead w h r i s (take (i * w) cells) → i ≡ h → length cells ≡ h * w → rows_from w h (line_of r) (lines_left r) ≡ Ok cells
rows_filled w h r i s cells done e all =
    let len : length cells ≤ i * w = omega (arith, all, ap (λ k. k * w) e) in
    all_rows w h r i s (take (i * w) cells) done (omega arith) ∙ ap Ok (take_all (i * w) cells len)
