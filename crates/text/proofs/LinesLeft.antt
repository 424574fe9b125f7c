-- The lines of a text, one after another. Assumes nothing.
use Rattle.std.proofs.Common.{◌∙◌, ap, sym, ◌≡◌, ℕ, ◌+◌, ◌<◌, ◌≤◌, List, [], ◌∷◌, length, false, Bool, arith, refl, eqb, inl, inr, subst}
use Rattle.std.proofs.lemmas.Bool.{cases_lt}
use Rattle.std.proofs.lemmas.Bool.Decides.{nat_tests}
use Rattle.std.proofs.lemmas.List.{take_all, drop_all}
use Rattle.std.proofs.lemmas.List.Splits.{slice_split_first, length-slice_split}
use Rattle.std.specs.List.{position_or_len, slice_split}
use Rattle.text.proofs.Cuts.{Free, free_before, split_free}
use Rattle.text.specs.FieldsOfLines.{GivesLine}
use Rattle.text.specs.Readers.{AtEnd, fields_read_of, rest_of}
use Rattle.text.specs.declared.line.Line.{Line}
use Rattle.text.specs.declared.reader.Reader.{Reader}
use Rattle.text.specs.Lines.{is_newline, first_line, below_first, lines}

-- there is always a piece
some_piece : (p : ℕ → Bool) (bs : List ℕ) → (l : List ℕ) × (more : List (List ℕ)) × (slice_split p bs ≡ l ∷ more)
some_piece p bs = at_pieces (slice_split p bs) (omega (arith, length-slice_split p bs)) where
  at_pieces : (ps : List (List ℕ)) → 0 < length ps → (l : List ℕ) × (more : List (List ℕ)) × (ps ≡ l ∷ more)
  at_pieces [] e = absurd (omega arith)
  at_pieces (l ∷ more) e = (l, more, refl)

-- a text whose first line has a newline
lines_first : (bs : List ℕ) → position_or_len is_newline bs < length bs → lines bs ≡ first_line bs ∷ lines (below_first bs)
lines_first bs inside =
    let more = some_piece is_newline (below_first bs) in
    rw (slice_split_first is_newline bs 0 inside, more.2) refl

-- a text that is one unfinished line
lines_only : (bs : List ℕ) → 0 < length bs → length bs ≤ position_or_len is_newline bs → lines bs ≡ first_line bs ∷ lines (below_first bs)
lines_only bs some past =
    let whole : first_line bs ≡ bs = take_all (position_or_len is_newline bs) bs past in
    let free : Free is_newline bs = subst (Free is_newline) whole (free_before is_newline bs) in
    let none : below_first bs ≡ [] = drop_all (position_or_len is_newline bs + 1) bs (omega arith) in
    let full : eqb (length bs) 0 ≡ false = grind (arith, nat_tests) in
    rw (split_free is_newline bs free, full, whole, none) refl

-- the lines are the first line and those below it
pub lines_cons : (bs : List ℕ) → 0 < length bs → lines bs ≡ first_line bs ∷ lines (below_first bs)
lines_cons bs some = elim (cases_lt (position_or_len is_newline bs) (length bs)) [ inl l ↦ lines_first bs l | inr g ↦ lines_only bs some g ]

pub some_left : (bs : List ℕ) → (bs ≡ [] → ⊥) → 0 < length bs
some_left [] none = absurd (none refl)
some_left (b ∷ bs) none = omega arith

-- the same for a reader at the beginning of a line
pub lines_after : (r : Reader) (l : Line) (s : Reader) → fields_read_of r ≡ 0 → (AtEnd r → ⊥) → GivesLine r l s → lines (rest_of r) ≡ first_line (rest_of r) ∷ lines (rest_of s)
lines_after r l s begins going gives = lines_cons (rest_of r) (some_left (rest_of r) (λ e. going (e, begins))) ∙ ap (λ bs. first_line (rest_of r) ∷ lines bs) (sym gives.rest)
