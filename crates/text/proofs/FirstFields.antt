-- A reader gives the first of the fields that are left on its line. Assumes nothing.
use Rattle.std.proofs.Common.{◌≡◌, ℕ, ◌+◌, List, [], ◌∷◌, ◌++◌, length, drop, true, false, Some, arith, sym, ◌∙◌, ap, slice_get, not}
use Rattle.std.proofs.lemmas.List.{take-append-drop, length-take-le, drop-drop, append-nil}
use Rattle.std.proofs.lemmas.List.Sums.{prefix_len-le-length}
use Rattle.std.specs.List.{position_or_len, before_first}
use Rattle.text.proofs.Cuts.{Free, free_before}
use Rattle.text.proofs.LineFields.{field_and_tab, field_and_newline, field_and_end, line_to_newline, line_to_end, end_over_tab}
use Rattle.text.specs.Fields.{bytes_of, ends_line_of, EndsAt, FirstOf}
use Rattle.text.specs.FieldsOfLines.{next_at}
use Rattle.text.specs.Lines.{is_separator, first_line, below_first, line_end, fields}
use Rattle.text.specs.Readers.{Gives, rest_of, lent_of, text_of, position_of, line_of, fields_read_of}
use Rattle.text.specs.declared.field.Field.{Field}
use Rattle.text.specs.declared.field.Field.TheVariants.{Inner, Last, Unfinished}
use Rattle.text.specs.declared.reader.Reader.{Reader}

begins_with : (ys : List ℕ) (c : ℕ) → slice_get ys 0 ≡ Some c → ys ≡ c ∷ drop 1 ys
begins_with [] c e = absurd cc
begins_with (y ∷ ys) c e = cc

-- a list is the part before its first separator and the part from there on
cut : (xs f : List ℕ) → f ≡ before_first is_separator xs → xs ≡ f ++ drop (length f) xs
cut xs f e =
    let n : ℕ = position_or_len is_separator xs in
    let len : length f ≡ n = ap length e ∙ length-take-le n xs (prefix_len-le-length (λ x. not (is_separator x)) xs) in
    rw (len, e) (sym (take-append-drop n xs))

free_field : (xs f : List ℕ) → f ≡ before_first is_separator xs → Free is_separator f
free_field xs f e = rw e (free_before is_separator xs)

-- the same, where c is that separator and rest is what follows it
cut_at : (xs f rest : List ℕ) (c : ℕ) → f ≡ before_first is_separator xs → slice_get (drop (length f) xs) 0 ≡ Some c → rest ≡ drop (length f + 1) xs → xs ≡ f ++ (c ∷ rest)
cut_at xs f rest c e ends behind =
    let more : drop 1 (drop (length f) xs) ≡ rest = drop-drop 1 (length f) xs ∙ sym behind in
    cut xs f e ∙ ap (λ r. f ++ r) (begins_with (drop (length f) xs) c ends ∙ ap (λ r. c ∷ r) more)

-- where the next field begins
rest_moved : (r s : Reader) (n : ℕ) → text_of s ≡ text_of r → position_of s ≡ position_of r + n → rest_of s ≡ drop n (rest_of r)
rest_moved r s n t p = ap (λ x. drop (position_of s) x) t ∙ ap (λ k. drop k (text_of r)) p ∙ sym (drop-drop n (position_of r) (text_of r))

-- what a reader has left, by what ends the field that it gives
rest_cut : (r : Reader) (f : Field) (s : Reader) → Gives r f s → (c : ℕ) → slice_get (drop (length (bytes_of f)) (rest_of r)) 0 ≡ Some c → position_of s ≡ position_of r + length (bytes_of f) + 1 → rest_of r ≡ bytes_of f ++ (c ∷ rest_of s)
rest_cut r f s g c ends moves = cut_at (rest_of r) (bytes_of f) (rest_of s) c g.bytes ends (rest_moved r s (length (bytes_of f) + 1) (ap (λ b. b.now) g.lent) (omega (arith, moves)))

rest_is : (r : Reader) (f : Field) (s : Reader) → Gives r f s → drop (length (bytes_of f)) (rest_of r) ≡ [] → rest_of r ≡ bytes_of f
rest_is r f s g ends = cut (rest_of r) (bytes_of f) g.bytes ∙ ap (λ x. bytes_of f ++ x) ends ∙ append-nil (bytes_of f)

pub first_field : (r : Reader) (f : Field) (s : Reader) → Gives r f s → FirstOf f (rest_of r) (rest_of s)
first_field r (Inner b p) s g =
    rw (rest_cut r (Inner b p) s g 9 g.ends g.moves.0) (field_and_tab b.now (rest_of s) (free_field (rest_of r) b.now g.bytes))
first_field r (Last b p) s g =
    rw (rest_cut r (Last b p) s g 10 g.ends g.moves.0) (field_and_newline b.now (rest_of s) (free_field (rest_of r) b.now g.bytes))
first_field r (Unfinished b p) s g =
    let moved : rest_of s ≡ drop (length b.now) (rest_of r) = rest_moved r s (length b.now) (ap (λ b. b.now) g.lent) g.moves.0 in
    let line = field_and_end b.now (free_field (rest_of r) b.now g.bytes) in
    rw (rest_is r (Unfinished b p) s g g.ends) (line.0, line.1 ∙ sym (moved ∙ g.ends))

-- reading the field f takes r to s, on the same line
pub record GoesOn (r : Reader) (f : Field) (s : Reader) : Type 0 where
  pub fields : fields (first_line (rest_of r)) ≡ bytes_of f ∷ fields (first_line (rest_of s))
  pub below : below_first (rest_of s) ≡ below_first (rest_of r)
  pub end : line_end (rest_of s) ≡ line_end (rest_of r)
  pub lent : lent_of s ≡ lent_of r
  pub line : line_of s ≡ line_of r
  pub fields_read : fields_read_of s ≡ fields_read_of r + 1
  pub position : position_of s ≡ next_at f (position_of r)

-- the same, to the next line
pub record EndsLine (r : Reader) (f : Field) (s : Reader) : Type 0 where
  pub fields : fields (first_line (rest_of r)) ≡ bytes_of f ∷ []
  pub below : rest_of s ≡ below_first (rest_of r)
  pub end : EndsAt f (line_end (rest_of r))
  pub lent : lent_of s ≡ lent_of r
  pub line : line_of s ≡ line_of r + 1
  pub fields_read : fields_read_of s ≡ 0

end_stays : (r : Reader) (f : Field) (s : Reader) → Gives r f s → ends_line_of f ≡ false → line_end (rest_of s) ≡ line_end (rest_of r)
end_stays r (Inner b p) s g e = sym (ap line_end (rest_cut r (Inner b p) s g 9 g.ends g.moves.0) ∙ end_over_tab b.now (rest_of s) (free_field (rest_of r) b.now g.bytes))
end_stays r (Last b p) s g e = absurd cc
end_stays r (Unfinished b p) s g e = absurd cc

end_here : (r : Reader) (f : Field) (s : Reader) → Gives r f s → ends_line_of f ≡ true → EndsAt f (line_end (rest_of r))
end_here r (Inner b p) s g e = absurd cc
end_here r (Last b p) s g e =
    let line : first_line (rest_of r) ≡ b.now = ap first_line (rest_cut r (Last b p) s g 10 g.ends g.moves.0) ∙ line_to_newline b.now (rest_of s) (free_field (rest_of r) b.now g.bytes) in
    ap (λ l. slice_get (drop (length l) (rest_of r)) 0) line ∙ g.ends
end_here r (Unfinished b p) s g e =
    let line : first_line (rest_of r) ≡ b.now = ap first_line (rest_is r (Unfinished b p) s g g.ends) ∙ line_to_end b.now (free_field (rest_of r) b.now g.bytes) in
    ap (λ l. drop (length l) (rest_of r)) line ∙ g.ends

pub stays_on_line : (r : Reader) (f : Field) (s : Reader) → Gives r f s → FirstOf f (rest_of r) (rest_of s) → ends_line_of f ≡ false → GoesOn r f s
stays_on_line r (Inner b p) s g first e = record { fields = first.0; below = sym first.1; end = end_stays r (Inner b p) s g e; lent = g.lent; line = g.moves.1; fields_read = g.moves.2; position = g.moves.0 }
stays_on_line r (Last b p) s g first e = absurd cc
stays_on_line r (Unfinished b p) s g first e = absurd cc

pub leaves_line : (r : Reader) (f : Field) (s : Reader) → Gives r f s → FirstOf f (rest_of r) (rest_of s) → ends_line_of f ≡ true → EndsLine r f s
leaves_line r (Inner b p) s g first e = absurd cc
leaves_line r (Last b p) s g first e = record { fields = first.0; below = sym first.1; end = end_here r (Last b p) s g e; lent = g.lent; line = g.moves.1; fields_read = g.moves.2 }
leaves_line r (Unfinished b p) s g first e = record { fields = first.0; below = sym first.1; end = end_here r (Unfinished b p) s g e; lent = g.lent; line = g.moves.1; fields_read = g.moves.2 }
