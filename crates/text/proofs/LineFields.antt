-- The fields that are left on a line, one after another. Assumes nothing.
use Rattle.std.proofs.Common.{◌≡◌, ◌≢◌, ℕ, ◌<◌, List, [], ◌∷◌, ◌++◌, length, drop, arith, refl, ◌∙◌, ap}
use Rattle.std.proofs.lemmas.List.{append-nil}
use Rattle.std.proofs.lemmas.List.Splits.{length-slice_split}
use Rattle.std.specs.List.{AllByRecursion}
use Rattle.text.proofs.Cuts.{Free, before_front, after_front, before_yes, after_yes, before_no, after_no, split_free, split_front}
use Rattle.text.specs.Lines.{is_tab, is_newline, is_separator, first_line, below_first, line_end, fields, separated}

-- bytes with no separator among them contain neither a tab nor a newline
pub no_tab : (bs : List ℕ) → Free is_separator bs → Free is_tab bs
no_tab [] free = tt
no_tab (b ∷ bs) free = (grind (arith, free.0), no_tab bs free.1)

pub no_newline : (bs : List ℕ) → Free is_separator bs → Free is_newline bs
no_newline [] free = tt
no_newline (b ∷ bs) free = (grind (arith, free.0), no_newline bs free.1)

-- the line that a field begins, by what ends the field
pub line_over_tab : (f more : List ℕ) → Free is_separator f → first_line (f ++ (9 ∷ more)) ≡ f ++ (9 ∷ first_line more)
line_over_tab f more free = before_front is_newline f (9 ∷ more) (no_newline f free) ∙ ap (λ r. f ++ r) (before_no is_newline 9 more refl)

pub line_to_newline : (f more : List ℕ) → Free is_separator f → first_line (f ++ (10 ∷ more)) ≡ f
line_to_newline f more free = before_front is_newline f (10 ∷ more) (no_newline f free) ∙ ap (λ r. f ++ r) (before_yes is_newline 10 more refl) ∙ append-nil f

pub line_to_end : (f : List ℕ) → Free is_separator f → first_line f ≡ f
line_to_end f free =
    let line : first_line (f ++ []) ≡ f = before_front is_newline f [] (no_newline f free) ∙ append-nil f in
    rw append-nil at line

behind_front : (f xs ys : List ℕ) (b : ℕ) → drop (length (f ++ (b ∷ xs))) (f ++ (b ∷ ys)) ≡ drop (length xs) ys
behind_front [] xs ys b = refl
behind_front (x ∷ f) xs ys b = behind_front f xs ys b

-- a field and its tab do not change where the line ends
pub end_over_tab : (f more : List ℕ) → Free is_separator f → line_end (f ++ (9 ∷ more)) ≡ line_end more
end_over_tab f more free = ap (λ l. drop (length l) (f ++ (9 ∷ more))) (line_over_tab f more free) ∙ behind_front f (first_line more) more 9

-- a field, a tab, and more
pub field_and_tab : (f more : List ℕ) → Free is_separator f → (fields (first_line (f ++ (9 ∷ more))) ≡ f ∷ fields (first_line more)) × (below_first (f ++ (9 ∷ more)) ≡ below_first more)
field_and_tab f more free =
    let below : below_first (f ++ (9 ∷ more)) ≡ below_first more = after_front is_newline f (9 ∷ more) (no_newline f free) ∙ after_no is_newline 9 more refl in
    (ap fields (line_over_tab f more free) ∙ split_front is_tab f 9 (first_line more) (no_tab f free) refl, below)

-- a field, a newline, and more
pub field_and_newline : (f more : List ℕ) → Free is_separator f → (fields (first_line (f ++ (10 ∷ more))) ≡ f ∷ []) × (below_first (f ++ (10 ∷ more)) ≡ more)
field_and_newline f more free =
    let below : below_first (f ++ (10 ∷ more)) ≡ more = after_front is_newline f (10 ∷ more) (no_newline f free) ∙ after_yes is_newline 10 more refl in
    (ap fields (line_to_newline f more free) ∙ split_free is_tab f (no_tab f free), below)

-- a field at the end of a text
pub field_and_end : (f : List ℕ) → Free is_separator f → (fields (first_line f) ≡ f ∷ []) × (below_first f ≡ [])
field_and_end f free =
    let below : below_first (f ++ []) ≡ [] = after_front is_newline f [] (no_newline f free) in
    let below' : below_first f ≡ [] = rw append-nil at below in
    (ap fields (line_to_end f free) ∙ split_free is_tab f (no_tab f free), below')

pub some_field : (l : List ℕ) → 0 < length (fields l)
some_field l = omega (arith, length-slice_split is_tab l)

-- a line with more than four fields
pub longer : (fs more : List (List ℕ)) (a b c d : List ℕ) → 0 < length more → fs ≡ a ∷ b ∷ c ∷ d ∷ more → ((rest : List (List ℕ)) × (fs ≡ a ∷ rest)) × (length fs ≢ 1) × (length fs ≢ 2) × (length fs ≢ 4)
longer fs more a b c d some e = ((b ∷ c ∷ d ∷ more, e), (λ l. absurd (omega (arith, some, ap length e, l))), (λ l. absurd (omega (arith, some, ap length e, l))), (λ l. absurd (omega (arith, some, ap length e, l))))

-- fields without separators in them: the line that they make has no newline
pub tabless : (fs : List (List ℕ)) → AllByRecursion (Free is_separator) fs → AllByRecursion (Free is_tab) fs
tabless [] free = tt
tabless (f ∷ fs) free = (no_tab f free.0, tabless fs free.1)

free_append : (xs ys : List ℕ) → Free is_newline xs → Free is_newline ys → Free is_newline (xs ++ ys)
free_append [] ys x y = y
free_append (b ∷ xs) ys x y = (x.0, free_append xs ys x.1 y)

pub separated_free : (fs : List (List ℕ)) → AllByRecursion (Free is_separator) fs → Free is_newline (separated fs)
separated_free [] free = tt
separated_free (f ∷ []) free = no_newline f free.0
separated_free (f ∷ g ∷ fs) free = free_append f (9 ∷ separated (g ∷ fs)) (no_newline f free.0) (refl, separated_free (g ∷ fs) free.1)
