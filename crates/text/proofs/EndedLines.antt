-- A finished text is its lines, each with its newline. Assumes nothing.
use Rattle.std.proofs.Common.{◌≡◌, ℕ, ◌+◌, ◌-◌, ◌<◌, ◌≤◌, suc, zero, List, [], ◌∷◌, ◌++◌, length, drop, get_or, true, false, Bool, arith, refl, ◌∙◌, ap, sym, inl, inr, subst, flat_map, if◌then◌else◌, ◌==◌}
use Rattle.std.proofs.lemmas.Bool.{cases_lt}
use Rattle.std.proofs.lemmas.Bool.Decides.{nat_tests}
use Rattle.std.proofs.lemmas.List.{get_or-append_right, get_or_at, get_or-drop, length-drop, length-append, append_assoc, append-nil}
use Rattle.std.proofs.lemmas.List.Sums.{split_at_first, passes_at_first, fails_before_first}
use Rattle.std.proofs.lemmas.List.Splits.{join_with_byte-slice_split, length-slice_split}
use Rattle.std.specs.List.{position_or_len, AllByRecursion, slice_split, onto_first, count_by}
use Rattle.text.proofs.Cuts.{Free, before_front, after_front, before_yes, after_yes, split_free, split_front}
use Rattle.text.proofs.LinesLeft.{lines_cons}
use Rattle.text.specs.Lines.{is_newline, first_line, below_first, lines, lines_of_pieces, ended, is_tab, fields, separated}
use Rattle.text.specs.Wholes.{finished}

-- the last byte of a finished text that is not empty
last_newline : (bs : List ℕ) → 0 < length bs → finished bs ≡ true → is_newline (get_or bs (length bs - 1) 0) ≡ true
last_newline bs some e = grind (arith, nat_tests)

newline_is : (b : ℕ) → is_newline b ≡ true → b ≡ 10
newline_is b e = grind (arith, nat_tests)

newline_inside : (bs : List ℕ) → 0 < length bs → finished bs ≡ true → position_or_len is_newline bs < length bs
newline_inside bs some e =
    elim (cases_lt (position_or_len is_newline bs) (length bs)) [
      | inl l ↦ l
      | inr g ↦
          let no : is_newline (get_or bs (length bs - 1) 0) ≡ false = fails_before_first is_newline bs (length bs - 1) 0 (omega arith) in
          let yes : is_newline (get_or bs (length bs - 1) 0) ≡ true = last_newline bs some e in
          absurd cc
    ]

-- such a text is its first line, a newline, and what follows
pub first_ended : (bs : List ℕ) → 0 < length bs → finished bs ≡ true → bs ≡ first_line bs ++ (10 ∷ below_first bs)
first_ended bs some e =
    let inside : position_or_len is_newline bs < length bs = newline_inside bs some e in
    let here : get_or bs (position_or_len is_newline bs) 0 ≡ 10 = newline_is _ (passes_at_first is_newline bs 0 inside) in
    split_at_first is_newline bs 0 inside ∙ ap (λ b. first_line bs ++ (b ∷ below_first bs)) here

finished_from : (bs : List ℕ) → (0 < length bs → is_newline (get_or bs (length bs - 1) 0) ≡ true) → finished bs ≡ true
finished_from [] last = refl
finished_from (b ∷ bs) last = let l : is_newline (get_or (b ∷ bs) (length (b ∷ bs) - 1) 0) ≡ true = last (omega arith) in grind (arith, nat_tests)

pub finished_behind : (f more : List ℕ) → finished (f ++ (10 ∷ more)) ≡ true → finished more ≡ true
finished_behind f more e = finished_from more at_last where
  at_last : 0 < length more → is_newline (get_or more (length more - 1) 0) ≡ true
  at_last some =
      let whole : length ((f ++ (10 ∷ [])) ++ more) ≡ length f + 1 + length more = omega (arith, length-append (f ++ (10 ∷ [])) more, length-append f (10 ∷ [])) in
      let same : (f ++ (10 ∷ [])) ++ more ≡ f ++ (10 ∷ more) = append_assoc f (10 ∷ []) more in
      let last : is_newline (get_or (f ++ (10 ∷ more)) (length (f ++ (10 ∷ more)) - 1) 0) ≡ true = last_newline (f ++ (10 ∷ more)) (omega (arith, whole, ap length same)) e in
      let last' : is_newline (get_or ((f ++ (10 ∷ [])) ++ more) (length ((f ++ (10 ∷ [])) ++ more) - 1) 0) ≡ true = rw same last in
      let front : length (f ++ (10 ∷ [])) ≡ length f + 1 = omega (arith, length-append f (10 ∷ [])) in
      let there : get_or ((f ++ (10 ∷ [])) ++ more) (length ((f ++ (10 ∷ [])) ++ more) - 1) 0 ≡ get_or more (length ((f ++ (10 ∷ [])) ++ more) - 1 - (length f + 1)) 0 = get_or-append_right (f ++ (10 ∷ [])) more (length f + 1) (length ((f ++ (10 ∷ [])) ++ more) - 1) 0 front (omega (arith, whole)) in
      let place : length ((f ++ (10 ∷ [])) ++ more) - 1 - (length f + 1) ≡ length more - 1 = omega (arith, whole) in
      let moved : get_or ((f ++ (10 ∷ [])) ++ more) (length ((f ++ (10 ∷ [])) ++ more) - 1) 0 ≡ get_or more (length more - 1) 0 = there ∙ ap (λ k. get_or more k 0) place in
      subst (λ (b : ℕ). is_newline b ≡ true) moved last'

-- what follows the first line is shorter
shorter : (bs : List ℕ) → 0 < length bs → finished bs ≡ true → length (below_first bs) < length bs
shorter bs some e = omega (arith, ap length (first_ended bs some e), length-append (first_line bs) (10 ∷ below_first bs))

lines_joined : (fuel : ℕ) (bs : List ℕ) → length bs ≤ fuel → finished bs ≡ true → bs ≡ flat_map ended (lines bs)
lines_joined fuel [] small e = refl
lines_joined zero (b ∷ bs) small e = absurd (omega arith)
lines_joined (suc fuel) (b ∷ bs) small e =
    let cut : (b ∷ bs) ≡ first_line (b ∷ bs) ++ (10 ∷ below_first (b ∷ bs)) = first_ended (b ∷ bs) (omega arith) e in
    let below : finished (below_first (b ∷ bs)) ≡ true = finished_behind (first_line (b ∷ bs)) (below_first (b ∷ bs)) (subst (λ (x : List ℕ). finished x ≡ true) cut e) in
    let less : length (below_first (b ∷ bs)) ≤ fuel = omega (arith, shorter (b ∷ bs) (omega arith) e) in
    let again : below_first (b ∷ bs) ≡ flat_map ended (lines (below_first (b ∷ bs))) = lines_joined fuel (below_first (b ∷ bs)) less below in
    cut ∙ sym (append_assoc (first_line (b ∷ bs)) (10 ∷ []) (below_first (b ∷ bs))) ∙ ap (λ x. ended (first_line (b ∷ bs)) ++ x) again ∙ sym (ap (flat_map ended) (lines_cons (b ∷ bs) (omega arith)))

pub text_is_its_lines : (bs : List ℕ) → finished bs ≡ true → bs ≡ flat_map ended (lines bs)
text_is_its_lines bs e = lines_joined (length bs) bs (omega arith) e

-- no line contains a newline
onto_free : (p : ℕ → Bool) (b : ℕ) (ps : List (List ℕ)) → p b ≡ false → AllByRecursion (Free p) ps → AllByRecursion (Free p) (onto_first b ps)
onto_free p b [] misses free = ((misses, tt), tt)
onto_free p b (m ∷ ms) misses free = ((misses, free.0), free.1)

pieces_free_at : (p : ℕ → Bool) (b : ℕ) (bs : List ℕ) (yes : Bool) → p b ≡ yes → AllByRecursion (Free p) (slice_split p bs) → AllByRecursion (Free p) (slice_split p (b ∷ bs))
pieces_free_at p b bs true e free = rw e (tt, free)
pieces_free_at p b bs false e free = rw e (onto_free p b (slice_split p bs) e free)

pub pieces_free : (p : ℕ → Bool) (bs : List ℕ) → AllByRecursion (Free p) (slice_split p bs)
pieces_free p [] = (tt, tt)
pieces_free p (b ∷ bs) = pieces_free_at p b bs (p b) refl (pieces_free p bs)

only_free : (l : List ℕ) (empty : Bool) → Free is_newline l → AllByRecursion (Free is_newline) (if empty then [] else (l ∷ []))
only_free l true free = tt
only_free l false free = (free, tt)

of_pieces_free : (ps : List (List ℕ)) → AllByRecursion (Free is_newline) ps → AllByRecursion (Free is_newline) (lines_of_pieces ps)
of_pieces_free [] free = tt
of_pieces_free (l ∷ []) free = only_free l (length l == 0) free.0
of_pieces_free (l ∷ m ∷ more) free = (free.0, of_pieces_free (m ∷ more) free.1)

pub lines_free : (bs : List ℕ) → AllByRecursion (Free is_newline) (lines bs)
lines_free bs = of_pieces_free (slice_split is_newline bs) (pieces_free is_newline bs)

-- fields that contain no tab are read back
pub fields_of_separated : (f : List ℕ) (fs : List (List ℕ)) → AllByRecursion (Free is_tab) (f ∷ fs) → fields (separated (f ∷ fs)) ≡ f ∷ fs
fields_of_separated f [] free = split_free is_tab f free.0
fields_of_separated f (g ∷ fs) free = split_front is_tab f 9 (separated (g ∷ fs)) free.0 refl ∙ ap (λ x. f ∷ x) (fields_of_separated g fs free.1)

-- a line and its newline before a finished text
finished_front : (f more : List ℕ) → finished more ≡ true → finished (f ++ (10 ∷ more)) ≡ true
finished_front f [] e = finished_from (f ++ (10 ∷ [])) (λ some.
    let whole : length (f ++ (10 ∷ [])) ≡ length f + 1 = omega (arith, length-append f (10 ∷ [])) in
    let place : length (f ++ (10 ∷ [])) - 1 ≡ length f = omega (arith, whole) in
    let there : get_or (f ++ (10 ∷ [])) (length f) 0 ≡ 10 = get_or_at f 10 [] 0 (length f) refl in
    ap is_newline (ap (λ k. get_or (f ++ (10 ∷ [])) k 0) place ∙ there))
finished_front f (b ∷ more) e = finished_from (f ++ (10 ∷ b ∷ more)) (λ some.
    let last : is_newline (get_or (b ∷ more) (length (b ∷ more) - 1) 0) ≡ true = last_newline (b ∷ more) (omega arith) e in
    let whole : length (f ++ (10 ∷ b ∷ more)) ≡ length f + 1 + length (b ∷ more) = omega (arith, length-append f (10 ∷ b ∷ more)) in
    let front : length (f ++ (10 ∷ [])) ≡ length f + 1 = omega (arith, length-append f (10 ∷ [])) in
    let same : (f ++ (10 ∷ [])) ++ (b ∷ more) ≡ f ++ (10 ∷ b ∷ more) = append_assoc f (10 ∷ []) (b ∷ more) in
    let there : get_or ((f ++ (10 ∷ [])) ++ (b ∷ more)) (length f + 1 + (length (b ∷ more) - 1)) 0 ≡ get_or (b ∷ more) (length f + 1 + (length (b ∷ more) - 1) - (length f + 1)) 0 = get_or-append_right (f ++ (10 ∷ [])) (b ∷ more) (length f + 1) (length f + 1 + (length (b ∷ more) - 1)) 0 front (omega arith) in
    let place : length (f ++ (10 ∷ b ∷ more)) - 1 ≡ length f + 1 + (length (b ∷ more) - 1) = omega (arith, whole) in
    let back : length f + 1 + (length (b ∷ more) - 1) - (length f + 1) ≡ length (b ∷ more) - 1 = omega arith in
    ap is_newline (ap (λ k. get_or (f ++ (10 ∷ b ∷ more)) k 0) place ∙ ap (λ x. get_or x (length f + 1 + (length (b ∷ more) - 1)) 0) (sym same) ∙ there ∙ ap (λ k. get_or (b ∷ more) k 0) back) ∙ last)

pub finished_joined : (ls : List (List ℕ)) → finished (flat_map ended ls) ≡ true
finished_joined [] = refl
finished_joined (l ∷ ls) = ap finished (append_assoc l (10 ∷ []) (flat_map ended ls)) ∙ finished_front l (flat_map ended ls) (finished_joined ls)

-- a line and its newline, from its fields
pub ended_by_fields : (l : List ℕ) (fs : List (List ℕ)) → fields l ≡ fs → ended l ≡ ended (separated fs)
ended_by_fields l fs e = ap ended (sym (join_with_byte-slice_split 9 l) ∙ ap separated e)

-- lines that more text follows are read back
pub lines_of_front : (ls : List (List ℕ)) (more : List ℕ) → AllByRecursion (Free is_newline) ls → lines (flat_map ended ls ++ more) ≡ ls ++ lines more
lines_of_front [] more free = refl
lines_of_front (l ∷ ls) more free =
    let rest : List ℕ = flat_map ended ls ++ more in
    let same : (ended l ++ flat_map ended ls) ++ more ≡ l ++ (10 ∷ rest) = append_assoc (ended l) (flat_map ended ls) more ∙ append_assoc l (10 ∷ []) rest in
    let first : first_line (l ++ (10 ∷ rest)) ≡ l = before_front is_newline l (10 ∷ rest) free.0 ∙ ap (λ x. l ++ x) (before_yes is_newline 10 rest refl) ∙ append-nil l in
    let below : below_first (l ++ (10 ∷ rest)) ≡ rest = after_front is_newline l (10 ∷ rest) free.0 ∙ after_yes is_newline 10 rest refl in
    let some : 0 < length (l ++ (10 ∷ rest)) = omega (arith, length-append l (10 ∷ rest)) in
    ap lines same ∙ lines_cons (l ++ (10 ∷ rest)) some ∙ ap (λ x. x ∷ lines (below_first (l ++ (10 ∷ rest)))) first ∙ ap (λ x. l ∷ lines x) below ∙ ap (λ x. l ∷ x) (lines_of_front ls more free.1)

pub lines_of_joined : (ls : List (List ℕ)) → AllByRecursion (Free is_newline) ls → lines (flat_map ended ls) ≡ ls
lines_of_joined ls free = ap lines (sym (append-nil (flat_map ended ls))) ∙ lines_of_front ls [] free ∙ append-nil ls

-- each has one newline
pieces_of_joined : (ls : List (List ℕ)) → AllByRecursion (Free is_newline) ls → length (slice_split is_newline (flat_map ended ls)) ≡ length ls + 1
pieces_of_joined [] free = refl
pieces_of_joined (l ∷ ls) free =
    let first = ap length (split_front is_newline l 10 (flat_map ended ls) free.0 refl) in
    let rest = pieces_of_joined ls free.1 in
    ap (λ x. length (slice_split is_newline x)) (append_assoc l (10 ∷ []) (flat_map ended ls)) ∙ omega arith

pub newlines_of_joined : (ls : List (List ℕ)) → AllByRecursion (Free is_newline) ls → count_by is_newline (flat_map ended ls) ≡ length ls
newlines_of_joined ls free = omega (arith, length-slice_split is_newline (flat_map ended ls), pieces_of_joined ls free)

-- the end of a finished text is finished
pub finished_drop : (k : ℕ) (bs : List ℕ) → finished bs ≡ true → finished (drop k bs) ≡ true
finished_drop k bs e = finished_from (drop k bs) (λ (some : 0 < length (drop k bs)).
    let left : k < length bs = omega (arith, length-drop k bs) in
    let last : is_newline (get_or bs (length bs - 1) 0) ≡ true = last_newline bs (omega arith) e in
    let place : k + (length (drop k bs) - 1) ≡ length bs - 1 = omega (arith, length-drop k bs) in
    ap is_newline (get_or-drop k bs (length (drop k bs) - 1) 0 ∙ ap (λ i. get_or bs i 0) place) ∙ last)
