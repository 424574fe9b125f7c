-- A map line that is read is the one of its map, and the line of a map is read as that map. Assumes nothing.
use Rattle.std.proofs.Common.{ap₂, ◌≡◌, ℕ, ◌<◌, Bool, true, false, cond, eqb, List, [], ◌∷◌, ◌++◌, length, Some, Ok, codes, slice_index_or, arith, refl, sym, ◌∙◌, ap}
use Rattle.std.proofs.lemmas.Bool.{eqb-true}
use Rattle.std.proofs.lemmas.List.{append_assoc, append-nil}
use Rattle.std.proofs.lemmas.Slice.Eq.{bytes_eq-Decides}
use Rattle.std.specs.List.{AllByRecursion, find}
use Rattle.std.specs.Str.{bytes_eq}
use Rattle.boards.specs.Reading.{on_first}
use Rattle.faults.proofs.Joined.{passed, was_some}
use Rattle.faults.specs.declared.record.RecordFault.TheVariants.{UnknownMap}
use Rattle.named_maps.specs.Choice.{all_maps, name_of, map_named}
use Rattle.named_maps.specs.declared.named.NamedMap.TheVariants.{Bbm, Critters, Tron, Life2, Mixed}
use Rattle.named_maps.specs.declared.named.NamedMap.{NamedMap}
use Rattle.text.proofs.Cuts.{Free, after_front, after_yes}
use Rattle.text.proofs.EndedLines.{first_ended, ended_by_fields, fields_of_separated, lines_of_front}
use Rattle.text.proofs.LineFields.{tabless, separated_free}
use Rattle.text.proofs.LinesLeft.{lines_cons}
use Rattle.text.specs.Lines.{is_newline, is_separator, first_line, below_first, lines, separated, fields}
use Rattle.text.specs.Wholes.{finished}
use Rattle.jobs.specs.Jobs.{named_at, map_at}
use Rattle.jobs.specs.Laws.{map_line}

-- a map that is found by its name
found_at : (p : NamedMap → Bool) (x : NamedMap) (xs : List NamedMap) (m : NamedMap) (yes : Bool) → p x ≡ yes → (find p xs ≡ Some m → p m ≡ true) → cond yes (Some x) (find p xs) ≡ Some m → p m ≡ true
found_at p x xs m true e rest is = let same : x ≡ m = cc in ap p (sym same) ∙ e
found_at p x xs m false e rest is = rest is

found : (p : NamedMap → Bool) (xs : List NamedMap) (m : NamedMap) → find p xs ≡ Some m → p m ≡ true
found p [] m is = absurd cc
found p (x ∷ xs) m is = found_at p x xs m (p x) refl (found p xs m) is

pub name_was : (bs : List ℕ) (m : NamedMap) → map_named bs ≡ Some m → bs ≡ name_of m
name_was bs m is = (bytes_eq-Decides bs (name_of m)).0 (found (λ n. bytes_eq bs (name_of n)) all_maps m is)

-- the fields of a map line that is read
argument_was : (n : ℕ) (args : List (List ℕ)) (m : NamedMap) → length args ≡ 1 → named_at n (slice_index_or args 0 []) ≡ Ok m → args ≡ name_of m ∷ []
argument_was n [] m len is = absurd (omega arith)
argument_was n (a ∷ b ∷ args) m len is = absurd (omega arith)
argument_was n (a ∷ []) m len is = ap (λ x. x ∷ []) (name_was a m (was_some (map_named a) (UnknownMap n) m is))

fields_were : (n : ℕ) (fs : List (List ℕ)) (m : NamedMap) → map_at n fs ≡ Ok m → fs ≡ codes "map" ∷ name_of m ∷ []
fields_were n [] m is = absurd cc
fields_were n (v ∷ args) m is =
    let word = passed (bytes_eq v (codes "map")) _ _ m is in
    let counted = passed (eqb (length args) 1) (named_at n (slice_index_or args 0 [])) _ m word.1 in
    ap₂ (λ x xs. x ∷ xs) ((bytes_eq-Decides v (codes "map")).0 word.0) (argument_was n args m (eqb-true _ _ counted.0) counted.1)

pub map_line_was : (bs : List ℕ) (m : NamedMap) → finished bs ≡ true → on_first map_at 1 (lines bs) ≡ Ok m → bs ≡ map_line m ++ below_first bs
map_line_was [] m ends is = absurd cc
map_line_was (b ∷ bs) m ends is =
    let some : 0 < length (b ∷ bs) = omega arith in
    let first : map_at 1 (fields (first_line (b ∷ bs))) ≡ Ok m = sym (ap (on_first map_at 1) (lines_cons (b ∷ bs) some)) ∙ is in
    first_ended (b ∷ bs) some ends
    ∙ sym (append_assoc (first_line (b ∷ bs)) (10 ∷ []) (below_first (b ∷ bs)))
    ∙ ap (λ l. l ++ below_first (b ∷ bs)) (ended_by_fields (first_line (b ∷ bs)) (codes "map" ∷ name_of m ∷ []) (fields_were 1 (fields (first_line (b ∷ bs))) m first))

-- a map line that is written
abbrev pub map_content : NamedMap → List ℕ
map_content m = separated (codes "map" ∷ name_of m ∷ [])

name_free : (m : NamedMap) → Free is_separator (name_of m)
name_free Bbm = (refl, (refl, (refl, tt)))
name_free Critters = (refl, (refl, (refl, (refl, (refl, (refl, (refl, (refl, tt))))))))
name_free Tron = (refl, (refl, (refl, (refl, tt))))
name_free Life2 = (refl, (refl, (refl, (refl, (refl, tt)))))
name_free Mixed = (refl, (refl, (refl, (refl, (refl, tt)))))

fields_free : (m : NamedMap) → AllByRecursion (Free is_separator) (codes "map" ∷ name_of m ∷ [])
fields_free m = ((refl, (refl, (refl, tt))), (name_free m, tt))

content_free : (m : NamedMap) → Free is_newline (map_content m)
content_free m = separated_free (codes "map" ∷ name_of m ∷ []) (fields_free m)

map_taken : (m : NamedMap) → map_at 1 (codes "map" ∷ name_of m ∷ []) ≡ Ok m
map_taken Bbm = refl
map_taken Critters = refl
map_taken Tron = refl
map_taken Life2 = refl
map_taken Mixed = refl

pub map_line_taken : (m : NamedMap) (more : List ℕ) → on_first map_at 1 (lines (map_line m ++ more)) ≡ Ok m
map_line_taken m more =
    let first : lines (map_line m ++ more) ≡ map_content m ∷ lines more = ap (λ l. lines (l ++ more)) (sym (append-nil (map_line m))) ∙ lines_of_front (map_content m ∷ []) more (content_free m, tt) in
    ap (on_first map_at 1) first
    ∙ ap (map_at 1) (fields_of_separated (codes "map") (name_of m ∷ []) (tabless (codes "map" ∷ name_of m ∷ []) (fields_free m)))
    ∙ map_taken m

pub below_map_line : (m : NamedMap) (more : List ℕ) → below_first (map_line m ++ more) ≡ more
below_map_line m more = ap below_first (append_assoc (map_content m) (10 ∷ []) more) ∙ after_front is_newline (map_content m) (10 ∷ more) (content_free m) ∙ after_yes is_newline 10 more refl
