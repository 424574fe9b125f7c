-- What is wrong with a line of a board, or of any text whose lines are read by word and number of fields: the answer is the first cause, and the
-- first cause is the answer. Assumes nothing.
use Rattle.std.proofs.Common.{◌≡◌, ◌≢◌, ℕ, ◌+◌, ◌*◌, ◌<◌, ◌≤◌, Bool, true, false, ◌&&◌, cond, eqb, List, [], ◌∷◌, length, codes, slice_index_or, None, Some, Option, Ok, Err, Result, arith, refl, sym, ◌∙◌, ap, subst, inl, inr, ◌⊎◌}
use Rattle.std.proofs.lemmas.Bool.{cases_lt, eqb-true, eqb-false, eq-eqb, and_parts}
use Rattle.std.proofs.lemmas.Bool.Decides.{nat_tests}
use Rattle.std.proofs.lemmas.Slice.Eq.{bytes_eq-Decides}
use Rattle.std.specs.List.{AllByRecursion, list_all}
use Rattle.std.specs.Str.{bytes_eq}
use Rattle.faults.specs.Results.{◌>>=◌}
use Rattle.faults.specs.declared.field.FieldFault.TheVariants.{NotANumber, WrongDigits}
use Rattle.faults.specs.declared.record.RecordFault.{RecordFault}
use Rattle.faults.specs.declared.record.RecordFault.TheVariants.{Field, UnknownWord, FieldCount, Start}
use Rattle.lattice.specs.Lattice.{Lattice}
use Rattle.lattice.specs.Refusals.{start_refusal}
use Rattle.lattice.specs.declared.refusal.StartRefusal.{StartRefusal}
use Rattle.text.proofs.Arguments.{three_args, one_arg}
use Rattle.text.proofs.FieldNumbers.{number_given, number_fault, number_was, first_of_three}
use Rattle.text.proofs.LineFields.{some_field}
use Rattle.text.proofs.LinesLeft.{lines_cons}
use Rattle.text.specs.Lines.{first_line, lines, fields}
use Rattle.text.specs.Numbers.{number_at, WritesNumber, IsNumber}
use Rattle.boards.proofs.StartRefusals.{refused_start, start_is_refused}
use Rattle.boards.specs.Laws.{field, Counted, LineFault, NoStart, NumbersFault, BoardLineFault, IsHexDigit, IsRow, DigitsFault, RowFault, NextFault}
use Rattle.boards.specs.Reading.{line_at, empty, unless_refused, sides_at, numbers_at, start_at, is_hex, cells_of, digits_at, row_at, on_first}

-- the first of two answers is a fault, or it is none and the second is
pub went_wrong : {A B E : Type 0} (a : Result A E) (f : A → Result B E) (e : E) → (a >>= f) ≡ Err e → (a ≡ Err e) ⊎ ((x : A) × (a ≡ Ok x) × (f x ≡ Err e))
went_wrong (Ok x) f e is = inr (x, refl, is)
went_wrong (Err d) f e is = inl (cc (is))

-- one lemma for every kind of line: word, number of fields, and then what F says, which are faults of other kinds
module _ {A : Type 0} (w : List ℕ) (k : ℕ) (F : ℕ → List (List ℕ) → RecordFault → Type 0) (n : ℕ) (f : List (List ℕ) → Result A RecordFault) where
  placed : (fs : List (List ℕ)) (e : RecordFault) → ((i : ℕ) → F n fs (UnknownWord i) → ⊥) → ((i : ℕ) → F n fs (FieldCount i) → ⊥) → Counted w (k + 1) fs → F n fs e → LineFault w (k + 1) F n fs e
  placed fs (UnknownWord i) no_word no_count counted there = absurd (no_word i there)
  placed fs (FieldCount i) no_word no_count counted there = absurd (no_count i there)
  placed fs e no_word no_count counted there = (counted, there)

  at_count : (v : List ℕ) (args : List (List ℕ)) (e : RecordFault) (yes : Bool) → eqb (length args) k ≡ yes → v ≡ w → (length args ≡ k → f args ≡ Err e → LineFault w (k + 1) F n (v ∷ args) e) → cond yes (f args) (Err (FieldCount n)) ≡ Err e → LineFault w (k + 1) F n (v ∷ args) e
  at_count v args e true counted word below is = below (eqb-true _ _ counted) is
  at_count v args e false counted word below is =
      let same : FieldCount n ≡ e = cc (is) in
      let other : length (v ∷ args) ≢ k + 1 = λ l. eqb-false _ _ counted (omega (arith, l)) in
      subst (LineFault w (k + 1) F n (v ∷ args)) same (refl, word, other)

  at_word : (v : List ℕ) (args : List (List ℕ)) (e : RecordFault) (yes : Bool) → bytes_eq v w ≡ yes → (v ≡ w → length args ≡ k → f args ≡ Err e → LineFault w (k + 1) F n (v ∷ args) e) → cond yes (cond (eqb (length args) k) (f args) (Err (FieldCount n))) (Err (UnknownWord n)) ≡ Err e → LineFault w (k + 1) F n (v ∷ args) e
  at_word v args e true same_word below is = let word : v ≡ w = (bytes_eq-Decides v w).0 same_word in at_count v args e (eqb (length args) k) refl word (below word) is
  at_word v args e false same_word below is =
      let same : UnknownWord n ≡ e = cc (is) in
      let other : v ≢ w = λ x. let yes : bytes_eq v w ≡ true = (bytes_eq-Decides v w).1 x in absurd cc in
      subst (LineFault w (k + 1) F n (v ∷ args)) same (refl, other)

  pub line_fault : (fs : List (List ℕ)) (e : RecordFault) → w ≢ [] → ((gs : List (List ℕ)) (i : ℕ) → F n gs (UnknownWord i) → ⊥) → ((gs : List (List ℕ)) (i : ℕ) → F n gs (FieldCount i) → ⊥) → ((v : List ℕ) (args : List (List ℕ)) → length args ≡ k → f args ≡ Err e → F n (v ∷ args) e) → line_at w k n fs f ≡ Err e → LineFault w (k + 1) F n fs e
  line_fault [] e some no_word no_count below is = let same : UnknownWord n ≡ e = cc (is) in subst (LineFault w (k + 1) F n []) same (refl, λ x. some (sym x))
  line_fault (v ∷ args) e some no_word no_count below is = at_word v args e (bytes_eq v w) refl (λ word len wrong. placed (v ∷ args) e (no_word (v ∷ args)) (no_count (v ∷ args)) (word, omega (arith, len)) (below v args len wrong)) is

  -- the converse
  not_the_word : (v : List ℕ) (args : List (List ℕ)) (yes : Bool) → bytes_eq v w ≡ yes → v ≢ w → line_at w k n (v ∷ args) f ≡ Err (UnknownWord n)
  not_the_word v args true same_word other = absurd (other ((bytes_eq-Decides v w).0 same_word))
  not_the_word v args false same_word other = rw same_word refl

  not_so_many : (v : List ℕ) (args : List (List ℕ)) (yes : Bool) → eqb (length args) k ≡ yes → v ≡ w → length (v ∷ args) ≢ k + 1 → line_at w k n (v ∷ args) f ≡ Err (FieldCount n)
  not_so_many v args true counted word other = absurd (other (omega (arith, eqb-true _ _ counted)))
  not_so_many v args false counted word other = rw ((bytes_eq-Decides v w).1 word, counted) refl

  fields_wrong : (v : List ℕ) (args : List (List ℕ)) (e : RecordFault) → (length args ≡ k → f args ≡ Err e) → Counted w (k + 1) (v ∷ args) → line_at w k n (v ∷ args) f ≡ Err e
  fields_wrong v args e below counted =
      let len : length args ≡ k = omega (arith, counted.1) in
      rw ((bytes_eq-Decides v w).1 counted.0, eq-eqb (length args) k len) (below len)

  pub line_refused : (fs : List (List ℕ)) (e : RecordFault) → 0 < length fs → ((v : List ℕ) (args : List (List ℕ)) → length args ≡ k → F n (v ∷ args) e → f args ≡ Err e) → LineFault w (k + 1) F n fs e → line_at w k n fs f ≡ Err e
  line_refused [] e some below fault = absurd (omega arith)
  line_refused (v ∷ args) (UnknownWord i) some below fault = not_the_word v args (bytes_eq v w) refl fault.1 ∙ ap (λ j. Err (UnknownWord j)) (sym fault.0)
  line_refused (v ∷ args) (FieldCount i) some below fault = not_so_many v args (eqb (length args) k) refl fault.1 fault.2 ∙ ap (λ j. Err (FieldCount j)) (sym fault.0)
  line_refused (v ∷ args) e some below fault = fields_wrong v args e (λ len. below v args len fault.1) fault.0

-- numbers: up to the place k, and at it
one_more : (P : ℕ → Type 0) (k : ℕ) → ((j : ℕ) → 2 ≤ j → j < k → P j) → P k → (j : ℕ) → 2 ≤ j → j < k + 1 → P j
one_more P k before here j low high = elim (cases_lt j k) [ inl l ↦ before j low l | inr g ↦ let is : k ≡ j = omega (arith, g, high) in subst P is here ]

refused_sides : (n w h p : ℕ) (e : RecordFault) (o : Option StartRefusal) → start_refusal w h p ≡ o → unless_refused n o (empty w h p) ≡ Err e → (c : StartRefusal) × (e ≡ Start c n) × (start_refusal w h p ≡ Some c)
refused_sides n w h p e None is wrong = absurd (cc (wrong))
refused_sides n w h p e (Some c) is wrong = (c, cc (wrong), is)

module _ (n : ℕ) (v a b c : List ℕ) where
  abbrev line : List (List ℕ)
  line = v ∷ a ∷ b ∷ c ∷ []

  none_before : (j : ℕ) → 2 ≤ j → j < 2 → IsNumber (field j line)
  none_before j low high = absurd (omega (arith, low, high))

  first_no_number : (k : ℕ) (e : RecordFault) → 2 ≤ k → k ≤ 4 → e ≡ Field (NotANumber (record { line = n; field = k })) → (IsNumber (field k line) → ⊥) → ((j : ℕ) → 2 ≤ j → j < k → IsNumber (field j line)) → NumbersFault n line e
  first_no_number k e low high is none before = subst (NumbersFault n line) (sym is) (refl, record { argument = low; inside = omega (arith, high); here = none; before = before })

  sides_fault : (w h p : ℕ) (e : RecordFault) → WritesNumber w a → WritesNumber h b → WritesNumber p c → sides_at n w h p ≡ Err e → NumbersFault n line e
  sides_fault w h p e is-w is-h is-p is =
      let r = refused_sides n w h p e (start_refusal w h p) refl is in
      subst (NumbersFault n line) (sym r.1) (refl, record { width = w; height = h; phase = p; is_width = is-w; is_height = is-h; is_phase = is-p; refused = refused_start w h p r.0 r.2 })

  third_fault : (w h : ℕ) (e : RecordFault) → WritesNumber w a → WritesNumber h b → (number_at n 4 c >>= λ p. sides_at n w h p) ≡ Err e → NumbersFault n line e
  third_fault w h e is-w is-h is = elim (went_wrong (number_at n 4 c) (λ p. sides_at n w h p) e is) [
    | inl wrong ↦ let f = number_fault n 4 c e wrong in first_no_number 4 e (omega arith) (omega arith) f.0 f.1 (one_more (λ j. IsNumber (field j line)) 3 (one_more (λ j. IsNumber (field j line)) 2 none_before (w, is-w)) (h, is-h))
    | inr x ↦ sides_fault w h x.0 e is-w is-h (number_was n 4 x.0 c x.1) x.2
  ]

  second_fault : (w : ℕ) (e : RecordFault) → WritesNumber w a → (number_at n 3 b >>= λ h. number_at n 4 c >>= λ p. sides_at n w h p) ≡ Err e → NumbersFault n line e
  second_fault w e is-w is = elim (went_wrong (number_at n 3 b) (λ h. number_at n 4 c >>= λ p. sides_at n w h p) e is) [
    | inl wrong ↦ let f = number_fault n 3 b e wrong in first_no_number 3 e (omega arith) (omega arith) f.0 f.1 (one_more (λ j. IsNumber (field j line)) 2 none_before (w, is-w))
    | inr x ↦ third_fault w x.0 e is-w (number_was n 3 x.0 b x.1) x.2
  ]

  pub numbers_fault : (e : RecordFault) → numbers_at n a b c ≡ Err e → NumbersFault n line e
  numbers_fault e is = elim (went_wrong (number_at n 2 a) (λ w. number_at n 3 b >>= λ h. number_at n 4 c >>= λ p. sides_at n w h p) e is) [
    | inl wrong ↦ let f = number_fault n 2 a e wrong in first_no_number 2 e (omega arith) (omega arith) f.0 f.1 none_before
    | inr x ↦ second_fault x.0 e (number_was n 2 x.0 a x.1) x.2
  ]

-- the converse
module _ (n : ℕ) (v a b c : List ℕ) where
  start_refused : (x : StartRefusal) → NoStart (v ∷ a ∷ b ∷ c ∷ []) x → numbers_at n a b c ≡ Err (Start x n)
  start_refused x s = rw (number_given n 2 s.width a s.is_width, number_given n 3 s.height b s.is_height, number_given n 4 s.phase c s.is_phase, start_is_refused s.width s.height s.phase x s.refused) refl

  pub numbers_refused : (e : RecordFault) → NumbersFault n (v ∷ a ∷ b ∷ c ∷ []) e → numbers_at n a b c ≡ Err e
  numbers_refused (Field (NotANumber p)) f = first_of_three n v a b c (sides_at n) p.field f.1.argument f.1.inside f.1.here f.1.before ∙ ap (λ i. Err (Field (NotANumber (record { line = i; field = p.field })))) (sym f.0)
  numbers_refused (Start x i) f = start_refused x f.1 ∙ ap (λ j. Err (Start x j)) (sym f.0)
  numbers_refused e f = absurd f

-- the line of a board
abbrev by_numbers : ℕ → List (List ℕ) → Result Lattice RecordFault
by_numbers n args = numbers_at n (slice_index_or args 0 []) (slice_index_or args 1 []) (slice_index_or args 2 [])

three_fault : (n : ℕ) (v : List ℕ) (args : List (List ℕ)) (e : RecordFault) → length args ≡ 3 → by_numbers n args ≡ Err e → NumbersFault n (v ∷ args) e
three_fault n v args e len = let t = three_args args len in subst (λ (xs : List (List ℕ)). by_numbers n xs ≡ Err e → NumbersFault n (v ∷ xs) e) (sym t.3) (numbers_fault n v t.0 t.1 t.2 e)

three_refused : (n : ℕ) (v : List ℕ) (args : List (List ℕ)) (e : RecordFault) → length args ≡ 3 → NumbersFault n (v ∷ args) e → by_numbers n args ≡ Err e
three_refused n v args e len = let t = three_args args len in subst (λ (xs : List (List ℕ)). NumbersFault n (v ∷ xs) e → by_numbers n xs ≡ Err e) (sym t.3) (numbers_refused n v t.0 t.1 t.2 e)

pub start_fault : (n : ℕ) (fs : List (List ℕ)) (e : RecordFault) → start_at n fs ≡ Err e → BoardLineFault n fs e
start_fault n fs e is = line_fault (codes "board") 3 NumbersFault n (by_numbers n) fs e (λ x. absurd cc) (λ gs i f. f) (λ gs i f. f) (λ v args len wrong. three_fault n v args e len wrong) is

pub start_line_refused : (n : ℕ) (fs : List (List ℕ)) (e : RecordFault) → 0 < length fs → BoardLineFault n fs e → start_at n fs ≡ Err e
start_line_refused n fs e some f = line_refused (codes "board") 3 NumbersFault n (by_numbers n) fs e some (λ v args len wrong. three_refused n v args e len wrong) f

-- the line of a row
hex_digit : (b : ℕ) → is_hex b ≡ true → IsHexDigit b
hex_digit b e = elim (cases_lt b 58) [ inl l ↦ inl (grind (arith, nat_tests), omega arith) | inr g ↦ inr (grind (arith, nat_tests), grind (arith, nat_tests)) ]

hex_passes : (b : ℕ) → IsHexDigit b → is_hex b ≡ true
hex_passes b (inl d) = grind (arith, nat_tests, d.0, d.1)
hex_passes b (inr d) = grind (arith, nat_tests, d.0, d.1)

digits_passed : (bs : List ℕ) → list_all is_hex bs ≡ true → AllByRecursion IsHexDigit bs
digits_passed [] e = tt
digits_passed (b ∷ bs) e = let both = and_parts (is_hex b) (list_all is_hex bs) e in (hex_digit b both.0, digits_passed bs both.1)

digits_pass : (bs : List ℕ) → AllByRecursion IsHexDigit bs → list_all is_hex bs ≡ true
digits_pass [] all = refl
digits_pass (b ∷ bs) all = rw (hex_passes b all.0, digits_pass bs all.1) refl

wrong_digits_at : (w n : ℕ) (bs : List ℕ) (e : RecordFault) (a b : Bool) → eqb (length bs) (2 * w) ≡ a → list_all is_hex bs ≡ b → cond (a && b) (Ok (cells_of bs)) (Err (Field (WrongDigits (record { line = n; field = 2 })))) ≡ Err e → (e ≡ Field (WrongDigits (record { line = n; field = 2 }))) × (IsRow w bs → ⊥)
wrong_digits_at w n bs e true true count hex is = absurd (cc (is))
wrong_digits_at w n bs e true false count hex is = (cc (is), λ r. let yes : list_all is_hex bs ≡ true = digits_pass bs r.1 in absurd cc)
wrong_digits_at w n bs e false b count hex is = (cc (is), λ r. absurd (eqb-false _ _ count r.0))

digits_fault : (w n : ℕ) (v bs : List ℕ) (e : RecordFault) → digits_at w n bs ≡ Err e → DigitsFault w n (v ∷ bs ∷ []) e
digits_fault w n v bs e is =
    let p = wrong_digits_at w n bs e (eqb (length bs) (2 * w)) (list_all is_hex bs) refl refl is in
    subst (DigitsFault w n (v ∷ bs ∷ [])) (sym p.0) (refl, refl, p.1)

no_row_at : (w n : ℕ) (bs : List ℕ) (a b : Bool) → eqb (length bs) (2 * w) ≡ a → list_all is_hex bs ≡ b → (IsRow w bs → ⊥) → cond (a && b) (Ok (cells_of bs)) (Err (Field (WrongDigits (record { line = n; field = 2 })))) ≡ Err (Field (WrongDigits (record { line = n; field = 2 })))
no_row_at w n bs true true count hex none = absurd (none (eqb-true _ _ count, digits_passed bs hex))
no_row_at w n bs true false count hex none = refl
no_row_at w n bs false b count hex none = refl

digits_refused : (w n : ℕ) (v bs : List ℕ) (e : RecordFault) → DigitsFault w n (v ∷ bs ∷ []) e → digits_at w n bs ≡ Err e
digits_refused w n v bs (Field (WrongDigits p)) f =
    no_row_at w n bs (eqb (length bs) (2 * w)) (list_all is_hex bs) refl refl f.2
    ∙ ap (λ i. Err (Field (WrongDigits (record { line = i; field = 2 })))) (sym f.0)
    ∙ ap (λ k. Err (Field (WrongDigits (record { line = p.line; field = k })))) (sym f.1)
digits_refused w n v bs e f = absurd f

abbrev by_digits : ℕ → ℕ → List (List ℕ) → Result (List ℕ) RecordFault
by_digits w n args = digits_at w n (slice_index_or args 0 [])

one_fault : (w n : ℕ) (v : List ℕ) (args : List (List ℕ)) (e : RecordFault) → length args ≡ 1 → by_digits w n args ≡ Err e → DigitsFault w n (v ∷ args) e
one_fault w n v args e len = let t = one_arg args len in subst (λ (xs : List (List ℕ)). by_digits w n xs ≡ Err e → DigitsFault w n (v ∷ xs) e) (sym t.1) (digits_fault w n v t.0 e)

one_refused : (w n : ℕ) (v : List ℕ) (args : List (List ℕ)) (e : RecordFault) → length args ≡ 1 → DigitsFault w n (v ∷ args) e → by_digits w n args ≡ Err e
one_refused w n v args e len = let t = one_arg args len in subst (λ (xs : List (List ℕ)). DigitsFault w n (v ∷ xs) e → by_digits w n xs ≡ Err e) (sym t.1) (digits_refused w n v t.0 e)

pub row_fault : (w n : ℕ) (fs : List (List ℕ)) (e : RecordFault) → row_at w n fs ≡ Err e → RowFault w n fs e
row_fault w n fs e is = line_fault (codes "row") 1 (DigitsFault w) n (by_digits w n) fs e (λ x. absurd cc) (λ gs i f. f) (λ gs i f. f) (λ v args len wrong. one_fault w n v args e len wrong) is

pub row_refused : (w n : ℕ) (fs : List (List ℕ)) (e : RecordFault) → 0 < length fs → RowFault w n fs e → row_at w n fs ≡ Err e
row_refused w n fs e some f = line_refused (codes "row") 1 (DigitsFault w) n (by_digits w n) fs e some (λ v args len wrong. one_refused w n v args e len wrong) f

-- the first line of a text, which may be missing
module _ {A : Type 0} (f : ℕ → List (List ℕ) → Result A RecordFault) (F : ℕ → List (List ℕ) → RecordFault → Type 0) (n : ℕ) where
  pub next_fault : (bs : List ℕ) (e : RecordFault) → ((fs : List (List ℕ)) → f n fs ≡ Err e → F n fs e) → on_first f n (lines bs) ≡ Err e → NextFault F n bs e
  next_fault [] e wrong is = cc (is)
  next_fault (b ∷ bs) e wrong is = wrong (fields (first_line (b ∷ bs))) (sym (ap (on_first f n) (lines_cons (b ∷ bs) (omega arith))) ∙ is)

  pub next_refused : (bs : List ℕ) (e : RecordFault) → ((fs : List (List ℕ)) → 0 < length fs → F n fs e → f n fs ≡ Err e) → NextFault F n bs e → on_first f n (lines bs) ≡ Err e
  next_refused [] e wrong is = ap Err (sym is)
  next_refused (b ∷ bs) e wrong is = ap (on_first f n) (lines_cons (b ∷ bs) (omega arith)) ∙ wrong (fields (first_line (b ∷ bs))) (some_field (first_line (b ∷ bs))) is
