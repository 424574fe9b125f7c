-- What a line is judged as: the line of a record is that record, each line that is accepted is the line of a record, and a fault has the first
-- cause. Assumes nothing.
use Rattle.std.proofs.Common.{◌≡◌, ◌≢◌, ℕ, ◌+◌, ◌-◌, ◌<◌, ◌≤◌, ℤ, List, [], ◌∷◌, length, true, false, Bool, cond, Some, None, Option, Ok, Err, Result, arith, refl, ◌∙◌, ap, sym, eqb, subst, inl, inr, slice_index_or}
use Rattle.std.proofs.lemmas.Bool.{cases_lt, eqb-true, eqb-false}
use Rattle.std.proofs.lemmas.List.{nil_from_length}
use Rattle.std.specs.Fmt.{decimal, signed_decimal}
use Rattle.faults.proofs.Joined.{went_on, passed, was_some}
use Rattle.faults.specs.Results.{◌>>=◌}
use Rattle.faults.specs.declared.field.FieldFault.TheVariants.{NotANumber}
use Rattle.faults.specs.declared.record.RecordFault.{RecordFault}
use Rattle.faults.specs.declared.record.RecordFault.TheVariants.{Field, UnknownWord, FieldCount, NotPermitted}
use Rattle.text.proofs.Written.{number_read, number_written, signed_read, signed_written}
use Rattle.text.specs.Numbers.{number_of, signed_of, number_at, signed_at, WritesNumber, WritesSigned}
use Rattle.scripts.proofs.Words.{word_is, no_word}
use Rattle.scripts.specs.Judgements.{arity, read_as, judged_as, judged}
use Rattle.scripts.specs.Laws.{IsArgument, FirstNoNumber, LineFault}
use Rattle.scripts.specs.Records.{kind_of, fields_of, arguments_of, Writable}
use Rattle.scripts.specs.States.{permits}
use Rattle.scripts.specs.Words.{spelling, word_of}
use Rattle.scripts.specs.declared.record.Record.{Record}
use Rattle.scripts.specs.declared.record.Record.TheVariants as R
use Rattle.scripts.specs.declared.state.State.{State}
use Rattle.scripts.specs.declared.word.Word.{Word}
use Rattle.scripts.specs.declared.word.Word.TheVariants as W

-- the line of a record
pub judged_written : (s : State) (n : ℕ) (r : Record) → permits s (kind_of r) ≡ true → Writable r → judged s n (fields_of r) ≡ Ok r
judged_written s n (R.Step z) may w = rw (may, signed_written (signed_decimal z) z (w, refl)) refl
judged_written s n (R.Flip c r m) may w = rw (may, number_written (decimal c) c (w.0, refl), number_written (decimal r) r (w.1, refl), number_written (decimal m) m (w.2, refl)) refl
judged_written s n R.Undo may w = rw may refl
judged_written s n R.Redo may w = rw may refl
judged_written s n R.Open may w = rw may refl
judged_written s n R.Clear may w = rw may refl
judged_written s n R.Close may w = rw may refl

-- what was read as the record r of the word k
pub record IsRead (k : Word) (args : List (List ℕ)) (r : Record) : Type 0 where
  pub kind : kind_of r ≡ k
  pub arguments : args ≡ arguments_of r
  pub writable : Writable r

step_read : (n : ℕ) (args : List (List ℕ)) (r : Record) → length args ≡ 1 → read_as W.Step n args ≡ Ok r → IsRead W.Step args r
step_read n [] r len e = absurd (omega arith)
step_read n (a ∷ b ∷ args) r len e = absurd (omega arith)
step_read n (a ∷ []) r len e =
    let p = went_on (signed_at n 2 a) (λ z. Ok (R.Step z)) r e in
    let w : WritesSigned p.0 a = signed_read a p.0 (was_some (signed_of a) _ p.0 p.1) in
    let is : R.Step p.0 ≡ r = cc in
    subst (IsRead W.Step (a ∷ [])) is (record { kind = refl; arguments = ap (λ x. x ∷ []) w.1; writable = w.0 })

flip_read : (n : ℕ) (args : List (List ℕ)) (r : Record) → length args ≡ 3 → read_as W.Flip n args ≡ Ok r → IsRead W.Flip args r
flip_read n [] r len e = absurd (omega arith)
flip_read n (a ∷ []) r len e = absurd (omega arith)
flip_read n (a ∷ b ∷ []) r len e = absurd (omega arith)
flip_read n (a ∷ b ∷ c ∷ d ∷ args) r len e = absurd (omega arith)
flip_read n (a ∷ b ∷ c ∷ []) r len e =
    let p = went_on (number_at n 2 a) (λ x. number_at n 3 b >>= λ y. number_at n 4 c >>= λ z. Ok (R.Flip x y z)) r e in
    let q = went_on (number_at n 3 b) (λ y. number_at n 4 c >>= λ z. Ok (R.Flip p.0 y z)) r p.2 in
    let t = went_on (number_at n 4 c) (λ z. Ok (R.Flip p.0 q.0 z)) r q.2 in
    let u : WritesNumber p.0 a = number_read a p.0 (was_some (number_of a) _ p.0 p.1) in
    let v : WritesNumber q.0 b = number_read b q.0 (was_some (number_of b) _ q.0 q.1) in
    let w : WritesNumber t.0 c = number_read c t.0 (was_some (number_of c) _ t.0 t.1) in
    let is : R.Flip p.0 q.0 t.0 ≡ r = cc in
    let args : (a ∷ b ∷ c ∷ []) ≡ decimal p.0 ∷ decimal q.0 ∷ decimal t.0 ∷ [] = cc (u.1, v.1, w.1) in
    subst (IsRead W.Flip (a ∷ b ∷ c ∷ [])) is (record { kind = refl; arguments = args; writable = (u.0, v.0, w.0) })

answered : (a : Result Record RecordFault) (x y : Record) → a ≡ Ok x → a ≡ Ok y → x ≡ y
answered a x y e f = cc

plain_read : (k : Word) (x : Record) (args : List (List ℕ)) (r : Record) → kind_of x ≡ k → arguments_of x ≡ [] → Writable x → length args ≡ 0 → x ≡ r → IsRead k args r
plain_read k x args r kind none w len is = subst (IsRead k args) is (record { kind = kind; arguments = nil_from_length args len ∙ sym none; writable = w })

word_read : (n : ℕ) (k : Word) (args : List (List ℕ)) (r : Record) → length args ≡ arity k → read_as k n args ≡ Ok r → IsRead k args r
word_read n W.Step args r len e = step_read n args r len e
word_read n W.Flip args r len e = flip_read n args r len e
word_read n W.Undo args r len e = plain_read W.Undo R.Undo args r refl refl tt len (answered (read_as W.Undo n args) R.Undo r refl e)
word_read n W.Redo args r len e = plain_read W.Redo R.Redo args r refl refl tt len (answered (read_as W.Redo n args) R.Redo r refl e)
word_read n W.Open args r len e = plain_read W.Open R.Open args r refl refl tt len (answered (read_as W.Open n args) R.Open r refl e)
word_read n W.Clear args r len e = plain_read W.Clear R.Clear args r refl refl tt len (answered (read_as W.Clear n args) R.Clear r refl e)
word_read n W.Close args r len e = plain_read W.Close R.Close args r refl refl tt len (answered (read_as W.Close n args) R.Close r refl e)

-- what was accepted as the record r
pub record IsRecord (s : State) (fs : List (List ℕ)) (r : Record) : Type 0 where
  pub permitted : permits s (kind_of r) ≡ true
  pub writable : Writable r
  pub fields : fs ≡ fields_of r

judged_as_ok : (o : Option Word) (s : State) (n : ℕ) (w : List ℕ) (args : List (List ℕ)) (r : Record) → word_of w ≡ o → judged_as o s n args ≡ Ok r → IsRecord s (w ∷ args) r
judged_as_ok None s n w args r o-is e = absurd cc
judged_as_ok (Some k) s n w args r o-is e =
    let count = passed (eqb (length args) (arity k)) (cond (permits s k) (read_as k n args) (Err (NotPermitted n))) (FieldCount n) r e in
    let state = passed (permits s k) (read_as k n args) (NotPermitted n) r count.1 in
    let is = word_read n k args r (eqb-true _ _ count.0) state.1 in
    let spelled : w ≡ spelling (kind_of r) = word_is w k o-is ∙ ap spelling (sym is.kind) in
    record {
      permitted = ap (permits s) is.kind ∙ state.0;
      writable = is.writable;
      fields = ap (λ x. x ∷ args) spelled ∙ ap (λ x. spelling (kind_of r) ∷ x) is.arguments;
    }

pub judged_ok : (s : State) (n : ℕ) (fs : List (List ℕ)) (r : Record) → judged s n fs ≡ Ok r → IsRecord s fs r
judged_ok s n [] r e = absurd cc
judged_ok s n (w ∷ args) r e = judged_as_ok (word_of w) s n w args r refl e

-- faults
fault_is : (a : Result Record RecordFault) (d e : RecordFault) → a ≡ Err d → a ≡ Err e → d ≡ e
fault_is a d e is-d is-e = cc

step_fault_at : (n : ℕ) (a : List ℕ) (e : RecordFault) (o : Option ℤ) → signed_of a ≡ o → read_as W.Step n (a ∷ []) ≡ Err e → (e ≡ Field (NotANumber (record { line = n; field = 2 }))) × (signed_of a ≡ None)
step_fault_at n a e None o-is is = let is' : read_as W.Step n (a ∷ []) ≡ Err (Field (NotANumber (record { line = n; field = 2 }))) = rw o-is refl in (fault_is _ _ _ is is', o-is)
step_fault_at n a e (Some z) o-is is = let is' : read_as W.Step n (a ∷ []) ≡ Ok (R.Step z) = rw o-is refl in absurd cc

no_signed : (a : List ℕ) → signed_of a ≡ None → IsArgument W.Step a → ⊥
no_signed a none w = let some : signed_of a ≡ Some w.0 = signed_written a w.0 w.1 in absurd cc

no_number : (a : List ℕ) → number_of a ≡ None → IsArgument W.Flip a → ⊥
no_number a none w = let some : number_of a ≡ Some w.0 = number_written a w.0 w.1 in absurd cc

-- a fault of the numbers of a line with the word k
pub record NumberFault (k : Word) (n : ℕ) (fs : List (List ℕ)) (e : RecordFault) : Type 0 where
  pub field : ℕ
  pub is : e ≡ Field (NotANumber (record { line = n; field = field }))
  pub first : FirstNoNumber k fs field

step_fault : (n : ℕ) (w : List ℕ) (args : List (List ℕ)) (e : RecordFault) → length args ≡ 1 → read_as W.Step n args ≡ Err e → NumberFault W.Step n (w ∷ args) e
step_fault n w [] e len is = absurd (omega arith)
step_fault n w (a ∷ b ∷ args) e len is = absurd (omega arith)
step_fault n w (a ∷ []) e len is =
    let p = step_fault_at n a e (signed_of a) refl is in
    record {
      field = 2;
      is = p.0;
      first = record { argument = omega arith; inside = omega arith; here = no_signed a p.1; before = λ j l u. absurd (omega (arith, l, u)) };
    }

at_two : (P : ℕ → Type 0) → P 2 → (j : ℕ) → 2 ≤ j → j < 3 → P j
at_two P here j low high = let is : 2 ≡ j = omega (arith, low, high) in subst P is here

at_two_or_three : (P : ℕ → Type 0) → P 2 → P 3 → (j : ℕ) → 2 ≤ j → j < 4 → P j
at_two_or_three P two three j low high = elim (cases_lt j 3) [ inl l ↦ at_two P two j low l | inr g ↦ let is : 3 ≡ j = omega (arith, g, high) in subst P is three ]

-- the three numbers of a flip, one after another
flip_third : (n x y : ℕ) (w a b c : List ℕ) (e : RecordFault) (o : Option ℕ) → number_of a ≡ Some x → number_of b ≡ Some y → number_of c ≡ o → read_as W.Flip n (a ∷ b ∷ c ∷ []) ≡ Err e → NumberFault W.Flip n (w ∷ a ∷ b ∷ c ∷ []) e
flip_third n x y w a b c e None a-is b-is c-is is =
    let is' : read_as W.Flip n (a ∷ b ∷ c ∷ []) ≡ Err (Field (NotANumber (record { line = n; field = 4 }))) = rw (a-is, b-is, c-is) refl in
    let P : ℕ → Type 0 = λ j. IsArgument W.Flip (slice_index_or (w ∷ a ∷ b ∷ c ∷ []) (j - 1) []) in
    record {
      field = 4;
      is = fault_is _ _ _ is is';
      first = record { argument = omega arith; inside = omega arith; here = no_number c c-is; before = at_two_or_three P (x, number_read a x a-is) (y, number_read b y b-is) };
    }
flip_third n x y w a b c e (Some z) a-is b-is c-is is = let is' : read_as W.Flip n (a ∷ b ∷ c ∷ []) ≡ Ok (R.Flip x y z) = rw (a-is, b-is, c-is) refl in absurd cc

flip_second : (n x : ℕ) (w a b c : List ℕ) (e : RecordFault) (o : Option ℕ) → number_of a ≡ Some x → number_of b ≡ o → read_as W.Flip n (a ∷ b ∷ c ∷ []) ≡ Err e → NumberFault W.Flip n (w ∷ a ∷ b ∷ c ∷ []) e
flip_second n x w a b c e None a-is b-is is =
    let is' : read_as W.Flip n (a ∷ b ∷ c ∷ []) ≡ Err (Field (NotANumber (record { line = n; field = 3 }))) = rw (a-is, b-is) refl in
    let P : ℕ → Type 0 = λ j. IsArgument W.Flip (slice_index_or (w ∷ a ∷ b ∷ c ∷ []) (j - 1) []) in
    record {
      field = 3;
      is = fault_is _ _ _ is is';
      first = record { argument = omega arith; inside = omega arith; here = no_number b b-is; before = at_two P (x, number_read a x a-is) };
    }
flip_second n x w a b c e (Some y) a-is b-is is = flip_third n x y w a b c e (number_of c) a-is b-is refl is

flip_first : (n : ℕ) (w a b c : List ℕ) (e : RecordFault) (o : Option ℕ) → number_of a ≡ o → read_as W.Flip n (a ∷ b ∷ c ∷ []) ≡ Err e → NumberFault W.Flip n (w ∷ a ∷ b ∷ c ∷ []) e
flip_first n w a b c e None a-is is =
    let is' : read_as W.Flip n (a ∷ b ∷ c ∷ []) ≡ Err (Field (NotANumber (record { line = n; field = 2 }))) = rw a-is refl in
    record {
      field = 2;
      is = fault_is _ _ _ is is';
      first = record { argument = omega arith; inside = omega arith; here = no_number a a-is; before = λ j l u. absurd (omega (arith, l, u)) };
    }
flip_first n w a b c e (Some x) a-is is = flip_second n x w a b c e (number_of b) a-is refl is

flip_fault : (n : ℕ) (w : List ℕ) (args : List (List ℕ)) (e : RecordFault) → length args ≡ 3 → read_as W.Flip n args ≡ Err e → NumberFault W.Flip n (w ∷ args) e
flip_fault n w [] e len is = absurd (omega arith)
flip_fault n w (a ∷ []) e len is = absurd (omega arith)
flip_fault n w (a ∷ b ∷ []) e len is = absurd (omega arith)
flip_fault n w (a ∷ b ∷ c ∷ d ∷ args) e len is = absurd (omega arith)
flip_fault n w (a ∷ b ∷ c ∷ []) e len is = flip_first n w a b c e (number_of a) refl is

fault_of_numbers : (n : ℕ) (k : Word) (w : List ℕ) (args : List (List ℕ)) (e : RecordFault) → length args ≡ arity k → read_as k n args ≡ Err e → NumberFault k n (w ∷ args) e
fault_of_numbers n W.Step w args e len is = step_fault n w args e len is
fault_of_numbers n W.Flip w args e len is = flip_fault n w args e len is
fault_of_numbers n W.Undo w args e len is = absurd cc
fault_of_numbers n W.Redo w args e len is = absurd cc
fault_of_numbers n W.Open w args e len is = absurd cc
fault_of_numbers n W.Clear w args e len is = absurd cc
fault_of_numbers n W.Close w args e len is = absurd cc

-- the causes for a line in their order
state_fault : (k : Word) (s : State) (n : ℕ) (w : List ℕ) (args : List (List ℕ)) (e : RecordFault) (may : Bool) → w ≡ spelling k → length args ≡ arity k → permits s k ≡ may → cond may (read_as k n args) (Err (NotPermitted n)) ≡ Err e → LineFault s n (w ∷ args) e
state_fault k s n w args e true spelled count may is =
    let p = fault_of_numbers n k w args e count is in
    subst (LineFault s n (w ∷ args)) (sym p.is) (refl, (k, (spelled, omega (arith, count)), may, p.first))
state_fault k s n w args e false spelled count may is =
    let same : NotPermitted n ≡ e = fault_is (Err (NotPermitted n)) (NotPermitted n) e refl is in
    subst (LineFault s n (w ∷ args)) same (refl, (k, (spelled, omega (arith, count)), may))

count_fault : (k : Word) (s : State) (n : ℕ) (w : List ℕ) (args : List (List ℕ)) (e : RecordFault) (counted : Bool) → w ≡ spelling k → eqb (length args) (arity k) ≡ counted → cond counted (cond (permits s k) (read_as k n args) (Err (NotPermitted n))) (Err (FieldCount n)) ≡ Err e → LineFault s n (w ∷ args) e
count_fault k s n w args e true spelled count is = state_fault k s n w args e (permits s k) spelled (eqb-true _ _ count) refl is
count_fault k s n w args e false spelled count is =
    let same : FieldCount n ≡ e = fault_is (Err (FieldCount n)) (FieldCount n) e refl is in
    let other : length (w ∷ args) ≢ arity k + 1 = λ l. eqb-false _ _ count (omega (arith, l)) in
    subst (LineFault s n (w ∷ args)) same (refl, (k, spelled, other))

word_fault : (o : Option Word) (s : State) (n : ℕ) (w : List ℕ) (args : List (List ℕ)) (e : RecordFault) → word_of w ≡ o → judged_as o s n args ≡ Err e → LineFault s n (w ∷ args) e
word_fault None s n w args e o-is is =
    let same : UnknownWord n ≡ e = fault_is (Err (UnknownWord n)) (UnknownWord n) e refl is in
    subst (LineFault s n (w ∷ args)) same (refl, no_word w o-is)
word_fault (Some k) s n w args e o-is is = count_fault k s n w args e (eqb (length args) (arity k)) (word_is w k o-is) refl is

no_spelling : (w : Word) → [] ≡ spelling w → ⊥
no_spelling W.Step e = cc
no_spelling W.Undo e = cc
no_spelling W.Redo e = cc
no_spelling W.Open e = cc
no_spelling W.Flip e = cc
no_spelling W.Clear e = cc
no_spelling W.Close e = cc

pub judged_err : (s : State) (n : ℕ) (fs : List (List ℕ)) (e : RecordFault) → judged s n fs ≡ Err e → LineFault s n fs e
judged_err s n [] e is =
    let same : UnknownWord n ≡ e = fault_is (Err (UnknownWord n)) (UnknownWord n) e refl is in
    subst (LineFault s n []) same (refl, no_spelling)
judged_err s n (w ∷ args) e is = word_fault (word_of w) s n w args e refl is
