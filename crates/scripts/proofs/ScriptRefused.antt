-- What is wrong with a script, as the laws of scripts have it, is what its check reports, and nothing else is. Assumes nothing.
use Rattle.std.proofs.Common.{◌≡◌, ◌↔◌, ℕ, ◌+◌, ◌-◌, ◌≤◌, Bool, true, false, eqb, ℤ, List, [], ◌∷◌, ◌++◌, length, map, slice_index_or, None, Some, Option, Ok, Err, Result, arith, refl, sym, ◌∙◌, ap, subst}
use Rattle.std.proofs.lemmas.Bool.{eqb-true, eq-eqb}
use Rattle.std.proofs.lemmas.List.{append-nil}
use Rattle.std.specs.List.{AllByRecursion}
use Rattle.faults.specs.Results.{◌>>=◌}
use Rattle.faults.specs.declared.field.FieldFault.TheVariants.{NotANumber}
use Rattle.faults.specs.declared.record.RecordFault.{RecordFault}
use Rattle.faults.specs.declared.record.RecordFault.TheVariants.{Field, TooLong, Unfinished, UnknownWord, FieldCount, NotPermitted, EndsInSession}
use Rattle.scripts.proofs.Judged.{judged_written}
use Rattle.scripts.proofs.ScriptLaws.{fault}
use Rattle.scripts.proofs.ScriptLines.{content_of, fields_of_line, script_of_lines, lines_of_script}
use Rattle.scripts.proofs.Words.{word_is, word_spelled}
use Rattle.scripts.specs.Judgements.{arity, read_as, judged_as, judged, in_front, records_from, script, count_of}
use Rattle.scripts.specs.Laws.{Reads, IsArgument, FirstNoNumber, LineFault, IsWhole, NoNewline, FaultyLine, TextFault}
use Rattle.scripts.specs.Records.{kind_of, script_of, Writable}
use Rattle.scripts.specs.States.{permits, after, Leads}
use Rattle.scripts.specs.Words.{spelling, word_of}
use Rattle.scripts.specs.declared.record.Record.{Record}
use Rattle.scripts.specs.declared.record.Record.TheVariants as R
use Rattle.scripts.specs.declared.state.State.{State}
use Rattle.scripts.specs.declared.state.State.TheVariants.{Rest, Session}
use Rattle.scripts.specs.declared.word.Word.{Word}
use Rattle.scripts.specs.declared.word.Word.TheVariants as W
use Rattle.text.proofs.Arguments.{three_args, one_arg}
use Rattle.text.proofs.Cuts.{Free}
use Rattle.text.proofs.EndedLines.{lines_free, lines_of_front}
use Rattle.text.proofs.FieldNumbers.{first_of_three}
use Rattle.text.proofs.WholeTexts.{whole_passes, too_long, unfinished}
use Rattle.text.proofs.Written.{signed_read}
use Rattle.text.specs.Lines.{is_newline, lines, ended, fields}
use Rattle.text.specs.Numbers.{signed_of}

-- the numbers of a record
abbrev no_number : ℕ → ℕ → RecordFault
no_number n k = Field (NotANumber (record { line = n; field = k }))

step_at : (n : ℕ) (a : List ℕ) (o : Option ℤ) → signed_of a ≡ o → (IsArgument W.Step a → ⊥) → read_as W.Step n (a ∷ []) ≡ Err (no_number n 2)
step_at n a None is none = rw is refl
step_at n a (Some z) is none = absurd (none (z, signed_read a z is))

step_refused : (n k : ℕ) (v a : List ℕ) → FirstNoNumber W.Step (v ∷ a ∷ []) k → read_as W.Step n (a ∷ []) ≡ Err (no_number n k)
step_refused n k v a f =
    let low : 2 ≤ k = f.argument in
    let high : k ≤ 2 = f.inside in
    let place : k ≡ 2 = omega (arith, low, high) in
    let here : IsArgument W.Step a → ⊥ = subst (λ (j : ℕ). IsArgument W.Step (slice_index_or (v ∷ a ∷ []) (j - 1) []) → ⊥) place f.here in
    step_at n a (signed_of a) refl here ∙ ap (λ j. Err (no_number n j)) (sym place)

flip_refused : (n k : ℕ) (v a b c : List ℕ) → FirstNoNumber W.Flip (v ∷ a ∷ b ∷ c ∷ []) k → read_as W.Flip n (a ∷ b ∷ c ∷ []) ≡ Err (no_number n k)
flip_refused n k v a b c f = first_of_three n v a b c (λ x y z. Ok (R.Flip x y z)) k f.argument f.inside f.here f.before

no_arguments : (k : ℕ) (w : Word) (v : List ℕ) (args : List (List ℕ)) → length args ≡ 0 → FirstNoNumber w (v ∷ args) k → ⊥
no_arguments k w v args len f = let low : 2 ≤ k = f.argument in let high : k ≤ length (v ∷ args) = f.inside in omega (arith, low, high, len)

read_refused : (n k : ℕ) (w : Word) (v : List ℕ) (args : List (List ℕ)) → length args ≡ arity w → FirstNoNumber w (v ∷ args) k → read_as w n args ≡ Err (no_number n k)
read_refused n k W.Step v args len = let t = one_arg args len in subst (λ (xs : List (List ℕ)). FirstNoNumber W.Step (v ∷ xs) k → read_as W.Step n xs ≡ Err (no_number n k)) (sym t.1) (step_refused n k v t.0)
read_refused n k W.Flip v args len = let t = three_args args len in subst (λ (xs : List (List ℕ)). FirstNoNumber W.Flip (v ∷ xs) k → read_as W.Flip n xs ≡ Err (no_number n k)) (sym t.3) (flip_refused n k v t.0 t.1 t.2)
read_refused n k W.Undo v args len = λ f. absurd (no_arguments k W.Undo v args len f)
read_refused n k W.Redo v args len = λ f. absurd (no_arguments k W.Redo v args len f)
read_refused n k W.Open v args len = λ f. absurd (no_arguments k W.Open v args len f)
read_refused n k W.Clear v args len = λ f. absurd (no_arguments k W.Clear v args len f)
read_refused n k W.Close v args len = λ f. absurd (no_arguments k W.Close v args len f)

-- a line with the word w
no_word_of : (v : List ℕ) (o : Option Word) → word_of v ≡ o → ((w : Word) → v ≡ spelling w → ⊥) → word_of v ≡ None
no_word_of v None is none = is
no_word_of v (Some w) is none = absurd (none w (word_is v w is))

by_word : (s : State) (n : ℕ) (w : Word) (v : List ℕ) (args : List (List ℕ)) → v ≡ spelling w → judged s n (v ∷ args) ≡ judged_as (Some w) s n args
by_word s n w v args is = ap (λ o. judged_as o s n args) (ap word_of is ∙ word_spelled w)

not_so_many : (s : State) (n : ℕ) (w : Word) (args : List (List ℕ)) (yes : Bool) → eqb (length args) (arity w) ≡ yes → (length args ≡ arity w → ⊥) → judged_as (Some w) s n args ≡ Err (FieldCount n)
not_so_many s n w args true is other = absurd (other (eqb-true _ _ is))
not_so_many s n w args false is other = rw is refl

no_word_here : (w : Word) → [] ≡ spelling w → ⊥
no_word_here w is = let some : None ≡ Some w = ap word_of is ∙ word_spelled w in cc

pub line_refused : (s : State) (n : ℕ) (fs : List (List ℕ)) (e : RecordFault) → LineFault s n fs e → judged s n fs ≡ Err e
line_refused s n [] (UnknownWord i) f = ap (λ j. Err (UnknownWord j)) (sym f.0)
line_refused s n [] (FieldCount i) f = absurd (no_word_here f.1.0 f.1.1)
line_refused s n [] (NotPermitted i) f = absurd (no_word_here f.1.0 f.1.1.0)
line_refused s n [] (Field (NotANumber p)) f = absurd (no_word_here f.1.0 f.1.1.0)
line_refused s n (v ∷ args) (UnknownWord i) f = ap (λ o. judged_as o s n args) (no_word_of v (word_of v) refl f.1) ∙ ap (λ j. Err (UnknownWord j)) (sym f.0)
line_refused s n (v ∷ args) (FieldCount i) f = by_word s n f.1.0 v args f.1.1 ∙ not_so_many s n f.1.0 args (eqb (length args) (arity f.1.0)) refl (λ l. f.1.2 (omega (arith, l))) ∙ ap (λ j. Err (FieldCount j)) (sym f.0)
line_refused s n (v ∷ args) (NotPermitted i) f =
    let len : length args ≡ arity f.1.0 = omega (arith, f.1.1.1) in
    by_word s n f.1.0 v args f.1.1.0 ∙ rw (eq-eqb (length args) (arity f.1.0) len, f.1.2) (ap (λ j. Err (NotPermitted j)) (sym f.0))
line_refused s n (v ∷ args) (Field (NotANumber p)) f =
    let len : length args ≡ arity f.1.0 = omega (arith, f.1.1.1) in
    let may : permits s f.1.0 ≡ true = f.1.2 in
    by_word s n f.1.0 v args f.1.1.0 ∙ rw (eq-eqb (length args) (arity f.1.0) len, may) (read_refused n p.field f.1.0 v args len f.1.3 ∙ ap (λ j. Err (Field (NotANumber (record { line = j; field = p.field })))) (sym f.0))
line_refused s n fs e f = absurd f

-- records, and then lines that are refused
records_on : (s t : State) (n : ℕ) (rs : List Record) (ls : List (List ℕ)) (e : RecordFault) → Leads s rs t → AllByRecursion Writable rs → records_from t (n + length rs) ls ≡ Err e → records_from s n (map content_of rs ++ ls) ≡ Err e
records_on s t n [] ls e leads w wrong = let place : n ≡ n + 0 = omega arith in ap (λ q. records_from q n ls) leads ∙ ap (λ m. records_from t m ls) place ∙ wrong
records_on s t n (r ∷ rs) ls e leads w wrong =
    let place : n + 1 + length rs ≡ n + length (r ∷ rs) = omega arith in
    let first : judged s n (fields (content_of r)) ≡ Ok r = ap (judged s n) (fields_of_line r w.0) ∙ judged_written s n r leads.0 w.0 in
    let below : records_from (after s (kind_of r)) (n + 1) (map content_of rs ++ ls) ≡ Err e = records_on (after s (kind_of r)) t (n + 1) rs ls e leads.1 w.1 (ap (λ m. records_from t m ls) place ∙ wrong) in
    ap (λ a. a >>= λ x. in_front x (records_from (after s (kind_of x)) (n + 1) (map content_of rs ++ ls))) first ∙ ap (in_front r) below

lines_of_records : (rs : List Record) (more : List ℕ) → AllByRecursion Writable rs → lines (script_of rs ++ more) ≡ map content_of rs ++ lines more
lines_of_records rs more w =
    let free : AllByRecursion (Free is_newline) (map content_of rs) = subst (AllByRecursion (Free is_newline)) (lines_of_script rs w) (lines_free (script_of rs)) in
    ap (λ x. lines (x ++ more)) (script_of_lines rs) ∙ lines_of_front (map content_of rs) more free

next_line : (l more : List ℕ) → NoNewline l → lines (ended l ++ more) ≡ l ∷ lines more
next_line l more free = ap (λ x. lines (x ++ more)) (sym (append-nil (ended l))) ∙ lines_of_front (l ∷ []) more (free, tt)

faulty_line : (n : ℕ) (bs : List ℕ) (e : RecordFault) → FaultyLine n bs e → records_from Rest n (lines bs) ≡ Err e
faulty_line n bs e f =
    let below : List (List ℕ) = lines f.below in
    let all : lines bs ≡ map content_of f.records ++ (f.line ∷ below) =
    ap lines (f.text ∙ ap (λ x. x ++ (ended f.line ++ f.below)) f.reads.text) ∙ lines_of_records f.records (ended f.line ++ f.below) f.reads.writable ∙ ap (λ x. map content_of f.records ++ x) (next_line f.line f.below f.one_line) in
    let m : ℕ = n + length f.records in
    let here : records_from f.state m (f.line ∷ below) ≡ Err e = ap (λ a. a >>= λ x. in_front x (records_from (after f.state (kind_of x)) (m + 1) below)) (line_refused f.state m (fields f.line) e f.fault) in
    ap (records_from Rest n) all ∙ records_on Rest f.state n f.records (f.line ∷ below) e f.reads.leads f.reads.writable here

open_end : (n i : ℕ) (bs : List ℕ) (rs : List Record) → Reads Rest rs Session bs → i ≡ n + length rs → records_from Rest n (lines bs) ≡ Err (EndsInSession i)
open_end n i bs rs r is =
    let all : lines bs ≡ map content_of rs ++ [] = ap lines r.text ∙ lines_of_script rs r.writable ∙ sym (append-nil (map content_of rs)) in
    ap (records_from Rest n) all ∙ records_on Rest Session n rs [] (EndsInSession i) r.leads r.writable (ap (λ j. Err (EndsInSession j)) (sym is))

by_lines : (n : ℕ) (bs : List ℕ) (e : RecordFault) → IsWhole bs → records_from Rest n (lines bs) ≡ Err e → script n bs ≡ Err e
by_lines n bs e w wrong = ap (λ a. a >>= λ _. records_from Rest n (lines bs)) (whole_passes n bs w.0 w.1) ∙ wrong

pub script_refused : (n : ℕ) (bs : List ℕ) (e : RecordFault) → TextFault n bs e → script n bs ≡ Err e
script_refused n bs TooLong f = ap (λ a. a >>= λ _. records_from Rest n (lines bs)) (too_long n bs f)
script_refused n bs (Unfinished i) f = ap (λ a. a >>= λ _. records_from Rest n (lines bs)) (unfinished n i bs f.0 f.1 f.2)
script_refused n bs (EndsInSession i) f = by_lines n bs (EndsInSession i) f.0 (open_end n i bs f.1.0 f.1.1 f.1.2)
script_refused n bs e f = by_lines n bs e f.0 (faulty_line n bs e f.1)

-- an answer of the check
was_refused : (n : ℕ) (bs : List ℕ) (e : RecordFault) (a : Result (List Record) RecordFault) → script n bs ≡ a → count_of a ≡ Err e → script n bs ≡ Err e
was_refused n bs e (Ok rs) is refused = absurd (cc (refused))
was_refused n bs e (Err d) is refused = let same : d ≡ e = cc (refused) in is ∙ ap Err same

pub check_first : (n : ℕ) (bs : List ℕ) (e : RecordFault) → (count_of (script n bs) ≡ Err e) ↔ TextFault n bs e
check_first n bs e = (λ refused. fault n bs e (was_refused n bs e (script n bs) refl refused), λ f. ap count_of (script_refused n bs e f))
