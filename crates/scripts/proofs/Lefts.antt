-- The records that are left to read, from the next line on. Assumes nothing.
use Rattle.std.proofs.Common.{◌≡◌, ℕ, ◌+◌, ◌<◌, List, [], ◌∷◌, length, is_some, true, ◌≤◌, Some, None, Option, Ok, Err, Result, refl, ap, ◌∙◌, sym, arith, subst}
use Rattle.std.proofs.lemmas.List.{length-drop}
use Rattle.std.specs.List.{position_or_len}
use Rattle.faults.specs.Results.{◌>>=◌}
use Rattle.faults.specs.declared.record.RecordFault.{RecordFault}
use Rattle.text.proofs.LinesLeft.{lines_after, lines_cons}
use Rattle.text.specs.FieldsOfLines.{GivesLine, HasFields, StandsFrom}
use Rattle.text.specs.Lines.{is_newline, first_line, below_first, lines, fields}
use Rattle.text.specs.Readers.{AtEnd, line_of, rest_of, fields_read_of}
use Rattle.text.specs.declared.line.Line.{Line}
use Rattle.text.specs.declared.reader.Reader.{Reader}
use Rattle.scripts.specs.Judgements.{judged, records_from, in_front}
use Rattle.scripts.specs.Reading.{reader_of, state_of, left_of, next_from, next_of, MovedBy, LeftAfter}
use Rattle.scripts.specs.Records.{kind_of}
use Rattle.scripts.specs.States.{after}
use Rattle.scripts.specs.declared.record.Record.{Record}
use Rattle.scripts.specs.declared.records.Records.{Records}
use Rattle.scripts.specs.declared.state.State.{State}
use Rattle.scripts.specs.declared.state.State.TheVariants.{Rest, Session}

-- the line l is judged as a, whatever its fields and its place
abbrev pub Judges : State → Line → Result Record RecordFault → Type 0
Judges s l a = (n : ℕ) (fs : List (List ℕ)) → HasFields l fs → StandsFrom l n 1 → a ≡ judged s n fs

-- what the line is judged as that a reader gives as l
pub judged_there : (r : Reader) (l : Line) (t : Reader) (s : State) (a : Result Record RecordFault) → fields_read_of r ≡ 0 → GivesLine r l t → Judges s l a → judged s (line_of r) (fields (first_line (rest_of r))) ≡ a
judged_there r l t s a begins gives judges =
    let stands : StandsFrom l (line_of r) 1 = let P : ℕ → Type 0 = λ k. StandsFrom l (line_of r) (k + 1) in subst P begins gives.stands in
    sym (judges (line_of r) (fields (first_line (rest_of r))) gives.fields stands)

-- the result of asking for the next record
pub line_answer : (r : Reader) (l : Line) (t : Reader) (s : State) (a : Result Record RecordFault) → fields_read_of r ≡ 0 → (AtEnd r → ⊥) → GivesLine r l t → Judges s l a → next_from s (line_of r) (lines (rest_of r)) ≡ (a >>= λ x. Ok (Some x))
line_answer r l t s a begins going gives judges =
    ap (next_from s (line_of r)) (lines_after r l t begins going gives) ∙ ap (λ j. j >>= λ x. Ok (Some x)) (judged_there r l t s a begins gives judges)

-- what a result says of the records that are left
some_was : (a : Result Record RecordFault) (x : Record) → (a >>= λ y. Ok (Some y)) ≡ Ok (Some x) → a ≡ Ok x
some_was (Ok y) x e = cc
some_was (Err d) x e = absurd cc

err_was : (a : Result Record RecordFault) (d : RecordFault) → (a >>= λ y. Ok (Some y)) ≡ Err d → a ≡ Err d
err_was (Ok y) d e = absurd cc
err_was (Err f) d e = cc

never_none : (a : Result Record RecordFault) → (a >>= λ y. Ok (Some y)) ≡ Ok None → ⊥
never_none (Ok y) e = cc
never_none (Err d) e = cc

none_left : (s : State) (n : ℕ) (ls : List (List ℕ)) → next_from s n ls ≡ Ok None → records_from s n ls ≡ Ok []
none_left Rest n [] e = refl
none_left Session n [] e = absurd cc
none_left s n (l ∷ ls) e = absurd (never_none (judged s n (fields l)) e)

fault_left : (s : State) (n : ℕ) (ls : List (List ℕ)) (d : RecordFault) → next_from s n ls ≡ Err d → records_from s n ls ≡ Err d
fault_left Rest n [] d e = absurd cc
fault_left Session n [] d e = cc
fault_left s n (l ∷ ls) d e = ap (λ j. j >>= λ x. in_front x (records_from (after s (kind_of x)) (n + 1) ls)) (err_was (judged s n (fields l)) d e)

record_left : (s : State) (n : ℕ) (bs : List ℕ) (x : Record) → 0 < length bs → next_from s n (lines bs) ≡ Ok (Some x) → records_from s n (lines bs) ≡ in_front x (records_from (after s (kind_of x)) (n + 1) (lines (below_first bs)))
record_left s n bs x some e =
    let cut : lines bs ≡ first_line bs ∷ lines (below_first bs) = lines_cons bs some in
    let here : judged s n (fields (first_line bs)) ≡ Ok x = some_was (judged s n (fields (first_line bs))) x (sym (ap (next_from s n) cut) ∙ e) in
    ap (records_from s n) cut ∙ ap (λ j. j >>= λ y. in_front y (records_from (after s (kind_of y)) (n + 1) (lines (below_first bs)))) here

pub left_after : (r : Records) (a : Result (Option Record) RecordFault) (s : Records) → a ≡ next_of r → MovedBy r a s → LeftAfter r a s
left_after r (Ok (Some x)) s is moved =
    let left : left_of r ≡ in_front x (records_from (after (state_of r) (kind_of x)) (line_of (reader_of r) + 1) (lines (below_first (rest_of (reader_of r))))) = record_left (state_of r) (line_of (reader_of r)) (rest_of (reader_of r)) x moved.some (sym is) in
    let here : left_of s ≡ records_from (after (state_of r) (kind_of x)) (line_of (reader_of r) + 1) (lines (below_first (rest_of (reader_of r)))) =
    ap (λ q. records_from q (line_of (reader_of s)) (lines (rest_of (reader_of s)))) moved.state ∙ ap (λ k. records_from (after (state_of r) (kind_of x)) k (lines (rest_of (reader_of s)))) moved.line ∙ ap (λ bs. records_from (after (state_of r) (kind_of x)) (line_of (reader_of r) + 1) (lines bs)) moved.rest in
    left ∙ ap (in_front x) (sym here)
left_after r (Ok None) s is moved = none_left (state_of r) (line_of (reader_of r)) (lines (rest_of (reader_of r))) (sym is)
left_after r (Err e) s is moved = fault_left (state_of r) (line_of (reader_of r)) (lines (rest_of (reader_of r))) e (sym is)

-- one record more is counted
counted_one : (k : ℕ) (x : Record) (a : Result (List Record) RecordFault) → (in_front x a >>= λ rs. Ok (k + length rs)) ≡ (a >>= λ rs. Ok (k + 1 + length rs))
counted_one k x (Ok rs) = let n : k + length (x ∷ rs) ≡ k + 1 + length rs = omega arith in ap Ok n
counted_one k x (Err e) = refl

pub record_counted : (r : Records) (a : Result (Option Record) RecordFault) (o : Option Record) (s : Records) (k m : ℕ) → a ≡ Ok o → is_some o ≡ true → MovedBy r a s → LeftAfter r a s → k + length (rest_of (reader_of r)) ≤ m → (k + 1 + length (rest_of (reader_of s)) ≤ m) × ((left_of r >>= λ rs. Ok (k + length rs)) ≡ (left_of s >>= λ rs. Ok (k + 1 + length rs)))
record_counted r (Err e) o s k m is some moved left room = absurd cc
record_counted r (Ok None) o s k m is some moved left room = absurd cc
record_counted r (Ok (Some x)) o s k m is some moved left room =
    let bs : List ℕ = rest_of (reader_of r) in
    let shorter : length (rest_of (reader_of s)) < length bs = omega (arith, ap length moved.rest, length-drop (position_or_len is_newline bs + 1) bs, moved.some) in
    (omega (arith, room, shorter), ap (λ a. a >>= λ rs. Ok (k + length rs)) left ∙ counted_one k x (left_of s))
