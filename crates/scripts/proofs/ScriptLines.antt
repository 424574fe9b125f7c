-- The lines of a script: written records are read as themselves, and accepted lines are written records. Assumes nothing.
use Rattle.std.proofs.Common.{◌≡◌, ℕ, ◌+◌, List, [], ◌∷◌, ◌++◌, length, map, flat_map, Ok, Err, Result, refl, ◌∙◌, ap, sym, subst}
use Rattle.std.proofs.lemmas.List.{length-map}
use Rattle.std.specs.List.{AllByRecursion, count_by}
use Rattle.faults.proofs.Joined.{went_on}
use Rattle.faults.specs.declared.record.RecordFault.{RecordFault}
use Rattle.text.proofs.Cuts.{Free}
use Rattle.text.proofs.EndedLines.{lines_of_joined, newlines_of_joined, fields_of_separated, ended_by_fields}
use Rattle.text.proofs.FreeNumbers.{decimal_free, signed_free}
use Rattle.text.proofs.LineFields.{no_tab, tabless, separated_free}
use Rattle.text.specs.Lines.{is_newline, is_separator, lines, ended, separated, fields}
use Rattle.scripts.proofs.Judged.{judged_written, judged_ok, IsRecord}
use Rattle.scripts.specs.Judgements.{judged, end_of_text, records_from, in_front}
use Rattle.scripts.specs.Records.{kind_of, fields_of, arguments_of, written, script_of, Writable}
use Rattle.scripts.specs.States.{after, Leads}
use Rattle.scripts.specs.Words.{spelling}
use Rattle.scripts.specs.declared.record.Record.{Record}
use Rattle.scripts.specs.declared.record.Record.TheVariants as R
use Rattle.scripts.specs.declared.state.State.{State}
use Rattle.scripts.specs.declared.state.State.TheVariants.{Rest, Session}
use Rattle.scripts.specs.declared.word.Word.{Word}
use Rattle.scripts.specs.declared.word.Word.TheVariants as W

spelling_free : (w : Word) → Free is_separator (spelling w)
spelling_free W.Step = (refl, (refl, (refl, (refl, tt))))
spelling_free W.Undo = (refl, (refl, (refl, (refl, tt))))
spelling_free W.Redo = (refl, (refl, (refl, (refl, tt))))
spelling_free W.Open = (refl, (refl, (refl, (refl, tt))))
spelling_free W.Flip = (refl, (refl, (refl, (refl, tt))))
spelling_free W.Clear = (refl, (refl, (refl, (refl, (refl, tt)))))
spelling_free W.Close = (refl, (refl, (refl, (refl, (refl, tt)))))

arguments_free : (r : Record) → Writable r → AllByRecursion (Free is_separator) (arguments_of r)
arguments_free (R.Step z) w = (signed_free z w, tt)
arguments_free (R.Flip c r m) w = (decimal_free c w.0, (decimal_free r w.1, (decimal_free m w.2, tt)))
arguments_free R.Undo w = tt
arguments_free R.Redo w = tt
arguments_free R.Open w = tt
arguments_free R.Clear w = tt
arguments_free R.Close w = tt

-- the line of a record
abbrev pub content_of : Record → List ℕ
content_of r = separated (fields_of r)

pub fields_of_line : (r : Record) → Writable r → fields (content_of r) ≡ fields_of r
fields_of_line r w = fields_of_separated (spelling (kind_of r)) (arguments_of r) (no_tab _ (spelling_free (kind_of r)), tabless (arguments_of r) (arguments_free r w))

lines_are_free : (rs : List Record) → AllByRecursion Writable rs → AllByRecursion (Free is_newline) (map content_of rs)
lines_are_free [] w = tt
lines_are_free (r ∷ rs) w = (separated_free (fields_of r) (spelling_free (kind_of r), arguments_free r w.0), lines_are_free rs w.1)

pub script_of_lines : (rs : List Record) → script_of rs ≡ flat_map ended (map content_of rs)
script_of_lines [] = refl
script_of_lines (r ∷ rs) = ap (λ x. written r ++ x) (script_of_lines rs)

pub lines_of_script : (rs : List Record) → AllByRecursion Writable rs → lines (script_of rs) ≡ map content_of rs
lines_of_script rs w = ap lines (script_of_lines rs) ∙ lines_of_joined (map content_of rs) (lines_are_free rs w)

-- a script has one newline for each record
pub newlines_of_script : (rs : List Record) → AllByRecursion Writable rs → count_by is_newline (script_of rs) ≡ length rs
newlines_of_script rs w = ap (count_by is_newline) (script_of_lines rs) ∙ newlines_of_joined (map content_of rs) (lines_are_free rs w) ∙ length-map rs content_of

-- written records are read as themselves
pub taken_lines : (s : State) (n : ℕ) (rs : List Record) → Leads s rs Rest → AllByRecursion Writable rs → records_from s n (map content_of rs) ≡ Ok rs
taken_lines s n [] leads w = rw leads refl
taken_lines s n (r ∷ rs) leads w = rw (fields_of_line r w.0, judged_written s n r leads.0 w.0, taken_lines (after s (kind_of r)) (n + 1) rs leads.1 w.1) refl

-- lines that are accepted
pub record Accepted (s : State) (ls : List (List ℕ)) (rs : List Record) : Type 0 where
  pub leads : Leads s rs Rest
  pub writable : AllByRecursion Writable rs
  pub text : flat_map ended ls ≡ script_of rs

accepted_end : (s : State) (n : ℕ) (rs : List Record) → end_of_text s n ≡ Ok rs → Accepted s [] rs
accepted_end Rest n rs e = let none : [] ≡ rs = cc in subst (Accepted Rest []) none (record { leads = refl; writable = tt; text = refl })
accepted_end Session n rs e = absurd cc

pub in_front_ok : (r : Record) (a : Result (List Record) RecordFault) (rs : List Record) → in_front r a ≡ Ok rs → (more : List Record) × (a ≡ Ok more) × (rs ≡ r ∷ more)
in_front_ok r (Ok more) rs e = (more, refl, cc)
in_front_ok r (Err d) rs e = absurd cc

pub accepted_lines : (s : State) (n : ℕ) (ls : List (List ℕ)) (rs : List Record) → records_from s n ls ≡ Ok rs → Accepted s ls rs
accepted_lines s n [] rs e = accepted_end s n rs e
accepted_lines s n (l ∷ ls) rs e =
    let first = went_on (judged s n (fields l)) (λ r. in_front r (records_from (after s (kind_of r)) (n + 1) ls)) rs e in
    let r : Record = first.0 in
    let is : IsRecord s (fields l) r = judged_ok s n (fields l) r first.1 in
    let rest = in_front_ok r (records_from (after s (kind_of r)) (n + 1) ls) rs first.2 in
    let again : Accepted (after s (kind_of r)) ls rest.0 = accepted_lines (after s (kind_of r)) (n + 1) ls rest.0 rest.1 in
    subst (Accepted s (l ∷ ls)) (sym rest.2) (record {
      leads = (is.permitted, again.leads);
      writable = (is.writable, again.writable);
      text = ap (λ x. x ++ flat_map ended ls) (ended_by_fields l (fields_of r) is.fields) ∙ ap (λ x. written r ++ x) again.text;
    })
