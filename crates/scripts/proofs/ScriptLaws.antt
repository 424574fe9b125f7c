-- What a whole text is read as, and what is wrong with it, as its writer sees it. Assumes nothing.
use Rattle.std.proofs.Common.{◌≡◌, ℕ, ◌+◌, ◌≤◌, List, length, map, true, Ok, Err, Result, IfOk, refl, ◌∙◌, ap, sym, subst, inl, inr}
use Rattle.faults.proofs.Joined.{went_on}
use Rattle.text.proofs.WholeTexts.{whole_accepted, whole_passes, whole_refused}
use Rattle.faults.specs.Results.{◌>>=◌}
use Rattle.faults.specs.declared.record.RecordFault.{RecordFault}
use Rattle.faults.specs.declared.record.RecordFault.TheVariants.{Field, TooLong, Unfinished, UnknownWord, FieldCount, NotPermitted, EndsInSession, Start, MissingLine, UnknownMap, CellsTooShort}
use Rattle.text.proofs.EndedLines.{text_is_its_lines, lines_free, finished_joined}
use Rattle.text.specs.Lines.{lines}
use Rattle.text.specs.Wholes.{max_text, finished, whole}
use Rattle.scripts.proofs.ScriptFaults.{FaultFrom, fault_lines}
use Rattle.scripts.proofs.ScriptLines.{content_of, lines_of_script, script_of_lines, taken_lines, accepted_lines, Accepted}
use Rattle.scripts.specs.Judgements.{records_from, script, count_of}
use Rattle.scripts.specs.Laws.{Reads, IsScript, IsWhole, FaultyLine, TextFault}
use Rattle.scripts.specs.Records.{script_of}
use Rattle.scripts.specs.declared.record.Record.{Record}
use Rattle.scripts.specs.declared.state.State.TheVariants.{Rest}

went_on_to : (n : ℕ) (bs : List ℕ) (rs : List Record) → script n bs ≡ Ok rs → (whole n bs ≡ Ok tt) × (records_from Rest n (lines bs) ≡ Ok rs)
went_on_to n bs rs e = let p = went_on (whole n bs) (λ _. records_from Rest n (lines bs)) rs e in (p.1, p.2)

pub accepted : (n : ℕ) (bs : List ℕ) (rs : List Record) → script n bs ≡ Ok rs → IsScript rs bs
accepted n bs rs e =
    let p = went_on_to n bs rs e in
    let good = whole_accepted n bs p.0 in
    let a : Accepted Rest (lines bs) rs = accepted_lines Rest n (lines bs) rs p.1 in
    record {
      reads = record { leads = a.leads; writable = a.writable; text = text_is_its_lines bs good.1 ∙ a.text };
      short = good.0;
    }

taken_text : (n : ℕ) (rs : List Record) → IsScript rs (script_of rs) → script n (script_of rs) ≡ Ok rs
taken_text n rs is =
    let ends : finished (script_of rs) ≡ true = ap finished (script_of_lines rs) ∙ finished_joined (map content_of rs) in
    rw (whole_passes n (script_of rs) is.short ends, lines_of_script rs is.reads.writable) (taken_lines Rest n rs is.reads.leads is.reads.writable)

pub taken : (n : ℕ) (bs : List ℕ) (rs : List Record) → IsScript rs bs → script n bs ≡ Ok rs
taken n bs rs is =
    let itself : IsScript rs (script_of rs) = record { reads = record { leads = is.reads.leads; writable = is.reads.writable; text = refl }; short = subst (λ (x : List ℕ). length x ≤ max_text) is.reads.text is.short } in
    ap (script n) is.reads.text ∙ taken_text n rs itself

-- a fault of a line is not a fault of the text as a whole
placed : (n : ℕ) (bs : List ℕ) (e : RecordFault) → IsWhole bs → FaultyLine n bs e → TextFault n bs e
placed n bs (Field f) w l = (w, l)
placed n bs TooLong w l = absurd l.fault
placed n bs (Unfinished i) w l = absurd l.fault
placed n bs (UnknownWord i) w l = (w, l)
placed n bs (FieldCount i) w l = (w, l)
placed n bs (NotPermitted i) w l = (w, l)
placed n bs (EndsInSession i) w l = absurd l.fault
placed n bs (Start c i) w l = (w, l)
placed n bs (MissingLine i) w l = (w, l)
placed n bs (UnknownMap i) w l = (w, l)
placed n bs CellsTooShort w l = (w, l)

fault_of_lines : (n : ℕ) (bs : List ℕ) (e : RecordFault) → IsWhole bs → FaultFrom Rest n (lines bs) e → TextFault n bs e
fault_of_lines n bs e w (inl f) =
    placed n bs e w (record {
      records = f.records;
      state = f.state;
      front = script_of f.records;
      line = f.line;
      below = f.below;
      text = text_is_its_lines bs w.1 ∙ f.text;
      reads = record { leads = f.leads; writable = f.writable; text = refl };
      one_line = f.one_line;
      fault = f.fault;
    })
fault_of_lines n bs e w (inr o) =
    let i : ℕ = n + length o.records in
    subst (TextFault n bs) (sym o.fault) (w, (o.records, record { leads = o.leads; writable = o.writable; text = text_is_its_lines bs w.1 ∙ o.text }, refl))

-- the whole text is wrong, or its lines are
fault_of_whole : (n : ℕ) (bs : List ℕ) (e : RecordFault) → whole n bs ≡ Err e → TextFault n bs e
fault_of_whole n bs e is = elim (whole_refused n bs e is) [
  | inl l ↦ subst (TextFault n bs) (sym l.0) l.1
  | inr u ↦ subst (TextFault n bs) (sym u.is) (u.short, u.unended, refl)
]

fault_by : (n : ℕ) (bs : List ℕ) (e : RecordFault) (a : Result Unit RecordFault) → whole n bs ≡ a → (a >>= λ _. records_from Rest n (lines bs)) ≡ Err e → TextFault n bs e
fault_by n bs e (Err d) a-is is = let same : d ≡ e = cc (is) in fault_of_whole n bs e (a-is ∙ ap Err same)
fault_by n bs e (Ok u) a-is is = fault_of_lines n bs e (whole_accepted n bs a-is) (fault_lines Rest n (lines bs) e (lines_free bs) is)

pub fault : (n : ℕ) (bs : List ℕ) (e : RecordFault) → script n bs ≡ Err e → TextFault n bs e
fault n bs e is = fault_by n bs e (whole n bs) refl is

-- the same for the number of records
counted_at : (n : ℕ) (bs : List ℕ) (a : Result (List Record) RecordFault) → script n bs ≡ a → IfOk (count_of a) (λ count. (rs : List Record) × IsScript rs bs × (count ≡ length rs))
counted_at n bs (Ok rs) is = (rs, accepted n bs rs is, refl)
counted_at n bs (Err e) is = tt

pub accepted_count : (n : ℕ) (bs : List ℕ) → IfOk (count_of (script n bs)) (λ count. (rs : List Record) × IsScript rs bs × (count ≡ length rs))
accepted_count n bs = counted_at n bs (script n bs) refl

-- written records are read as themselves, however long their text is
pub reads_itself : (n : ℕ) (bs : List ℕ) (rs : List Record) → Reads Rest rs Rest bs → records_from Rest n (lines bs) ≡ Ok rs
reads_itself n bs rs is = ap (λ x. records_from Rest n (lines x)) is.text ∙ ap (records_from Rest n) (lines_of_script rs is.writable) ∙ taken_lines Rest n rs is.leads is.writable
