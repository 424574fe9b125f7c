-- The fault of a script is the first. Assumes nothing.
use Rattle.std.proofs.Common.{◌≡◌, ℕ, ◌+◌, List, [], ◌∷◌, ◌++◌, length, flat_map, Ok, Err, Result, arith, refl, ◌∙◌, ap, sym, subst, inl, inr, ◌⊎◌}
use Rattle.std.proofs.lemmas.List.{append_assoc}
use Rattle.std.specs.List.{AllByRecursion}
use Rattle.faults.specs.Results.{◌>>=◌}
use Rattle.faults.specs.declared.record.RecordFault.{RecordFault}
use Rattle.faults.specs.declared.record.RecordFault.TheVariants.{EndsInSession}
use Rattle.text.proofs.Cuts.{Free}
use Rattle.text.proofs.EndedLines.{ended_by_fields}
use Rattle.text.specs.Lines.{is_newline, ended, fields}
use Rattle.scripts.proofs.Judged.{judged_ok, judged_err, IsRecord}
use Rattle.scripts.specs.Judgements.{judged, end_of_text, records_from, in_front}
use Rattle.scripts.specs.Laws.{LineFault}
use Rattle.scripts.specs.Records.{kind_of, fields_of, written, script_of, Writable}
use Rattle.scripts.specs.States.{after, Leads}
use Rattle.scripts.specs.declared.record.Record.{Record}
use Rattle.scripts.specs.declared.state.State.{State}
use Rattle.scripts.specs.declared.state.State.TheVariants.{Rest, Session}

-- records from the state s on, and then a line that is wrong
pub record FaultyFrom (s : State) (n : ℕ) (ls : List (List ℕ)) (e : RecordFault) : Type 0 where
  pub records : List Record
  pub state : State
  pub line : List ℕ
  pub below : List ℕ
  pub leads : Leads s records state
  pub writable : AllByRecursion Writable records
  pub text : flat_map ended ls ≡ script_of records ++ (ended line ++ below)
  pub one_line : Free is_newline line
  pub fault : LineFault state (n + length records) (fields line) e

-- records from the state s on, and an open session at the end
pub record OpenFrom (s : State) (n : ℕ) (ls : List (List ℕ)) (e : RecordFault) : Type 0 where
  pub records : List Record
  pub leads : Leads s records Session
  pub writable : AllByRecursion Writable records
  pub text : flat_map ended ls ≡ script_of records
  pub fault : e ≡ EndsInSession (n + length records)

abbrev pub FaultFrom : State → ℕ → List (List ℕ) → RecordFault → Type 0
FaultFrom s n ls e = FaultyFrom s n ls e ⊎ OpenFrom s n ls e

fault_at_end : (s : State) (n : ℕ) (e : RecordFault) → end_of_text s n ≡ Err e → FaultFrom s n [] e
fault_at_end Rest n e is = absurd cc
fault_at_end Session n e is =
    let here : EndsInSession (n + 0) ≡ EndsInSession n = ap EndsInSession (omega arith) in
    let same : e ≡ EndsInSession (n + 0) = cc in
    inr (record { records = []; leads = refl; writable = tt; text = refl; fault = same })

-- the first line is wrong, or something below it
faulty_first : (s : State) (n : ℕ) (l : List ℕ) (ls : List (List ℕ)) (e : RecordFault) → Free is_newline l → judged s n (fields l) ≡ Err e → FaultyFrom s n (l ∷ ls) e
faulty_first s n l ls e free is =
    let here : n ≡ n + 0 = omega arith in
    record {
      records = [];
      state = s;
      line = l;
      below = flat_map ended ls;
      leads = refl;
      writable = tt;
      text = refl;
      one_line = free;
      fault = subst (λ (k : ℕ). LineFault s k (fields l) e) here (judged_err s n (fields l) e is);
    }

below_first_line : (s : State) (n : ℕ) (l : List ℕ) (ls : List (List ℕ)) (r : Record) (e : RecordFault) → judged s n (fields l) ≡ Ok r → FaultFrom (after s (kind_of r)) (n + 1) ls e → FaultFrom s n (l ∷ ls) e
below_first_line s n l ls r e is (inl f) =
    let a : IsRecord s (fields l) r = judged_ok s n (fields l) r is in
    let place : n + 1 + length f.records ≡ n + length (r ∷ f.records) = omega arith in
    inl (record {
      records = r ∷ f.records;
      state = f.state;
      line = f.line;
      below = f.below;
      leads = (a.permitted, f.leads);
      writable = (a.writable, f.writable);
      text = ap (λ x. x ++ flat_map ended ls) (ended_by_fields l (fields_of r) a.fields) ∙ ap (λ x. written r ++ x) f.text ∙ sym (append_assoc (written r) (script_of f.records) (ended f.line ++ f.below));
      one_line = f.one_line;
      fault = subst (λ (k : ℕ). LineFault f.state k (fields f.line) e) place f.fault;
    })
below_first_line s n l ls r e is (inr o) =
    let a : IsRecord s (fields l) r = judged_ok s n (fields l) r is in
    let place : n + 1 + length o.records ≡ n + length (r ∷ o.records) = omega arith in
    inr (record {
      records = r ∷ o.records;
      leads = (a.permitted, o.leads);
      writable = (a.writable, o.writable);
      text = ap (λ x. x ++ flat_map ended ls) (ended_by_fields l (fields_of r) a.fields) ∙ ap (λ x. written r ++ x) o.text;
      fault = o.fault ∙ ap EndsInSession place;
    })

in_front_err : (r : Record) (a : Result (List Record) RecordFault) (e : RecordFault) → in_front r a ≡ Err e → a ≡ Err e
in_front_err r (Ok more) e is = absurd cc
in_front_err r (Err d) e is = cc

fault_by_first : (s : State) (n : ℕ) (l : List ℕ) (ls : List (List ℕ)) (e : RecordFault) (a : Result Record RecordFault) → Free is_newline l → judged s n (fields l) ≡ a → ((r : Record) → records_from (after s (kind_of r)) (n + 1) ls ≡ Err e → FaultFrom (after s (kind_of r)) (n + 1) ls e) → (a >>= λ r. in_front r (records_from (after s (kind_of r)) (n + 1) ls)) ≡ Err e → FaultFrom s n (l ∷ ls) e
fault_by_first s n l ls e (Ok r) free a-is rest is = below_first_line s n l ls r e a-is (rest r (in_front_err r (records_from (after s (kind_of r)) (n + 1) ls) e is))
fault_by_first s n l ls e (Err d) free a-is rest is = let same : d ≡ e = cc in inl (faulty_first s n l ls e free (a-is ∙ ap Err same))

pub fault_lines : (s : State) (n : ℕ) (ls : List (List ℕ)) (e : RecordFault) → AllByRecursion (Free is_newline) ls → records_from s n ls ≡ Err e → FaultFrom s n ls e
fault_lines s n [] e free is = fault_at_end s n e is
fault_lines s n (l ∷ ls) e free is = fault_by_first s n l ls e (judged s n (fields l)) free.0 refl (λ r below. fault_lines (after s (kind_of r)) (n + 1) ls e free.1 below) is
