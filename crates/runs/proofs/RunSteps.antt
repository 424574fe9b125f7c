-- A run, by the records that are left. Assumes nothing.
--     LeftToRun f g r s q t k n     k of the n records of r were made and led from s to t; those left in q come to what all of r come to
use Rattle.std.proofs.Common.{◌≡◌, ℕ, ◌+◌, List, ◌∷◌, Some, Ok, Result, length, refl, sym, ap, ap₂, ◌∙◌, arith}
use Rattle.any_bench.proofs.Refused.{refused_leaves}
use Rattle.any_bench.specs.Scenes.{Scene, answered_at, after_call}
use Rattle.any_bench.specs.declared.answer.Answer.{Answer}
use Rattle.any_bench.specs.declared.answer.Answer.TheVariants.{Skipped, Given, Standing, Refused}
use Rattle.faults.specs.declared.record.RecordFault.{RecordFault}
use Rattle.faults.specs.declared.run.BenchRefusal.{BenchRefusal}
use Rattle.faults.specs.declared.run.RunFault.{RunFault}
use Rattle.faults.specs.declared.run.RunFault.TheVariants.{Bench}
use Rattle.lattice.specs.Lattice.{Lattice}
use Rattle.ledger.specs.Ledgers.{Ledger}
use Rattle.runs.specs.Steps.{fault_in, unless_refused, ran, answer_after, ran_answer}
use Rattle.scripts.proofs.ScriptLines.{in_front_ok}
use Rattle.scripts.specs.Reading.{left_of, reader_of, LeftAfter, MovedBy}
use Rattle.scripts.specs.declared.record.Record.{Record}
use Rattle.scripts.specs.declared.records.Records.{Records}
use Rattle.text.specs.Readers.{line_of}

-- the records that the reader q has left
pub record Left (f g : Lattice → Lattice) (r : Records) (all : List Record) (s : Scene) (q : Records) (t : Scene) (k n : ℕ) : Type 0 where
  pub records : List Record
  pub left : left_of q ≡ Ok records
  pub count : k + length records ≡ n
  pub scene : ran f g s all ≡ ran f g t records
  pub answer : ran_answer f g (line_of (reader_of r)) 0 s all ≡ ran_answer f g (line_of (reader_of q)) k t records

abbrev pub LeftToRun : (Lattice → Lattice) → (Lattice → Lattice) → Records → Scene → Records → Scene → ℕ → ℕ → Type 0
LeftToRun f g r s q t k n = (all : List Record) → left_of r ≡ Ok all → length all ≡ n → Left f g r all s q t k n

pub same_records : (a : Result (List Record) RecordFault) (x y : List Record) → a ≡ Ok x → a ≡ Ok y → x ≡ y
same_records a x y e f = cc

pub called : {led led' : Ledger} {l l' : Lattice} → led ≡ led' → l ≡ l' → ◌≡◌ {A = Scene} (record { ledger = led; lattice = l }) (record { ledger = led'; lattice = l' })
called e f = ap₂ (λ x y. record { ledger = x; lattice = y }) e f

-- which answers are faults
pub refused_by : (a : Answer) (n : ℕ) (x : RunFault) → fault_in a n ≡ Some x → (e : BenchRefusal) × (a ≡ Refused e) × (x ≡ Bench e n)
refused_by (Refused e) n x h = (e, refl, cc)
refused_by Skipped n x h = absurd cc
refused_by Given n x h = absurd cc
refused_by (Standing k) n x h = absurd cc

pub taken_by : (a : Answer) (n : ℕ) → ((x : RunFault) → fault_in a n ≡ Some x → ⊥) → (e : BenchRefusal) → a ≡ Refused e → ⊥
taken_by (Refused d) n none e is = absurd (none (Bench d n) refl)
taken_by Skipped n none e is = absurd cc
taken_by Given n none e is = absurd cc
taken_by (Standing k) n none e is = absurd cc

not_refused : {A : Type 0} (a : Answer) (x y : A) → ((e : BenchRefusal) → a ≡ Refused e → ⊥) → unless_refused a x y ≡ x
not_refused Skipped x y h = refl
not_refused Given x y h = refl
not_refused (Standing n) x y h = refl
not_refused (Refused e) x y h = absurd (h e refl)

not_refused_answer : (a : Answer) (n : ℕ) (x : Result ℕ RunFault) → ((e : BenchRefusal) → a ≡ Refused e → ⊥) → answer_after a n x ≡ x
not_refused_answer Skipped n x h = refl
not_refused_answer Given n x h = refl
not_refused_answer (Standing k) n x h = refl
not_refused_answer (Refused e) n x h = absurd (h e refl)

module _ (f g : Lattice → Lattice) (r : Records) (all : List Record) (s : Scene) (q : Records) (t : Scene) (k n : ℕ) (now : Left f g r all s q t k n) (p : Records) (x : Record) (given : LeftAfter q (Ok (Some x)) p) (moved : MovedBy q (Ok (Some x)) p) where
  rest : (more : List Record) × (left_of p ≡ Ok more) × (now.records ≡ x ∷ more)
  rest = in_front_ok x (left_of p) now.records (sym given ∙ now.left)

  -- the next record is made
  pub one_made : ((e : BenchRefusal) → answered_at x t ≡ Refused e → ⊥) → (u : Scene) → u ≡ after_call f g x t → Left f g r all s p u (k + 1) n
  one_made taken u is =
      let more = rest.0 in
      let len = now.count in
      let split = ap length rest.2 in
      record {
        records = more;
        left = rest.1;
        count = omega arith;
        scene = now.scene ∙ ap (ran f g t) rest.2 ∙ not_refused (answered_at x t) (ran f g (after_call f g x t) more) t taken ∙ ap (λ v. ran f g v more) (sym is);
        answer = now.answer ∙ ap (ran_answer f g (line_of (reader_of q)) k t) rest.2
            ∙ not_refused_answer (answered_at x t) (line_of (reader_of q)) (ran_answer f g (line_of (reader_of q) + 1) (k + 1) (after_call f g x t) more) taken
            ∙ ap₂ (λ v m. ran_answer f g m (k + 1) v more) (sym is) (sym moved.line);
      }

  -- the next record is refused
  pub one_refused : (e : BenchRefusal) → answered_at x t ≡ Refused e → (u : Scene) → u ≡ after_call f g x t → u ≡ ran f g s all
  one_refused e refused u is =
      is ∙ refused_leaves f g x t e refused ∙ ap (λ a. unless_refused a (ran f g (after_call f g x t) rest.0) t) (sym refused) ∙ sym (now.scene ∙ ap (ran f g t) rest.2)
