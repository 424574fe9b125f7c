-- Running record by record is making the records before the first refused one, one after another. Assumes nothing.
use Rattle.std.proofs.Common.{◌≡◌, ℕ, suc, ◌+◌, List, [], ◌∷◌, Some, None, Option, Ok, Err, Result, length, refl, sym, ap, ◌∙◌, arith}
use Rattle.any_bench.specs.Scenes.{Scene, answered_at, after_call, after_calls}
use Rattle.any_bench.specs.declared.answer.Answer.{Answer}
use Rattle.any_bench.specs.declared.answer.Answer.TheVariants.{Skipped, Given, Standing, Refused}
use Rattle.faults.specs.declared.run.BenchRefusal.{BenchRefusal}
use Rattle.faults.specs.declared.run.RunFault.{RunFault}
use Rattle.faults.specs.declared.run.RunFault.TheVariants.{Bench}
use Rattle.lattice.specs.Lattice.{Lattice}
use Rattle.runs.specs.Runs.{one_later, here_or, first_refused, made_of, answer_of}
use Rattle.runs.specs.Steps.{unless_refused, ran, answer_after, ran_answer}
use Rattle.scripts.specs.declared.record.Record.{Record}

module _ (f g : Lattice → Lattice) where
  more_made : (d : Option (ℕ × BenchRefusal)) (r : Record) (rs : List Record) (s : Scene) → after_calls f g s (made_of (one_later d) (r ∷ rs)) ≡ after_calls f g (after_call f g r s) (made_of d rs)
  more_made None r rs s = refl
  more_made (Some p) r rs s = refl

  -- a is the answer to the first record
  one_ran : (a : Answer) (r : Record) (rs : List Record) (s t : Scene) (d : Option (ℕ × BenchRefusal)) → t ≡ after_calls f g (after_call f g r s) (made_of d rs) → unless_refused a t s ≡ after_calls f g s (made_of (here_or a d) (r ∷ rs))
  one_ran (Refused e) r rs s t d h = refl
  one_ran Skipped r rs s t d h = h ∙ sym (more_made d r rs s)
  one_ran Given r rs s t d h = h ∙ sym (more_made d r rs s)
  one_ran (Standing n) r rs s t d h = h ∙ sym (more_made d r rs s)

  pub ran_is : (s : Scene) (rs : List Record) → ran f g s rs ≡ after_calls f g s (made_of (first_refused f g s rs) rs)
  ran_is s [] = refl
  ran_is s (r ∷ rs) = one_ran (answered_at r s) r rs s (ran f g (after_call f g r s) rs) (first_refused f g (after_call f g r s) rs) (ran_is (after_call f g r s) rs)

  -- k records were made before, and rs begins on line n
  later_answer : ℕ → ℕ → Option (ℕ × BenchRefusal) → List Record → Result ℕ RunFault
  later_answer n k None rs = Ok (k + length rs)
  later_answer n k (Some p) rs = Err (Bench p.1 (n + p.0))

  next_answer : (n k : ℕ) (d : Option (ℕ × BenchRefusal)) (r : Record) (rs : List Record) → later_answer (n + 1) (k + 1) d rs ≡ later_answer n k (one_later d) (r ∷ rs)
  unfolding later_answer
  next_answer n k None r rs = let e : k + 1 + length rs ≡ k + suc (length rs) = omega arith in ap Ok e
  next_answer n k (Some p) r rs = let e : n + 1 + p.0 ≡ n + suc p.0 = omega arith in ap (λ m. Err (Bench p.1 m)) e

  one_answered : (a : Answer) (n k : ℕ) (r : Record) (rs : List Record) (d : Option (ℕ × BenchRefusal)) (x : Result ℕ RunFault) → x ≡ later_answer (n + 1) (k + 1) d rs → answer_after a n x ≡ later_answer n k (here_or a d) (r ∷ rs)
  unfolding later_answer
  one_answered (Refused e) n k r rs d x h = let z : n ≡ n + 0 = omega arith in ap (λ m. Err (Bench e m)) z
  one_answered Skipped n k r rs d x h = h ∙ next_answer n k d r rs
  one_answered Given n k r rs d x h = h ∙ next_answer n k d r rs
  one_answered (Standing j) n k r rs d x h = h ∙ next_answer n k d r rs

  later_is : (n k : ℕ) (s : Scene) (rs : List Record) → ran_answer f g n k s rs ≡ later_answer n k (first_refused f g s rs) rs
  unfolding later_answer
  later_is n k s [] = let e : k ≡ k + 0 = omega arith in ap Ok e
  later_is n k s (r ∷ rs) = one_answered (answered_at r s) n k r rs (first_refused f g (after_call f g r s) rs) (ran_answer f g (n + 1) (k + 1) (after_call f g r s) rs) (later_is (n + 1) (k + 1) (after_call f g r s) rs)

  none_before : (n : ℕ) (d : Option (ℕ × BenchRefusal)) (rs : List Record) → later_answer n 0 d rs ≡ answer_of n d rs
  unfolding later_answer
  none_before n None rs = let e : 0 + length rs ≡ length rs = omega arith in ap Ok e
  none_before n (Some p) rs = refl

  pub ran_answer_is : (n : ℕ) (s : Scene) (rs : List Record) → ran_answer f g n 0 s rs ≡ answer_of n (first_refused f g s rs) rs
  ran_answer_is n s rs = later_is n 0 s rs ∙ none_before n (first_refused f g s rs) rs
