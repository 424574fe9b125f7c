-- A run, record by record. Cited by inner functions alone. Here f and g are the two functions of the map.
--     fault_in a n                  the fault of the run, if a is the answer to the record on line n
--     unless_refused a x y          x, or y if the answer a is a refusal
--     answer_after a n x            x, or the fault of line n if the answer a is a refusal
--     ran f g s rs                  s after the records rs, up to the first that is refused
--     ran_answer f g n k s rs       the result then, if rs begins on line n and k records were made before
use Rattle.std.specs.Prelude.{ℕ, ◌+◌, List, [], ◌∷◌, Option, Some, None, Result, Ok, Err}
use Rattle.any_bench.specs.Scenes.{Scene, answered_at, after_call}
use Rattle.any_bench.specs.declared.answer.Answer.{Answer}
use Rattle.any_bench.specs.declared.answer.Answer.TheVariants.{Refused}
use Rattle.faults.specs.declared.run.RunFault.{RunFault}
use Rattle.faults.specs.declared.run.RunFault.TheVariants.{Bench}
use Rattle.lattice.specs.Lattice.{Lattice}
use Rattle.scripts.specs.declared.record.Record.{Record}

abbrev pub fault_in : Answer → ℕ → Option RunFault
fault_in (Refused e) n = Some (Bench e n)
fault_in _ n = None

abbrev pub unless_refused : {A : Type 0} → Answer → A → A → A
unless_refused (Refused e) x y = y
unless_refused _ x y = x

abbrev pub ran : (Lattice → Lattice) → (Lattice → Lattice) → Scene → List Record → Scene
ran f g s [] = s
ran f g s (r ∷ rs) = unless_refused (answered_at r s) (ran f g (after_call f g r s) rs) s

abbrev pub answer_after : Answer → ℕ → Result ℕ RunFault → Result ℕ RunFault
answer_after (Refused e) n a = Err (Bench e n)
answer_after _ n a = a

abbrev pub ran_answer : (Lattice → Lattice) → (Lattice → Lattice) → ℕ → ℕ → Scene → List Record → Result ℕ RunFault
ran_answer f g n k s [] = Ok k
ran_answer f g n k s (r ∷ rs) = answer_after (answered_at r s) n (ran_answer f g (n + 1) (k + 1) (after_call f g r s) rs)
