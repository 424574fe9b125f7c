-- The run of a script on what is held. Here f and g are the two functions of the map.
--     first_refused f g s rs     the index of the first of the records rs that is refused, from 0, with its cause; none if all are accepted
--     one_later d                d with its index one higher, for a list with one more record in first place
--     here_or a d                the first refusal of a list whose first record has the answer a and whose other records have the first refusal d
--     made_of d rs               the records of rs that are made, where d is the first that is refused
--     answer_of n d rs           the result then, if rs begins on line n: how many records were made, or the fault
--     closed_if t f g s          s, after Clear and Close if the state t is in session
--     at_rest f g s              the same for the state of s itself: no session is open any more
--     asked l n bs               the records of the text bs, which begins on line n; or why none is made: l is not whole, or the text has a fault
--     run_answer f g s n bs      the result of running bs
--     run_of f g s a             s after running the records a; s as it was, if a is a fault
--     run_scene f g s n bs       s after running bs: at rest, and without the flips of a session that a refusal interrupted
use Rattle.std.specs.Prelude.{ℕ, suc, ◌+◌, ◌*◌, ◌==◌, List, [], ◌∷◌, length, take, Option, Some, None, Result, Ok, Err, if◌then◌else◌}
use Rattle.any_bench.specs.Scenes.{Scene, answered_at, after_call, after_calls}
use Rattle.any_bench.specs.declared.answer.Answer.{Answer}
use Rattle.any_bench.specs.declared.answer.Answer.TheVariants.{Refused}
use Rattle.faults.specs.Results.{◌>>=◌}
use Rattle.faults.specs.declared.run.BenchRefusal.{BenchRefusal}
use Rattle.faults.specs.declared.run.BenchRefusal.TheVariants.{Cells}
use Rattle.faults.specs.declared.run.RunFault.{RunFault}
use Rattle.faults.specs.declared.run.RunFault.TheVariants.{Bench}
use Rattle.lattice.specs.Lattice.{Lattice}
use Rattle.scripts.specs.Judgements.{script}
use Rattle.scripts.specs.Runs.{risen}
use Rattle.scripts.specs.declared.record.Record.{Record}
use Rattle.scripts.specs.declared.record.Record.TheVariants.{Clear, Close}
use Rattle.scripts.specs.declared.state.State.{State}
use Rattle.scripts.specs.declared.state.State.TheVariants.{Rest, Session}

abbrev pub one_later : Option (ℕ × BenchRefusal) → Option (ℕ × BenchRefusal)
one_later None = None
one_later (Some p) = Some (suc p.0, p.1)

abbrev pub here_or : Answer → Option (ℕ × BenchRefusal) → Option (ℕ × BenchRefusal)
here_or (Refused e) later = Some (0, e)
here_or _ later = one_later later

abbrev pub first_refused : (Lattice → Lattice) → (Lattice → Lattice) → Scene → List Record → Option (ℕ × BenchRefusal)
first_refused f g s [] = None
first_refused f g s (r ∷ rs) = here_or (answered_at r s) (first_refused f g (after_call f g r s) rs)

abbrev pub made_of : Option (ℕ × BenchRefusal) → List Record → List Record
made_of None rs = rs
made_of (Some p) rs = take p.0 rs

abbrev pub answer_of : ℕ → Option (ℕ × BenchRefusal) → List Record → Result ℕ RunFault
answer_of n None rs = Ok (length rs)
answer_of n (Some p) rs = Err (Bench p.1 (n + p.0))

abbrev pub closed_if : State → (Lattice → Lattice) → (Lattice → Lattice) → Scene → Scene
closed_if Rest f g s = s
closed_if Session f g s = after_call f g Close (after_call f g Clear s)

abbrev pub at_rest : (Lattice → Lattice) → (Lattice → Lattice) → Scene → Scene
at_rest f g s = closed_if s.ledger.state f g s

abbrev pub asked : Lattice → ℕ → List ℕ → Result (List Record) RunFault
asked l n bs = if length l.cells == l.width * l.height then risen (script n bs) else Err (Bench Cells 0)

abbrev pub run_answer : (Lattice → Lattice) → (Lattice → Lattice) → Scene → ℕ → List ℕ → Result ℕ RunFault
run_answer f g s n bs = asked s.lattice n bs >>= λ rs. answer_of n (first_refused f g s rs) rs

abbrev pub run_of : (Lattice → Lattice) → (Lattice → Lattice) → Scene → Result (List Record) RunFault → Scene
run_of f g s (Ok rs) = at_rest f g (after_calls f g s (made_of (first_refused f g s rs) rs))
run_of f g s (Err e) = s

abbrev pub run_scene : (Lattice → Lattice) → (Lattice → Lattice) → Scene → ℕ → List ℕ → Scene
run_scene f g s n bs = run_of f g s (asked s.lattice n bs)
