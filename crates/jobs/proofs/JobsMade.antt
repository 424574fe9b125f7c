-- Running the records of a job gives the outcome of the job. Assumes nothing.
use Rattle.std.proofs.Common.{◌≡◌, ℕ, ◌*◌, List, length, drop, Ok, Err, sym, ◌∙◌, ap, ap₂}
use Rattle.std.proofs.lemmas.Bool.{eq-eqb}
use Rattle.any_bench.specs.Scenes.{Scene}
use Rattle.bench.specs.Benches.{map_of, start_of, ledger_of}
use Rattle.bench.specs.declared.bench.Bench.{Bench}
use Rattle.faults.specs.Results.{◌>>=◌}
use Rattle.faults.specs.declared.run.RunFault.{RunFault}
use Rattle.lattice.specs.Starts.{phase_of, held}
use Rattle.ledger.specs.Ledgers.{counts, at_opening}
use Rattle.named_maps.specs.Choice.{forward_of, backward_of}
use Rattle.named_maps.specs.declared.named.NamedMap.{NamedMap}
use Rattle.runs.specs.Runs.{first_refused, answer_of, asked, run_answer, run_of, run_scene}
use Rattle.runs.specs.Scenes.{rest_scene}
use Rattle.scripts.specs.Judgements.{script}
use Rattle.scripts.specs.Runs.{risen}
use Rattle.jobs.specs.Answers.{Opens, JobMade}
use Rattle.jobs.specs.Jobs.{Job}
use Rattle.jobs.specs.Outcomes.{first_scene, answer, outcome}
use Rattle.jobs.specs.declared.done.Done.{Done}
use Rattle.jobs.specs.declared.opening.Opening.{Opening}

-- the bench b is opened as the job says, and runs its script
module _ (j : Job) (bs cs rest : List ℕ) (o : Opening) (b : Bench NamedMap) (opens : Opens j bs o) (cells : cs ≡ j.lattice.cells) (map : map_of b ≡ o.map) (start : start_of b ≡ o.start) (ledger : ledger_of b ≡ at_opening) (text : rest ≡ drop o.script_at bs) where
  lattice_is : held (start_of b) cs ≡ j.lattice
  lattice_is = ap₂ held start cells ∙ opens.start

  scene_is : rest_scene b cs ≡ first_scene j
  scene_is = ap₂ (λ x l. record { ledger = x; lattice = l }) ledger lattice_is

  map_is : map_of b ≡ j.map
  map_is = map ∙ opens.map

  asked_is : asked j.lattice o.script_line rest ≡ Ok j.records
  asked_is = rw (eq-eqb (length j.lattice.cells) (j.lattice.width * j.lattice.height) opens.whole) (ap (λ t. risen (script o.script_line t)) text ∙ ap risen opens.script)

  answered : run_answer (forward_of (map_of b)) (backward_of (map_of b)) (rest_scene b cs) o.script_line rest ≡ answer j
  answered =
      ap₂ (λ m s. run_answer (forward_of m) (backward_of m) s o.script_line rest) map_is scene_is
      ∙ ap (λ a. a >>= λ rs. answer_of o.script_line (first_refused (forward_of j.map) (backward_of j.map) (first_scene j) rs) rs) asked_is
      ∙ ap (λ n. answer_of n (first_refused (forward_of j.map) (backward_of j.map) (first_scene j) j.records) j.records) opens.line

  came_to : run_scene (forward_of (map_of b)) (backward_of (map_of b)) (rest_scene b cs) o.script_line rest ≡ outcome j
  came_to =
      ap₂ (λ m s. run_scene (forward_of m) (backward_of m) s o.script_line rest) map_is scene_is
      ∙ ap (run_of (forward_of j.map) (backward_of j.map) (first_scene j)) asked_is

  module _ (b' : Bench NamedMap) (cs' : List ℕ) (after : rest_scene b' cs' ≡ run_scene (forward_of (map_of b)) (backward_of (map_of b)) (rest_scene b cs) o.script_line rest) where
    ended : rest_scene b' cs' ≡ outcome j
    ended = after ∙ came_to

    cells_then : cs' ≡ (outcome j).lattice.cells
    cells_then = ap (λ (s : Scene). s.lattice.cells) ended

    pub job_made : (n : ℕ) (d : Done) → Ok n ≡ run_answer (forward_of (map_of b)) (backward_of (map_of b)) (rest_scene b cs) o.script_line rest → d.made ≡ n → d.start ≡ start_of b' → d.counts ≡ counts (ledger_of b') (phase_of (start_of b')) → JobMade j cs' (Ok d)
    job_made n d is made start' counted =
        let answered' : answer j ≡ Ok d.made = sym (is ∙ answered) ∙ ap Ok (sym made) in
        let held' : held d.start (outcome j).lattice.cells ≡ (outcome j).lattice = ap₂ held start' (sym cells_then) ∙ ap (λ (s : Scene). s.lattice) ended in
        ((answered', held', counted ∙ ap (λ (s : Scene). counts s.ledger s.lattice.phase) ended), cells_then)

    pub job_stopped : (e : RunFault) → Err e ≡ run_answer (forward_of (map_of b)) (backward_of (map_of b)) (rest_scene b cs) o.script_line rest → JobMade j cs' (Err e)
    job_stopped e is = (sym (is ∙ answered), cells_then)
