-- The outcome of a job.
--     first_scene j     what is held before the first record: an empty ledger, and the lattice of the job j
--     answer j          the result of running its records: how many were made, or the fault of the first that is refused
--     outcome j         what is held in the end, after all records or those before the first refused one; a session that the refusal interrupts leaves
--                       no flip
use Rattle.std.specs.Prelude.{ℕ, Result, Ok}
use Rattle.any_bench.specs.Scenes.{Scene}
use Rattle.faults.specs.declared.run.RunFault.{RunFault}
use Rattle.ledger.specs.Ledgers.{at_opening}
use Rattle.named_maps.specs.Choice.{forward_of, backward_of}
use Rattle.runs.specs.Runs.{first_refused, answer_of, run_of}
use Rattle.jobs.specs.Jobs.{Job, script_line}

abbrev pub first_scene : Job → Scene
first_scene j = record { ledger = at_opening; lattice = j.lattice }

abbrev pub answer : Job → Result ℕ RunFault
answer j = answer_of (script_line j.lattice) (first_refused (forward_of j.map) (backward_of j.map) (first_scene j) j.records) j.records

abbrev pub outcome : Job → Scene
outcome j = run_of (forward_of j.map) (backward_of j.map) (first_scene j) (Ok j.records)
