-- The records that are left come to what all of them come to.
use Rattle.std.proofs.Common.{◌≡◌}
use Rattle.any_bench.specs.AnyBenches.{any_map}
use Rattle.any_bench.specs.Scenes.{scene_of}
use Rattle.runs.proofs.RunSteps.{LeftToRun}
use Rattle.runs.proofs.run.make_records.Given as goal

abbrev pub invariant-loop-made : goal.invariant-loop-made
invariant-loop-made g l =
    (any_map l.bench ≡ any_map l.fn.bench)
    × LeftToRun (g.M.Map.forward (any_map l.fn.bench)) (g.M.Map.backward (any_map l.fn.bench)) l.fn.records (scene_of l.fn.bench l.initial.cells) l.records (scene_of l.bench l.cells) l.made l.fn.count
