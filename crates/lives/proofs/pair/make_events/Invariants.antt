-- Both are where the events so far have led, and their reports are recorded.
use Rattle.std.proofs.Common.{◌≡◌, length, take}
use Rattle.any_bench.specs.AnyBenches.{any_map, any_ledger, any_handed}
use Rattle.lattice.specs.Starts.{held}
use Rattle.lives.proofs.Along.{Along}
use Rattle.lives.proofs.pair.make_events.Given as goal
use Rattle.lives.specs.Mirrors.{bench_map}
use Rattle.lives.specs.Seen.{Recorded}

abbrev pub invariant-loop-k : goal.invariant-loop-k
invariant-loop-k g l =
    (any_map l.bench ≡ bench_map l.map) × (any_map l.image ≡ l.map) × (l.second ≡ l.initial.second)
    × Along (g.M.Map.forward (bench_map l.map)) (g.M.Map.backward (bench_map l.map)) (held l.fn.start l.initial.cells) (length l.initial.second) (take l.k l.events)
    (any_ledger l.bench) (any_handed l.bench l.cells) (any_ledger l.image) (any_handed l.image l.mirror)
    × Recorded (g.M.Map.forward (bench_map l.map)) (g.M.Map.backward (bench_map l.map)) (held l.fn.start l.initial.cells) (length l.initial.second) (take l.k l.events) l.initial.seen l.seen
