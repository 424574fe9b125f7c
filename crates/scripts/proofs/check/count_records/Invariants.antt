-- The records read so far and those that are left are all records together.
use Rattle.std.proofs.Common.{◌≡◌, ◌+◌, ◌≤◌, length, Ok}
use Rattle.text.specs.Readers.{rest_of}
use Rattle.faults.specs.Results.{◌>>=◌}
use Rattle.scripts.specs.Judgements.{count_of}
use Rattle.scripts.specs.Reading.{reader_of, left_of}
use Rattle.scripts.proofs.check.count_records.Given as goal

abbrev pub invariant-loop-count : goal.invariant-loop-count
invariant-loop-count l = (l.count + length (rest_of (reader_of l.records)) ≤ length l.text) × (count_of (left_of l.initial.records) ≡ (left_of l.records >>= λ rs. Ok (l.count + length rs)))

abbrev pub decreases-loop-count : goal.decreases-loop-count
decreases-loop-count l = length (rest_of (reader_of l.records))
