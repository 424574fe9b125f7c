-- Step counts.
--     count_of c             the number that the step count c holds
--     count_or_refusal r     the number that the step count r holds; or why there is none, as r says
use Rattle.std.specs.Prelude.{ℤ, Result, Ok, Err}
use Rattle.actions.specs.declared.step_count.StepCount.{StepCount}
use Rattle.faults.specs.declared.run.BenchRefusal.{BenchRefusal}

abbrev pub count_of : StepCount → ℤ
count_of c = c.count

abbrev pub count_or_refusal : Result StepCount BenchRefusal → Result ℤ BenchRefusal
count_or_refusal (Ok c) = Ok (count_of c)
count_or_refusal (Err e) = Err e
