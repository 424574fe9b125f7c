-- Refusals of a count.
--     count_number e    the number of the cause e
--     Counted n r       making a count of n returns r
use Rattle.std.specs.Prelude.{◌≡◌, ℕ, ◌<◌, ◌≤◌, Ok, Err, Result}
use Rattle.layers.specs.Counts.{number_of}
use Rattle.layers.specs.Limits.{max_count}
use Rattle.layers.specs.declared.count.Count.{Count}
use Rattle.layers.specs.declared.refusal.CountRefusal.{CountRefusal}
use Rattle.layers.specs.declared.refusal.CountRefusal.TheVariants.{TooLarge}

abbrev pub count_number : CountRefusal → ℕ
count_number TooLarge = 8

abbrev pub Counted : ℕ → Result Count CountRefusal → Type 0
Counted n (Ok c) = (n ≤ max_count) × (number_of c ≡ n)
Counted n (Err TooLarge) = max_count < n
