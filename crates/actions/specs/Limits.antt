-- The limit of a step.
--     max_step            the largest count of a step, either way
--     is_step_count z     z can be the count of a step
use Rattle.std.specs.Prelude.{ℕ, ◌&&◌, Bool, ℤ, nat_lt, nat_le, unsigned_abs}

abbrev pub max_step : ℕ
max_step = 10000

abbrev pub is_step_count : ℤ → Bool
is_step_count z = nat_lt 0 (unsigned_abs z) && nat_le (unsigned_abs z) max_step
