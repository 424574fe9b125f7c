-- The invariant of a rule table.
--     AllBits es    each of the entries is 0 or 1
use Rattle.std.specs.Prelude.{ℕ, ◌<◌, List, slice_index}
use Rattle.rules.specs.Limits.{neighbourhoods}

abbrev pub AllBits : List ℕ → Type 0
AllBits es = (n : ℕ) → n < neighbourhoods → slice_index es n < 2
