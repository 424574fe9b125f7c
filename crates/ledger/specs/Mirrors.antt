-- The mirror of a bench: a bench over the reversed map, with the same calls but the opposite step counts.
--     opposite z        -z, within 32 bits: the least number has no opposite there, and stays as it is
--     mirror_call c     the call that the mirror gets where the bench gets c
use Rattle.std.specs.Prelude.{◌^◌, ℤ, neg_ℤ, nat_lt, unsigned_abs, if◌then◌else◌}
use Rattle.scripts.specs.declared.record.Record.{Record}
use Rattle.scripts.specs.declared.record.Record.TheVariants.{Step}

abbrev pub opposite : ℤ → ℤ
opposite z = if nat_lt (unsigned_abs z) (2 ^ 31) then neg_ℤ z else z

abbrev pub mirror_call : Record → Record
mirror_call (Step z) = Step (opposite z)
mirror_call c = c
