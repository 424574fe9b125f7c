-- A fill with 512 bits is not refused. Assumes nothing.
use Rattle.std.proofs.Common.{◌≡◌, List, ℕ, length, refl, arith}
use Rattle.std.specs.Prelude.{Result, Ok, Err, IsOk}
use Rattle.tables.specs.Refusals.{Below}
use Rattle.rules.specs.Limits.{neighbourhoods}
use Rattle.rules.specs.Refusals.{TableFilled}
use Rattle.rules.specs.declared.refusal.RuleRefusal.{RuleRefusal}
use Rattle.rules.specs.declared.refusal.RuleRefusal.TheVariants.{Entries, TooLarge, Mask}

pub bits_fill : (es new : List ℕ) (same : Type 0) (r : Result Unit RuleRefusal) → length es ≡ neighbourhoods → Below 2 es → TableFilled es new same r → IsOk r
bits_fill es new same (Ok _) long bits f = refl
bits_fill es new same (Err Entries) long bits f = absurd (f.0 long)
bits_fill es new same (Err TooLarge) long bits f = absurd (let large = f.1 in let small = bits large.0 large.1 in omega arith)
bits_fill es new same (Err Mask) long bits f = absurd f
