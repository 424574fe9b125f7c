-- Refusals of local rules: which cause comes first, and the number of each.
--     rule_number e               the number of the cause e
--     Masked b s r                making a count rule of the masks b and s returns r
--     TableFilled es new same r   a fill with es returns r. The entries are then `new`; if r is a refusal, `same` holds
use Rattle.std.specs.Prelude.{◌≡◌, ℕ, true, false, ◌&&◌, List, length, Ok, Err, Result, ◌≢◌, nat_le}
use Rattle.tables.specs.Refusals.{Below, LargeIn}
use Rattle.rules.specs.Limits.{neighbourhoods, max_mask}
use Rattle.rules.specs.Rules.{birth_of, survival_of}
use Rattle.rules.specs.declared.count.CountRule.{CountRule}
use Rattle.rules.specs.declared.refusal.RuleRefusal.{RuleRefusal}
use Rattle.rules.specs.declared.refusal.RuleRefusal.TheVariants.{Entries, TooLarge, Mask}

abbrev pub rule_number : RuleRefusal → ℕ
rule_number Entries = 4
rule_number TooLarge = 5
rule_number Mask = 7

abbrev pub Masked : ℕ → ℕ → Result CountRule RuleRefusal → Type 0
Masked b s (Ok r) = (nat_le b max_mask && nat_le s max_mask ≡ true) × (birth_of r ≡ b) × (survival_of r ≡ s)
Masked b s (Err e) = (nat_le b max_mask && nat_le s max_mask ≡ false) × (e ≡ Mask)

abbrev pub TableFilled : List ℕ → List ℕ → Type 0 → Result Unit RuleRefusal → Type 0
TableFilled es new same (Ok _) = (length es ≡ neighbourhoods) × Below 2 es × (new ≡ es)
TableFilled es new same (Err Entries) = (length es ≢ neighbourhoods) × same
TableFilled es new same (Err TooLarge) = (length es ≡ neighbourhoods) × LargeIn 2 es × same
TableFilled es new same (Err Mask) = ⊥
