use Rattle.std.proofs.Common.{◌≡◌, length, rules, arith}
use Rattle.rules.proofs.Entries.{entries_answer, entries_bits}
use Rattle.rules.proofs.Fills.{bits_fill}
use Rattle.samples.specs.WithoutSymmetry.{crooked}
use Rattle.samples.proofs.without_symmetry.crooked.Goals as goal

pub unwrap-requires : goal.unwrap-requires
unwrap-requires c =
    let es = c.crooked_entries.result in
    let long : length es ≡ 512 = search rules in
    let bits = entries_bits crooked es (λ n h. omega arith) (entries_answer crooked es c.crooked_entries.ensures) in
    bits_fill es _ _ c.fill.result long (λ k h. bits k (omega arith)) c.fill.ensures
