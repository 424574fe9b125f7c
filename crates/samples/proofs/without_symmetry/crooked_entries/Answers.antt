use Rattle.std.proofs.Common.{rules}
use Rattle.std.proofs.lemmas.List.FromFn.{fill_by_all}
use Rattle.samples.specs.WithoutSymmetry.{crooked}
use Rattle.samples.proofs.without_symmetry.crooked_entries.Goals as goal

pub returns : goal.returns
returns c =
    let made = c.from_fn.ensures.items in
    fill_by_all crooked c.from_fn.result 512 0 made.long (λ k h. let call = (made.at k 0 h).2 in search rules)
