-- Records after others. Assumes nothing.
use Rattle.std.proofs.Common.{List, [], ◌∷◌, ◌++◌, subst, sym}
use Rattle.std.specs.List.{AllByRecursion}
use Rattle.scripts.specs.Records.{kind_of, Writable}
use Rattle.scripts.specs.States.{after, Leads}
use Rattle.scripts.specs.declared.record.Record.{Record}
use Rattle.scripts.specs.declared.state.State.{State}

pub leads_append : (s t u : State) (rs qs : List Record) → Leads s rs t → Leads t qs u → Leads s (rs ++ qs) u
leads_append s t u [] qs here there = subst (λ x. Leads x qs u) (sym here) there
leads_append s t u (r ∷ rs) qs here there = (here.0, leads_append (after s (kind_of r)) t u rs qs here.1 there)

pub writable_append : (rs qs : List Record) → AllByRecursion Writable rs → AllByRecursion Writable qs → AllByRecursion Writable (rs ++ qs)
writable_append [] qs here there = there
writable_append (r ∷ rs) qs here there = (here.0, writable_append rs qs here.1 there)
