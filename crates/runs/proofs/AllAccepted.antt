-- Records of which none is refused. Assumes nothing.
--     Goes f g s rs t     the records rs lead from s to t, and all are accepted
use Rattle.std.proofs.Common.{◌≡◌, ℕ, List, [], ◌∷◌, None, Option, refl, ap, ◌∙◌}
use Rattle.any_bench.specs.Scenes.{Scene, answered_at, after_call, after_calls}
use Rattle.any_bench.specs.declared.answer.Answer.{Answer}
use Rattle.any_bench.specs.declared.answer.Answer.TheVariants.{Skipped, Given, Standing, Refused}
use Rattle.faults.specs.declared.run.BenchRefusal.{BenchRefusal}
use Rattle.lattice.specs.Lattice.{Lattice}
use Rattle.runs.specs.Runs.{one_later, here_or, first_refused}
use Rattle.scripts.specs.declared.record.Record.{Record}

pub record Goes (f g : Lattice → Lattice) (s : Scene) (rs : List Record) (t : Scene) : Type 0 where
  pub none : first_refused f g s rs ≡ None
  pub scene : after_calls f g s rs ≡ t

pub goes_nil : (f g : Lattice → Lattice) (s : Scene) → Goes f g s [] s
goes_nil f g s = record { none = refl; scene = refl }

none_here : (a : Answer) (d : Option (ℕ × BenchRefusal)) → ((e : BenchRefusal) → a ≡ Refused e → ⊥) → d ≡ None → here_or a d ≡ None
none_here Skipped d taken none = ap one_later none
none_here Given d taken none = ap one_later none
none_here (Standing n) d taken none = ap one_later none
none_here (Refused e) d taken none = absurd (taken e refl)

pub goes_cons : (f g : Lattice → Lattice) (s t u : Scene) (r : Record) (rs : List Record) → ((e : BenchRefusal) → answered_at r s ≡ Refused e → ⊥) → after_call f g r s ≡ t → Goes f g t rs u → Goes f g s (r ∷ rs) u
goes_cons f g s t u r rs taken made rest = record {
  none = none_here (answered_at r s) (first_refused f g (after_call f g r s) rs) taken (ap (λ v. first_refused f g v rs) made ∙ rest.none);
  scene = ap (λ v. after_calls f g v rs) made ∙ rest.scene;
}
