-- The first record that is refused: those before it are accepted. Assumes nothing.
use Rattle.std.proofs.Common.{◌≡◌, ℕ, suc, ◌+◌, List, [], ◌∷◌, ◌++◌, length, None, Some, Option, Err, arith, refl, sym, ◌∙◌, ap}
use Rattle.any_bench.specs.Scenes.{Scene, answered_at, after_call, after_calls}
use Rattle.any_bench.specs.declared.answer.Answer.{Answer}
use Rattle.any_bench.specs.declared.answer.Answer.TheVariants.{Skipped, Given, Standing, Refused}
use Rattle.faults.specs.declared.run.BenchRefusal.{BenchRefusal}
use Rattle.faults.specs.declared.run.RunFault.TheVariants.{Bench}
use Rattle.lattice.specs.Lattice.{Lattice}
use Rattle.runs.specs.Runs.{one_later, here_or, first_refused, answer_of}
use Rattle.scripts.specs.declared.record.Record.{Record}

-- records that are accepted, and then one that is refused, after n others
pub record Split (f g : Lattice → Lattice) (s : Scene) (rs : List Record) (n : ℕ) (c : BenchRefusal) : Type 0 where
  pub made : List Record
  pub next : Record
  pub more : List Record
  pub records : rs ≡ made ++ (next ∷ more)
  pub count : n ≡ length made
  pub accepted : first_refused f g s made ≡ None
  pub refused : answered_at next (after_calls f g s made) ≡ Refused c

later : (d : Option (ℕ × BenchRefusal)) (n : ℕ) (c : BenchRefusal) → one_later d ≡ Some (n, c) → (m : ℕ) × (d ≡ Some (m, c)) × (n ≡ suc m)
later None n c is = absurd (cc (is))
later (Some p) n c is =
    let pair : ◌≡◌ {A = ℕ × BenchRefusal} (suc p.0, p.1) (n, c) = cc (is) in
    (p.0, ap (λ (e : BenchRefusal). Some (p.0, e)) (ap (λ (x : ℕ × BenchRefusal). x.1) pair), sym (ap (λ (x : ℕ × BenchRefusal). x.0) pair))

earlier : (d : Option (ℕ × BenchRefusal)) → one_later d ≡ None → d ≡ None
earlier None is = refl
earlier (Some p) is = absurd (cc (is))

module _ (f g : Lattice → Lattice) where
  refused_here : (s : Scene) (r : Record) (rs : List Record) (n : ℕ) (c e : BenchRefusal) → answered_at r s ≡ Refused e → ◌≡◌ {A = Option (ℕ × BenchRefusal)} (Some (0, e)) (Some (n, c)) → Split f g s (r ∷ rs) n c
  refused_here s r rs n c e answered is =
      let pair : ◌≡◌ {A = ℕ × BenchRefusal} (0, e) (n, c) = cc (is) in
      let place : n ≡ 0 = sym (ap (λ (x : ℕ × BenchRefusal). x.0) pair) in
      let same : e ≡ c = ap (λ (x : ℕ × BenchRefusal). x.1) pair in
      record { made = []; next = r; more = rs; records = refl; count = place; accepted = refl; refused = answered ∙ ap Refused same }

  refused_later : (s : Scene) (r : Record) (rs : List Record) (n m : ℕ) (c : BenchRefusal) → ((d : Option (ℕ × BenchRefusal)) → here_or (answered_at r s) d ≡ one_later d) → n ≡ suc m → Split f g (after_call f g r s) rs m c → Split f g s (r ∷ rs) n c
  refused_later s r rs n m c taken count below = record {
    made = r ∷ below.made;
    next = below.next;
    more = below.more;
    records = ap (λ x. r ∷ x) below.records;
    count = omega (arith, count, below.count);
    accepted = taken (first_refused f g (after_call f g r s) below.made) ∙ ap one_later below.accepted;
    refused = below.refused;
  }

  split_at : (s : Scene) (r : Record) (rs : List Record) (n : ℕ) (c : BenchRefusal) (a : Answer) → answered_at r s ≡ a → ((m : ℕ) → first_refused f g (after_call f g r s) rs ≡ Some (m, c) → Split f g (after_call f g r s) rs m c) → here_or a (first_refused f g (after_call f g r s) rs) ≡ Some (n, c) → Split f g s (r ∷ rs) n c
  split_at s r rs n c (Refused e) answered below is = refused_here s r rs n c e answered is
  split_at s r rs n c Skipped answered below is = let l = later (first_refused f g (after_call f g r s) rs) n c is in refused_later s r rs n l.0 c (λ d. ap (λ a. here_or a d) answered) l.2 (below l.0 l.1)
  split_at s r rs n c Given answered below is = let l = later (first_refused f g (after_call f g r s) rs) n c is in refused_later s r rs n l.0 c (λ d. ap (λ a. here_or a d) answered) l.2 (below l.0 l.1)
  split_at s r rs n c (Standing k) answered below is = let l = later (first_refused f g (after_call f g r s) rs) n c is in refused_later s r rs n l.0 c (λ d. ap (λ a. here_or a d) answered) l.2 (below l.0 l.1)

  pub split : (s : Scene) (rs : List Record) (n : ℕ) (c : BenchRefusal) → first_refused f g s rs ≡ Some (n, c) → Split f g s rs n c
  split s [] n c is = absurd (cc (is))
  split s (r ∷ rs) n c is = split_at s r rs n c (answered_at r s) refl (λ m below. split (after_call f g r s) rs m c below) is

  -- the converse
  accepted_at : (a : Answer) (d : Option (ℕ × BenchRefusal)) → here_or a d ≡ None → ((b : Option (ℕ × BenchRefusal)) → here_or a b ≡ one_later b) × (d ≡ None)
  accepted_at (Refused e) d is = absurd (cc (is))
  accepted_at Skipped d is = (λ b. refl, earlier d is)
  accepted_at Given d is = (λ b. refl, earlier d is)
  accepted_at (Standing k) d is = (λ b. refl, earlier d is)

  pub joined : (s : Scene) (made : List Record) (next : Record) (more : List Record) (c : BenchRefusal) → first_refused f g s made ≡ None → answered_at next (after_calls f g s made) ≡ Refused c → first_refused f g s (made ++ (next ∷ more)) ≡ Some (length made, c)
  joined s [] next more c accepted refused = ap (λ a. here_or a (first_refused f g (after_call f g next s) more)) refused
  joined s (r ∷ made) next more c accepted refused =
      let here = accepted_at (answered_at r s) (first_refused f g (after_call f g r s) made) accepted in
      let below : first_refused f g (after_call f g r s) (made ++ (next ∷ more)) ≡ Some (length made, c) = joined (after_call f g r s) made next more c here.1 refused in
      let count : suc (length made) ≡ length (r ∷ made) = omega arith in
      here.0 (first_refused f g (after_call f g r s) (made ++ (next ∷ more))) ∙ ap one_later below ∙ ap (λ k. Some (k, c)) count

-- what is answered then
pub answer_was : (n : ℕ) (d : Option (ℕ × BenchRefusal)) (rs : List Record) (c : BenchRefusal) (i : ℕ) → answer_of n d rs ≡ Err (Bench c i) → (m : ℕ) × (d ≡ Some (m, c)) × (i ≡ n + m)
answer_was n None rs c i is = absurd (cc (is))
answer_was n (Some p) rs c i is = let same : p.1 ≡ c = cc (is) in (p.0, ap (λ (e : BenchRefusal). Some (p.0, e)) same, cc (is))
