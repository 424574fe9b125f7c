-- One list undoes another, by a test that is computed. Assumes nothing.
use Rattle.std.proofs.Common.{◌≡◌, ℕ, zero, suc, ◌<◌, Bool, true, ◌&&◌, eqb, ltb, List, get_or, ap, ◌∙◌, ⊎_elim, arith}
use Rattle.std.proofs.lemmas.Bool.{cases_eq, and_parts, eqb-true, ltb-true}
use Rattle.tables.specs.Inverses.{InvertedBy}

-- the test passes at every number below n
abbrev pub all_pass : (ℕ → Bool) → ℕ → Bool
all_pass test zero = true
all_pass test (suc n) = test n && all_pass test n

each_passes : (test : ℕ → Bool) (n : ℕ) → all_pass test n ≡ true → (v : ℕ) → v < n → test v ≡ true
each_passes test zero all v l = absurd (omega arith)
each_passes test (suc n) all v l =
    let parts = and_parts (test n) (all_pass test n) all in
    ⊎_elim (λ e. ap test e ∙ parts.0) (λ ne. each_passes test n parts.1 v (omega arith)) (cases_eq v n)

abbrev pub undoes_at : ℕ → List ℕ → List ℕ → ℕ → Bool
undoes_at n t u v = ltb (get_or t v 0) n && eqb (get_or u (get_or t v 0) 0) v

pub inverted_by_test : (n : ℕ) (t u : List ℕ) → all_pass (undoes_at n t u) n ≡ true → InvertedBy n t u
inverted_by_test n t u all v l =
    let parts = and_parts (ltb (get_or t v 0) n) (eqb (get_or u (get_or t v 0) 0) v) (each_passes (undoes_at n t u) n all v l) in
    (ltb-true (get_or t v 0) n parts.0, eqb-true (get_or u (get_or t v 0) 0) v parts.1)
