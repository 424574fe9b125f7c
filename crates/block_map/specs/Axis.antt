-- The blocks along one axis. Assumes nothing.
use Rattle.std.specs.Prelude.{◌≡◌, ℕ, ◌<◌, ◌≤◌, ◌⊎◌, ◌==◌, refl}
use Rattle.std.proofs.Common.{sym, ◌∙◌, ap, inl, inr, arith}
use Rattle.std.proofs.lemmas.Bool.Decides.{nat_tests}
use Rattle.std.proofs.lemmas.Bool.{cases_eq, cond-true, cond-false, eq-eqb, ne_eqb}
use Rattle.lattice.specs.Limits.{Side}
use Rattle.lattice.specs.Torus.{after, before}
use Rattle.lattice.proofs.Torus.{after_inside, before_inside, before-after, after-before}
use Rattle.block_map.specs.Blocks.{offset, corner}
use Rattle.block_map.specs.Progress.{IsCorner}

pub offset_cases : (p x : ℕ) → (offset p x ≡ 0) ⊎ (offset p x ≡ 1)
offset_cases p x = go (offset p x) refl
  where
    go : (k : ℕ) → offset p x ≡ k → (offset p x ≡ 0) ⊎ (offset p x ≡ 1)
    go k e = elim (cases_eq k 0) [ inl q ↦ inl (e ∙ q) | inr q ↦ inr (omega arith) ]

module _ (n p : ℕ) (side : Side n) (phase : p ≤ 1) where
  pub offset_after : (x : ℕ) → IsCorner n p x → offset p (after n x) ≡ 1
  offset_after x f = grind (arith, nat_tests)

  pub offset_before : (x : ℕ) → x < n → offset p x ≡ 1 → offset p (before n x) ≡ 0
  offset_before x h o = grind (arith, nat_tests)

  -- the first of a block is its own corner, and the corner of the second is the first
  pub corner_first : (x : ℕ) → offset p x ≡ 0 → corner n p x ≡ x
  corner_first x o = cond-true (offset p x == 0) x (before n x) (eq-eqb (offset p x) 0 o)

  pub corner_second : (x : ℕ) → offset p x ≡ 1 → corner n p x ≡ before n x
  corner_second x o = cond-false (offset p x == 0) x (before n x) (ne_eqb (offset p x) 0 (λ q. omega arith))

  pub corner_after : (x : ℕ) → IsCorner n p x → corner n p (after n x) ≡ x
  corner_after x f = corner_second (after n x) (offset_after x f) ∙ before-after n side x f.0

  pub corner_is : (x : ℕ) → x < n → IsCorner n p (corner n p x)
  corner_is x h = elim (offset_cases p x) [
    | inl o ↦ let c = corner_first x o in (omega arith, ap (offset p) c ∙ o)
    | inr o ↦ let c = corner_second x o in let i = before_inside n side x h in (omega arith, ap (offset p) c ∙ offset_before x h o)
  ]

  pub after_corner : (x : ℕ) → x < n → offset p x ≡ 1 → after n (corner n p x) ≡ x
  after_corner x h o = ap (after n) (corner_second x o) ∙ after-before n side x h

-- X and X' are the two coordinates of a block
pub record Pair (n p X X' : ℕ) : Type 0 where
  pub first : IsCorner n p X
  pub next : after n X ≡ X'
  pub next_inside : X' < n
  pub next_odd : offset p X' ≡ 1
  pub corner_of_first : corner n p X ≡ X
  pub corner_of_next : corner n p X' ≡ X
  pub members : (x : ℕ) → x < n → corner n p x ≡ X → ((x ≡ X) × (offset p x ≡ 0)) ⊎ ((x ≡ X') × (offset p x ≡ 1))

pub pair : (n p : ℕ) → Side n → p ≤ 1 → (X X' : ℕ) → IsCorner n p X → after n X ≡ X' → Pair n p X X'
pair n p side phase X X' f e = record {
  first = f;
  next = e;
  next_inside = let i = after_inside n side X f.0 in omega arith;
  next_odd = ap (offset p) (sym e) ∙ offset_after n p side phase X f;
  corner_of_first = corner_first n p side phase X f.1;
  corner_of_next = ap (corner n p) (sym e) ∙ corner_after n p side phase X f;
  members = λ x h c. elim (offset_cases p x) [
    | inl o ↦ inl (sym (corner_first n p side phase x o) ∙ c, o)
    | inr o ↦ inr (sym (after_corner n p side phase x h o) ∙ ap (after n) c ∙ e, o)
  ];
}
