-- Sides, and one step along a side and back. Assumes nothing.
use Rattle.std.proofs.Common.{◌≡◌, ℕ, ◌<◌, arith}
use Rattle.std.proofs.lemmas.Bool.Decides.{nat_tests}
use Rattle.lattice.specs.Limits.{Side}
use Rattle.lattice.specs.Torus.{after, before}

pub side_some : (n : ℕ) → Side n → 0 < n
side_some n side = let two = side.0 in omega arith

module _ (n : ℕ) (side : Side n) (x : ℕ) (inside : x < n) where
  pub after_inside : after n x < n
  after_inside = grind (arith, nat_tests)

  pub before_inside : before n x < n
  before_inside = grind (arith, nat_tests)

  pub before-after : before n (after n x) ≡ x
  before-after = grind (arith, nat_tests)

  pub after-before : after n (before n x) ≡ x
  after-before = grind (arith, nat_tests)
