-- XOR and exchange on one cell. Assumes nothing.
use Rattle.std.specs.Prelude.{◌≡◌, ℕ, ◌/◌, ◌<◌}
use native.Mathlib.Omega.{arith}
use Rattle.lattice.specs.Cells.{present, past}
use Rattle.lift.specs.Moments.{xored, exchanged}

pub present_xored : (c a : ℕ) → present (xored c a) ≡ present c
present_xored c a = omega arith

pub xored_twice : (c x : ℕ) → xored (xored c x) x ≡ c
xored_twice c x = omega arith

pub exchanged_twice : (c : ℕ) → exchanged (exchanged c) ≡ c
exchanged_twice c = omega arith

pub present_exchanged : (c : ℕ) → present (exchanged c) ≡ past c
present_exchanged c = omega arith

pub past_exchanged : (c : ℕ) → past (exchanged c) ≡ present c
past_exchanged c = omega arith

pub xored_high : (c a : ℕ) → xored c a / 4 ≡ c / 4
xored_high c a = omega arith

pub exchanged_high : (c : ℕ) → exchanged c / 4 ≡ c / 4
exchanged_high c = omega arith

pub below_by_high : (c d : ℕ) → c / 4 ≡ d / 4 → d < 256 → c < 256
below_by_high c d e h = omega arith
