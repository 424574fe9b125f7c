-- Neighbourhood numbers. Assumes nothing.
use Rattle.std.specs.Prelude.{◌≡◌, ℕ, ◌<◌}
use Rattle.lattice.specs.Limits.{Side}
use Rattle.lattice.proofs.Torus.{after_inside, before_inside}
use Rattle.lift.specs.Neighbours.{around}

-- the number depends on bits within the lattice alone
pub around_same : (w h : ℕ) → Side w → Side h → (p q : ℕ → ℕ → ℕ) → ((x y : ℕ) → x < w → y < h → p x y ≡ q x y) → (x y : ℕ) → x < w → y < h → around w h p x y ≡ around w h q x y
around_same w h wide high p q same x y x< y< =
    let w< = before_inside w wide x x< in
    let e< = after_inside w wide x x< in
    let n< = before_inside h high y y< in
    let s< = after_inside h high y y< in
    simp same
