-- The work half done: the rule's values are XORed into some pasts, and the other cells are as they were. Cited by inner functions alone; what
-- the map means is in Maps.antt.
--     answered f w h cs x y         the cell of column x and row y with f of its neighbourhood XORed into its past
--     Answered f w h a b old new    exactly the cells at the places from a up to, but not including, b are `answered`; the others are as they were
--     column w h cs x y             the presents of column x above, in and below row y, with the weights of the western column of a neighbourhood
use Rattle.std.specs.Prelude.{◌≡◌, ℕ, ◌+◌, ◌*◌, ◌<◌, ◌≤◌, ◌⊎◌, List, length}
use Rattle.lattice.specs.Cells.{cell}
use Rattle.lattice.specs.Torus.{after, before}
use Rattle.lift.specs.Moments.{xored, presents}
use Rattle.lift.specs.Neighbours.{around}

abbrev pub answered : (ℕ → ℕ) → ℕ → ℕ → List ℕ → ℕ → ℕ → ℕ
answered f w h cs x y = xored (cell w cs x y) (f (around w h (presents w cs) x y))

pub record Answered (f : ℕ → ℕ) (w h a b : ℕ) (old new : List ℕ) : Type 0 where
  pub count : length new ≡ length old
  pub done : (x y : ℕ) → x < w → y < h → a ≤ y * w + x → y * w + x < b → cell w new x y ≡ answered f w h old x y
  pub rest : (x y : ℕ) → x < w → y < h → (y * w + x < a) ⊎ (b ≤ y * w + x) → cell w new x y ≡ cell w old x y

abbrev pub column : ℕ → ℕ → List ℕ → ℕ → ℕ → ℕ
column w h cs x y = presents w cs x (before h y) + 8 * presents w cs x y + 64 * presents w cs x (after h y)
