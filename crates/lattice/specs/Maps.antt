-- The laws of a map, for the function f of its move forward and the function g of its move back.
--     UndoneBy f g      g undoes f on every lattice within the limits
--     Keeps f           of a lattice within the limits f makes another one within them, of the same shape; a lattice that is not whole is its own image
--     Reversible f g    f and g undo each other and keep all this: the laws of a map that means f forward and g backward
--     repeated n f      f applied n times
use Rattle.std.specs.Prelude.{◌≡◌, ℕ, zero, suc}
use Rattle.lattice.specs.Lattice.{Lattice, Whole, Within, SameShape}

abbrev pub UndoneBy : (Lattice → Lattice) → (Lattice → Lattice) → Type 0
UndoneBy f g = (l : Lattice) → Within l → g (f l) ≡ l

pub record Keeps (f : Lattice → Lattice) : Type 0 where
  pub shape : (l : Lattice) → Within l → SameShape l (f l)
  pub within : (l : Lattice) → Within l → Within (f l)
  pub partial : (l : Lattice) → Within l → (Whole l → ⊥) → f l ≡ l

pub record Reversible (f g : Lattice → Lattice) : Type 0 where
  pub back_undoes_forward : UndoneBy f g
  pub forward_undoes_back : UndoneBy g f
  pub forward_keeps : Keeps f
  pub backward_keeps : Keeps g

abbrev pub repeated : ℕ → (Lattice → Lattice) → Lattice → Lattice
repeated zero f l = l
repeated (suc n) f l = f (repeated n f l)
