-- The layers obey the laws of a map if their parts do, and leave the free bits of every cell if their parts do. Assumes nothing.
use Rattle.std.specs.Prelude.{ℕ}
use Rattle.std.proofs.Common.{◌∙◌, ap}
use Rattle.lattice.specs.Lattice.{Lattice}
use Rattle.lattice.specs.Maps.{UndoneBy, Keeps, Reversible, repeated}
use Rattle.lattice.proofs.FreeBits.{FreeBitsStay, LeavesFreeBits, repeated_free}
use Rattle.lattice.proofs.Wholes.{same_shape_trans}
use Rattle.lattice.proofs.Repeats.{repeated_undone, repeated_keeps}
use Rattle.layers.specs.Layers.{one_then, between}

pub then_keeps : (f g : Lattice → Lattice) → Keeps f → Keeps g → Keeps (one_then f g)
then_keeps f g kf kg = record {
  shape = λ l w. same_shape_trans l (f l) (g (f l)) (kf.shape l w) (kg.shape (f l) (kf.within l w));
  within = λ l w. kg.within (f l) (kf.within l w);
  partial = λ l w part. ap g (kf.partial l w part) ∙ kg.partial l w part;
}

pub then_undone : (f f' g g' : Lattice → Lattice) → Keeps f → UndoneBy f f' → UndoneBy g g' → UndoneBy (one_then f g) (one_then g' f')
then_undone f f' g g' kf uf ug l w = ap f' (ug (f l) (kf.within l w)) ∙ uf l w

-- b comes first and b' last: b' undoes what b does at the beginning
pub between_keeps : (f b b' : Lattice → Lattice) → Keeps f → Keeps b → Keeps b' → Keeps (between f b b')
between_keeps f b b' kf kb kb' = then_keeps b (one_then f b') kb (then_keeps f b' kf kb')

pub between_undone : (f f' b b' : Lattice → Lattice) → Keeps f → Keeps b → UndoneBy f f' → UndoneBy b b' → UndoneBy b' b → UndoneBy (between f b b') (between f' b b')
between_undone f f' b b' kf kb uf ub ub' l w =
    let w₁ = kb.within l w in
    let w₂ = kf.within (b l) w₁ in
    ap (λ m. b' (f' m)) (ub' (f (b l)) w₂) ∙ ap b' (uf (b l) w₁) ∙ ub l w

then_stay : (f g : Lattice → Lattice) → Keeps f → FreeBitsStay f → FreeBitsStay g → FreeBitsStay (one_then f g)
then_stay f g kf free free' l w k = free' (f l) (kf.within l w) k ∙ free l w k

between_stay : (f b b' : Lattice → Lattice) → Keeps f → Keeps b → FreeBitsStay f → FreeBitsStay b → FreeBitsStay b' → FreeBitsStay (between f b b')
between_stay f b b' kf kb free there back = then_stay b (one_then f b') kb there (then_stay f b' kf free back)

-- a layer keeps the laws if the maps in it do
module _ {f f' g g' : Lattice → Lattice} where
  pub then_laws : Reversible f f' → Reversible g g' → Reversible (one_then f g) (one_then g' f')
  then_laws a b = record {
    back_undoes_forward = then_undone f f' g g' a.forward_keeps a.back_undoes_forward b.back_undoes_forward;
    forward_undoes_back = then_undone g' g f' f b.backward_keeps b.forward_undoes_back a.forward_undoes_back;
    forward_keeps = then_keeps f g a.forward_keeps b.forward_keeps;
    backward_keeps = then_keeps g' f' b.backward_keeps a.backward_keeps;
  }

  -- f conjugated by g
  pub between_laws : Reversible f f' → Reversible g g' → Reversible (between f g g') (between f' g g')
  between_laws a b = record {
    back_undoes_forward = between_undone f f' g g' a.forward_keeps b.forward_keeps a.back_undoes_forward b.back_undoes_forward b.forward_undoes_back;
    forward_undoes_back = between_undone f' f g g' a.backward_keeps b.forward_keeps a.forward_undoes_back b.back_undoes_forward b.forward_undoes_back;
    forward_keeps = between_keeps f g g' a.forward_keeps b.forward_keeps b.backward_keeps;
    backward_keeps = between_keeps f' g g' a.backward_keeps b.forward_keeps b.backward_keeps;
  }

  pub then_free : Reversible f f' → Reversible g g' → LeavesFreeBits f f' → LeavesFreeBits g g' → LeavesFreeBits (one_then f g) (one_then g' f')
  then_free a b fa fb = record { forward = then_stay f g a.forward_keeps fa.forward fb.forward; backward = then_stay g' f' b.backward_keeps fb.backward fa.backward }

  pub between_free : Reversible f f' → Reversible g g' → LeavesFreeBits f f' → LeavesFreeBits g g' → LeavesFreeBits (between f g g') (between f' g g')
  between_free a b fa fb = record {
    forward = between_stay f g g' a.forward_keeps b.forward_keeps fa.forward fb.forward fb.backward;
    backward = between_stay f' g g' a.backward_keeps b.forward_keeps fa.backward fb.forward fb.backward;
  }

module _ {f f' : Lattice → Lattice} where
  pub reverse_free : LeavesFreeBits f f' → LeavesFreeBits f' f
  reverse_free fa = record { forward = fa.backward; backward = fa.forward }

  pub repeated_laws : (n : ℕ) → Reversible f f' → Reversible (repeated n f) (repeated n f')
  repeated_laws n a = record {
    back_undoes_forward = repeated_undone f f' a.forward_keeps a.back_undoes_forward n;
    forward_undoes_back = repeated_undone f' f a.backward_keeps a.forward_undoes_back n;
    forward_keeps = repeated_keeps f a.forward_keeps n;
    backward_keeps = repeated_keeps f' a.backward_keeps n;
  }

  pub times_free : (n : ℕ) → Reversible f f' → LeavesFreeBits f f' → LeavesFreeBits (repeated n f) (repeated n f')
  times_free n a fa = record { forward = repeated_free f a.forward_keeps fa.forward n; backward = repeated_free f' a.backward_keeps fa.backward n }
