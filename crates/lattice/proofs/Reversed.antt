-- A map with forward and back exchanged. Assumes nothing.
use Rattle.lattice.specs.Lattice.{Lattice}
use Rattle.lattice.specs.Maps.{Reversible}

pub reverse_laws : {f g : Lattice → Lattice} → Reversible f g → Reversible g f
reverse_laws laws = record {
  back_undoes_forward = laws.forward_undoes_back;
  forward_undoes_back = laws.back_undoes_forward;
  forward_keeps = laws.backward_keeps;
  backward_keeps = laws.forward_keeps;
}
