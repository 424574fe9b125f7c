-- What the layers make of the functions of their parts. `Reverse` needs no definition, since it only takes each of the two for the other.
--     one_then f g           f, and then g
--     between f b back       b, then f, then back: f conjugated by b
use Rattle.lattice.specs.Lattice.{Lattice}

abbrev pub one_then : (Lattice → Lattice) → (Lattice → Lattice) → Lattice → Lattice
one_then f g l = g (f l)

abbrev pub between : (Lattice → Lattice) → (Lattice → Lattice) → (Lattice → Lattice) → Lattice → Lattice
between f b back = one_then b (one_then f back)
