-- What a start record holds, and the lattice that it makes up together with a list of cells.
--     width_of s, height_of s, phase_of s     what s holds
--     held s cs                               the lattice that s makes up with a memory that holds the cells cs
--     StartOf l s                             s has the sides and the phase of l
use Rattle.std.specs.Prelude.{◌≡◌, ℕ, List}
use Rattle.lattice.specs.Lattice.{Lattice}
use Rattle.lattice.specs.declared.start.Start.{Start}

abbrev pub width_of : Start → ℕ
width_of s = s.width

abbrev pub height_of : Start → ℕ
height_of s = s.height

abbrev pub phase_of : Start → ℕ
phase_of s = s.phase

abbrev pub held : Start → List ℕ → Lattice
held s cs = record { width = s.width; height = s.height; phase = s.phase; cells = cs }

abbrev pub StartOf : Lattice → Start → Type 0
StartOf l s = held s l.cells ≡ l
