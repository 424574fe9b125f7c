-- The lattice as a value.
--     Lattice             columns, rows, phase, and the cells, row after row: row y begins at place y * width
--     Whole l             l has a cell for each column of each row
--     Bytes cs            each of the cells cs is a byte
--     Within l            sides, area, phase and cells of l are within the limits
--     SameShape l m       l and m have the same sides and the same number of cells
--     turned l            l at the other phase
--     with_cells l cs     l with cs for its cells
--     if_whole f l        f of l if l is whole, and l itself otherwise
use Rattle.std.specs.Prelude.{◌≡◌, ℕ, ◌-◌, ◌*◌, ◌<◌, ◌≤◌, cond, List, length, ◌==◌, slice_index}
use Rattle.lattice.specs.Limits.{Side, max_area, max_phase}

pub record Lattice : Type 0 where
  pub width : ℕ
  pub height : ℕ
  pub phase : ℕ
  pub cells : List ℕ

abbrev pub Whole : Lattice → Type 0
Whole l = length l.cells ≡ l.width * l.height

-- past its end a list gives 0, so this constrains only the cells
abbrev pub Bytes : List ℕ → Type 0
Bytes cs = (k : ℕ) → slice_index cs k < 256

pub record Within (l : Lattice) : Type 0 where
  pub wide : Side l.width
  pub high : Side l.height
  pub area : l.width * l.height ≤ max_area
  pub phased : l.phase ≤ max_phase
  pub bytes : Bytes l.cells

pub record SameShape (l m : Lattice) : Type 0 where
  pub width : m.width ≡ l.width
  pub height : m.height ≡ l.height
  pub count : length m.cells ≡ length l.cells

abbrev pub turned : Lattice → Lattice
turned l = record { width = l.width; height = l.height; phase = 1 - l.phase; cells = l.cells }

abbrev pub with_cells : Lattice → List ℕ → Lattice
with_cells l cs = record { width = l.width; height = l.height; phase = l.phase; cells = cs }

abbrev pub if_whole : (Lattice → Lattice) → Lattice → Lattice
if_whole f l = cond (length l.cells == l.width * l.height) (f l) l
