-- The cell map: what becomes of one cell, and of a lattice.
--     table_of m       the table that the map m was made of
--     replaced t c     the cell c with the present and the past that the table t has for those of c
--     cell_moved t     every cell replaced so, if the lattice is whole; back is the same with the inverse table
use Rattle.std.specs.Prelude.{ℕ, ◌+◌, ◌*◌, ◌/◌, ◌%◌, List, map, slice_index}
use Rattle.lattice.specs.Lattice.{Lattice, with_cells, if_whole}
use Rattle.tables.specs.declared.table.Table.{Table}
use Rattle.cell_map.specs.declared.map.CellMap.{CellMap}

abbrev pub table_of : CellMap → Table 4
table_of m = m.table

abbrev pub replaced : List ℕ → ℕ → ℕ
replaced t c = c / 4 * 4 + slice_index t (c % 4)

abbrev pub cell_moved : List ℕ → Lattice → Lattice
cell_moved t = if_whole (λ l. with_cells l (map (replaced t) l.cells))
