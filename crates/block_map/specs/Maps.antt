-- The block map: the two functions that it means.
--     table_of m              the table that the map m was made of
--     blocks_rewritten t l    l with each block of its phase rewritten by the table t
--     block_forward t         forward by the table t: rewrites the blocks, and turns the phase
--     block_backward u        back by the inverse table u: turns the phase, and rewrites the blocks, which are then the ones that forward rewrote
use Rattle.std.specs.Prelude.{ℕ, List}
use Rattle.lattice.specs.Cells.{by_place}
use Rattle.lattice.specs.Lattice.{Lattice, turned, with_cells, if_whole}
use Rattle.block_map.specs.Blocks.{rewritten}
use Rattle.tables.specs.declared.table.Table.{Table}
use Rattle.block_map.specs.declared.map.BlockMap.{BlockMap}

abbrev pub table_of : BlockMap → Table 16
table_of m = m.table

abbrev pub blocks_rewritten : List ℕ → Lattice → Lattice
blocks_rewritten t l = with_cells l (by_place l.width l.height (rewritten t l.width l.height l.phase l.cells))

abbrev pub block_forward : List ℕ → Lattice → Lattice
block_forward t = if_whole (λ l. turned (blocks_rewritten t l))

abbrev pub block_backward : List ℕ → Lattice → Lattice
block_backward u = if_whole (λ l. blocks_rewritten u (turned l))
