use Rattle.lattice.specs.Starts.{width_of, height_of, phase_of}
use Rattle.block_map.proofs.Rows.{Through, rows_before}
use Rattle.block_map.proofs.blocks.rewrite_blocks.Given as goal

abbrev pub invariant-loop-y : goal.invariant-loop-y
invariant-loop-y l = Through l.table (width_of l.start) (height_of l.start) (phase_of l.start) (height_of l.start) l.y rows_before l.initial.cells l.cells
