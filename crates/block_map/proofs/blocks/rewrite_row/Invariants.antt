use Rattle.std.proofs.Common.{◌-◌}
use Rattle.lattice.specs.Starts.{width_of, height_of, phase_of}
use Rattle.block_map.proofs.Rows.{Through, row_before}
use Rattle.block_map.proofs.blocks.rewrite_row.Given as goal

abbrev pub invariant-loop-x : goal.invariant-loop-x
invariant-loop-x l = Through l.table (width_of l.start) (height_of l.start) (phase_of l.start) (width_of l.start - 1) l.x (row_before l.y) l.initial.cells l.cells
