use Rattle.std.proofs.Common.{arith}
use Rattle.boards.proofs.Found.{read_asked}
use Rattle.boards.proofs.read.read_into.Goals as goal

pub fill_cells-requires : goal.fill_cells-requires
fill_cells-requires c = read_asked c.args.first_line c.args.text.now c.args.cells.now (c.in_ok-start.start, c.in_ok-start.end) c.cell_count-count.result c.in_ok-start.ensures.answer c.cell_count-count.ensures (omega arith)
