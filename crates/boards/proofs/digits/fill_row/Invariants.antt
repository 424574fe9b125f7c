-- The cells so far are those of the digits so far.
use Rattle.std.proofs.Common.{◌≡◌, ◌*◌, take}
use Rattle.boards.specs.Reading.{cells_of}
use Rattle.boards.proofs.digits.fill_row.Given as goal

abbrev pub invariant-loop-col : goal.invariant-loop-col
invariant-loop-col l = take l.col l.row ≡ cells_of (take (2 * l.col) l.digits)
