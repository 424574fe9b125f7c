use Rattle.std.proofs.Common.{arith}
use Rattle.boards.proofs.HexText.{digits_read}
use Rattle.boards.proofs.Rows.{bad_row, row_filled, rows_filled}
use Rattle.boards.specs.Reading.{cells_of}
use Rattle.boards.proofs.read.fill_rows.Goals as goal

pub loop-row-preserved : goal.loop-row-preserved
loop-row-preserved c =
    let given = c.in_ok-digits.ensures.given in
    let bytes = c.in_ok-digits.digits.now in
    let count = (digits_read c.args.width bytes given.1 given.2).count in
    row_filled c.args.width c.args.height c.args.reader.now c.loop-row.row c.loop-row.reader c.read_row.new.reader c.loop-row.cells c.fill_row.new.row (cells_of bytes) c.loop-row.invariant c.loop-row-test.true given.0 c.in_ok-digits.ensures.moved c.fill_row.ensures count (omega (arith, c.loop-row.auto.cells))

pub returns : goal.returns
returns c = rows_filled c.args.width c.args.height c.args.reader.now c.loop-row.row c.loop-row.reader c.loop-row.cells c.loop-row.invariant (omega arith) (omega (arith, c.loop-row.auto.cells))

pub returns-in_err-digits : goal.returns-in_err-digits
returns-in_err-digits c =
    let bad = bad_row c.args.width c.args.height c.args.reader.now c.loop-row.row c.loop-row.reader _ c.in_err-digits.field-0.0 c.loop-row.invariant c.loop-row-test.true c.in_err-digits.ensures.given in
    absurd (cc (bad, c.requires.checked.1))
