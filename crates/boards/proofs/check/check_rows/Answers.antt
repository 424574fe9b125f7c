use Rattle.std.proofs.Common.{◌++◌}
use Rattle.std.proofs.lemmas.Result.{err_from_is_err_and}
use Rattle.boards.proofs.Rows.{one_row, bad_row}
use Rattle.boards.specs.Reading.{cells_of}
use Rattle.boards.proofs.check.check_rows.Goals as goal

pub returns-in_err-read_row : goal.returns-in_err-read_row
returns-in_err-read_row c =
    let p = err_from_is_err_and c.from_residual.result c.from_residual.ensures.1 in
    let done = c.loop-checked.invariant in
    rw (p.1, p.2) (bad_row c.args.width c.args.height c.args.reader.now c.loop-checked.checked c.loop-checked.reader done.0 c.in_err-read_row.field-0.0 done.1 c.loop-checked-test.true c.in_err-read_row.ensures.given)

pub loop-checked-preserved : goal.loop-checked-preserved
loop-checked-preserved c =
    let done = c.loop-checked.invariant in
    let cells = cells_of c.in_ok-read_row.field-0.now in
    (done.0 ++ cells, one_row c.args.width c.args.height c.args.reader.now c.loop-checked.checked c.loop-checked.reader done.0 c.read_row.new.reader cells done.1 c.loop-checked-test.true c.in_ok-read_row.ensures.given.0 c.in_ok-read_row.ensures.moved)
