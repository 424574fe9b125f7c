use Rattle.std.proofs.Common.{◌≡◌, ◌*◌, length, Ok, ap, ◌∙◌}
use Rattle.lattice.specs.Starts.{width_of, height_of}
use Rattle.text.specs.Readers.{line_of}
use Rattle.boards.proofs.Parts.{rows_left, cells_counted}
use Rattle.boards.specs.Reading.{rows_from}
use Rattle.boards.specs.Steps.{lines_left}
use Rattle.boards.proofs.read.fill_cells.Goals as goal

pub fill_rows-requires-clause-count : goal.fill_rows-requires-clause-count
fill_rows-requires-clause-count c =
    let l = c.requires.0 in
    let s = c.in_ok-start.start in
    let t = c.read_start.new.reader in
    let rows : rows_from (width_of s) (height_of s) (line_of t) (lines_left t) ≡ Ok l.cells = rows_left c.args.first_line c.args.text.now l c.new-reader.result t s c.requires.1 (ap (λ b. b.now) c.new-reader.ensures.lent) c.new-reader.ensures.position c.new-reader.ensures.line c.in_ok-start.ensures.given c.in_ok-start.ensures.moved in
    let count : length l.cells ≡ height_of s * width_of s = cells_counted (width_of s) (height_of s) (line_of t) (lines_left t) l.cells rows in
    rw (c.height.ensures, c.width.ensures) (c.requires.2 ∙ count)

pub fill_rows-requires-clause-checked : goal.fill_rows-requires-clause-checked
fill_rows-requires-clause-checked c =
    let l = c.requires.0 in
    let s = c.in_ok-start.start in
    let t = c.read_start.new.reader in
    let rows : rows_from (width_of s) (height_of s) (line_of t) (lines_left t) ≡ Ok l.cells = rows_left c.args.first_line c.args.text.now l c.new-reader.result t s c.requires.1 (ap (λ b. b.now) c.new-reader.ensures.lent) c.new-reader.ensures.position c.new-reader.ensures.line c.in_ok-start.ensures.given c.in_ok-start.ensures.moved in
    (l.cells, rw (c.height.ensures, c.width.ensures) rows)
