use Rattle.std.proofs.Common.{rules, ◌≡◌, true, codes}
use Rattle.std.specs.Str.{bytes_eq}
use Rattle.text.specs.Fields.{bytes_of}
use Rattle.boards.proofs.StartLines.{start_of_four}
use Rattle.boards.proofs.lines.start_of.Goals as goal

pub returns : goal.returns
returns c n fs has stands =
    let word : bytes_eq (bytes_of c.in-Four.field-0) (codes "board") ≡ true = search rules in
    start_of_four c.args.line c.in-Four.field-0 c.in-Four.width c.in-Four.height c.in-Four.phase n fs c.start.result c.in-Four.is has stands word c.start.ensures
