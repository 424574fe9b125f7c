use Rattle.boards.proofs.NextLines.{asked_of_first}
use Rattle.boards.specs.Reading.{start_at}
use Rattle.boards.specs.Steps.{StartIs}
use Rattle.boards.proofs.lines.read_start.Goals as goal

pub returns-clause-given : goal.returns-clause-given
returns-clause-given c = asked_of_first start_at c.args.reader.now c.in_ok-next_line.field-0 c.next_line.new.reader (λ a. StartIs a c.start_of.result) c.requires c.in_ok-next_line.ensures c.start_of.ensures
