use Rattle.std.proofs.Common.{rules}
use Rattle.text.proofs.Separators.{before_in_part, newline_in_part}
use Rattle.text.proofs.reader.Reader.take_field.Goals as goal

pub returns-clause-given : goal.returns-clause-given
returns-clause-given c = record {
  bytes = before_in_part c.args.self.now.text.now c.args.self.now.position c.field_len-len.result c.field_len-len.ensures.value;
  ends = newline_in_part c.args.self.now.text.now c.args.self.now.position c.field_len-len.result c.field_len-len.ensures.value c.field_len-len.ensures.within c.if-len-rest.false c.if-rest-len-eq9.false;
  lies = search rules;
  line = search rules;
  field = search rules;
  lent = search rules;
  moves = search rules;
}
