use Rattle.std.proofs.Common.{rules, ◌∙◌, sym, Ok, Err}
use Rattle.std.proofs.lemmas.Result.{err_from_is_err_and}
use Rattle.text.specs.FieldsOfLines.{GivesLine}
use Rattle.text.specs.Readers.{AtEnd}
use Rattle.scripts.proofs.Lefts.{line_answer}
use Rattle.scripts.proofs.records.Records.take_record.Goals as goal

pub returns-in_err-record-clause-answer : goal.returns-in_err-record-clause-answer
returns-in_err-record-clause-answer c =
    let r = c.args.self.now.reader in
    let gives : GivesLine r c.in-Some.line c.next_line.new.self = search rules in
    let going : AtEnd r → ⊥ = λ e. absurd (search rules) in
    let p = err_from_is_err_and c.from_residual.result c.from_residual.ensures.1 in
    rw (p.1, p.2) (sym (line_answer r c.in-Some.line c.next_line.new.self c.args.self.now.state (Err c.in_err-record.field-0.0) c.args.self.now.begins going gives (λ n fs has stands. sym c.in_err-record.was ∙ c.judge.ensures n fs has stands)))

pub returns-clause-answer : goal.returns-clause-answer
returns-clause-answer c =
    let r = c.args.self.now.reader in
    let gives : GivesLine r c.in-Some.line c.next_line.new.self = search rules in
    let going : AtEnd r → ⊥ = λ e. absurd (search rules) in
    sym (line_answer r c.in-Some.line c.next_line.new.self c.args.self.now.state (Ok c.in_ok-record.record) c.args.self.now.begins going gives (λ n fs has stands. sym c.in_ok-record.was ∙ c.judge.ensures n fs has stands))
