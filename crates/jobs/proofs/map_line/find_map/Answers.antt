use Rattle.std.proofs.Common.{rules, Err, ap, ◌∙◌}
use Rattle.text.specs.FieldsOfLines.{GivesLine}
use Rattle.text.specs.Readers.{AtEnd}
use Rattle.jobs.specs.Steps.{MapFound}
use Rattle.jobs.proofs.MapLines.{no_map, a_map}
use Rattle.jobs.proofs.map_line.find_map.Goals as goal

pub returns-in_err-map : goal.returns-in_err-map
returns-in_err-map c =
    let r = c.new-reader.ensures in
    let some : AtEnd c.new-reader.result → ⊥ = search rules in
    let gives : GivesLine c.new-reader.result c.in-Some.line c.next_line.new.self = search rules in
    let none : MapFound c.args.text.now (Err c.in_err-map.field-0.0) = no_map c.args.text.now c.new-reader.result c.in-Some.line c.next_line.new.self (ap (λ b. b.now) r.lent) r.position (r.line ∙ c.first.ensures) r.fields some gives c.in_err-map.field-0.0 c.in_err-map.ensures in
    search rules

pub returns : goal.returns
returns c =
    let r = c.new-reader.ensures in
    let some : AtEnd c.new-reader.result → ⊥ = search rules in
    let gives : GivesLine c.new-reader.result c.in-Some.line c.next_line.new.self = search rules in
    rw c.position.ensures (a_map c.args.text.now c.new-reader.result c.in-Some.line c.next_line.new.self (ap (λ b. b.now) r.lent) r.position (r.line ∙ c.first.ensures) r.fields some gives c.in_ok-map.map c.in_ok-map.ensures)
