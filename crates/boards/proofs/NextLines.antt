-- The next line of a board, and what its fields say. Assumes nothing.
use Rattle.std.proofs.Common.{◌≡◌, ℕ, ◌+◌, List, ◌∷◌, drop, Ok, Result, ap, sym, subst}
use Rattle.faults.specs.declared.record.RecordFault.{RecordFault}
use Rattle.text.proofs.LinesLeft.{lines_after}
use Rattle.text.specs.FieldsOfLines.{GivesLine, HasFields, StandsFrom}
use Rattle.text.specs.Lines.{first_line, fields}
use Rattle.text.specs.Readers.{AtEnd, line_of, rest_of, fields_read_of}
use Rattle.text.specs.declared.line.Line.{Line}
use Rattle.text.specs.declared.reader.Reader.{Reader}
use Rattle.boards.specs.Reading.{on_first}
use Rattle.boards.specs.Steps.{LineGiven, lines_left}

pub line_given : (r : Reader) (l : Line) (s : Reader) → fields_read_of r ≡ 0 → (AtEnd r → ⊥) → GivesLine r l s → LineGiven r (Ok l) s
line_given r l s begins going gives =
    let first : lines_left r ≡ first_line (rest_of r) ∷ lines_left s = lines_after r l s begins going gives in
    (gives, record { text = ap (λ b. b.now) gives.lent; rest = gives.rest; lines = sym (ap (drop 1) first); line = gives.line; begins = gives.fields_read }, first)

-- what holds for any fields and place of the line holds for those that it has
pub asked_of_first : {A : Type 0} (f : ℕ → List (List ℕ) → Result A RecordFault) (r : Reader) (l : Line) (s : Reader) (P : Result A RecordFault → Type 0) → fields_read_of r ≡ 0 → LineGiven r (Ok l) s → ((n : ℕ) (fs : List (List ℕ)) → HasFields l fs → StandsFrom l n 1 → P (f n fs)) → P (on_first f (line_of r) (lines_left r))
asked_of_first f r l s P begins given asked =
    let stands : StandsFrom l (line_of r) 1 = subst (λ (k : ℕ). StandsFrom l (line_of r) (k + 1)) begins given.0.stands in
    let there : on_first f (line_of r) (lines_left r) ≡ f (line_of r) (fields (first_line (rest_of r))) = ap (on_first f (line_of r)) given.2 in
    subst P (sym there) (asked (line_of r) (fields (first_line (rest_of r))) given.0.fields stands)
