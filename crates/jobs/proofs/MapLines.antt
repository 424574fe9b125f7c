-- The map line of a job. Assumes nothing.
use Rattle.std.proofs.Common.{◌≡◌, ℕ, ◌≤◌, List, length, drop, Ok, Err, Result, arith, ap, ap₂, sym, ◌∙◌}
use Rattle.boards.proofs.NextLines.{line_given, asked_of_first}
use Rattle.boards.specs.Reading.{on_first}
use Rattle.boards.specs.Steps.{lines_left}
use Rattle.faults.specs.declared.record.RecordFault.{RecordFault}
use Rattle.named_maps.specs.declared.named.NamedMap.{NamedMap}
use Rattle.text.proofs.ReaderFacts.{reader_within}
use Rattle.text.specs.FieldsOfLines.{HasFields, StandsFrom, GivesLine}
use Rattle.text.specs.Lines.{below_first, lines}
use Rattle.text.specs.Readers.{AtEnd, text_of, position_of, line_of, fields_read_of}
use Rattle.text.specs.declared.line.Line.{Line}
use Rattle.text.specs.declared.reader.Reader.{Reader}
use Rattle.jobs.specs.Jobs.{map_at}
use Rattle.jobs.specs.Steps.{MapFound}

abbrev pub Says : Line → Result NamedMap RecordFault → Type 0
Says l a = (n : ℕ) (fs : List (List ℕ)) → HasFields l fs → StandsFrom l n 1 → a ≡ map_at n fs

-- r is at the beginning of the text bs and gives its first line l, after which it is s
module _ (bs : List ℕ) (r : Reader) (l : Line) (s : Reader) (text : text_of r ≡ bs) (position : position_of r ≡ 0) (line : line_of r ≡ 1) (begins : fields_read_of r ≡ 0) (some : AtEnd r → ⊥) (gives : GivesLine r l s) where
  map_said : (a : Result NamedMap RecordFault) → Says l a → on_first map_at 1 (lines bs) ≡ a
  map_said a says =
      let asked : a ≡ on_first map_at (line_of r) (lines_left r) = asked_of_first map_at r l s (λ x. a ≡ x) begins (line_given r l s begins some gives) says in
      sym (asked ∙ ap₂ (on_first map_at) line (ap lines (ap₂ drop position text)))

  pub no_map : (e : RecordFault) → Says l (Err e) → MapFound bs (Err e)
  no_map e says = map_said (Err e) says

  pub a_map : (m : NamedMap) → Says l (Ok m) → MapFound bs (Ok (m, position_of s))
  a_map m says =
      let same : text_of s ≡ bs = ap (λ b. b.now) gives.lent ∙ text in
      let inside : position_of s ≤ length bs = omega (arith, reader_within s, ap length same) in
      let below : drop (position_of s) bs ≡ below_first bs = ap (drop (position_of s)) (sym same) ∙ gives.rest ∙ ap below_first (ap₂ drop position text) in
      (map_said (Ok m) says, inside, below)
