-- At the beginning of a script, all of its records are left to read. Assumes nothing.
use Rattle.std.proofs.Common.{◌≡◌, ℕ, List, Ok, drop, ap, ap₂, ◌∙◌}
use Rattle.faults.proofs.Joined.{went_on}
use Rattle.scripts.specs.Judgements.{script, records_from}
use Rattle.scripts.specs.Reading.{left_of, reader_of, state_of}
use Rattle.scripts.specs.declared.record.Record.{Record}
use Rattle.scripts.specs.declared.records.Records.{Records}
use Rattle.scripts.specs.declared.state.State.TheVariants.{Rest}
use Rattle.text.specs.Lines.{lines}
use Rattle.text.specs.Readers.{text_of, line_of, position_of, rest_of}
use Rattle.text.specs.Wholes.{whole}

pub all_left : (r : Records) (n : ℕ) (bs : List ℕ) (rs : List Record) → text_of (reader_of r) ≡ bs → position_of (reader_of r) ≡ 0 → line_of (reader_of r) ≡ n → state_of r ≡ Rest → script n bs ≡ Ok rs → left_of r ≡ Ok rs
all_left r n bs rs text position line state is =
    let p = went_on (whole n bs) (λ x. records_from Rest n (lines bs)) rs is in
    ap (λ s. records_from s (line_of (reader_of r)) (lines (rest_of (reader_of r)))) state
    ∙ ap₂ (λ m t. records_from Rest m (lines t)) line (ap₂ drop position text)
    ∙ p.2
