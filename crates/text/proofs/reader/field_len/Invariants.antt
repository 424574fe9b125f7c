-- No byte before the index ends the field.
use Rattle.std.proofs.Common.{◌≡◌, ℕ, ◌<◌, get_or, false}
use Rattle.text.specs.Lines.{is_separator}
use Rattle.text.proofs.reader.field_len.Given as goal

abbrev pub invariant-loop-index : goal.invariant-loop-index
invariant-loop-index l = (k : ℕ) → k < l.index → is_separator (get_or l.bytes k 0) ≡ false
