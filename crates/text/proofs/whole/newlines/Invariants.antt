-- `count` is the number of newlines so far.
use Rattle.std.proofs.Common.{◌≡◌, take}
use Rattle.std.specs.List.{count_by}
use Rattle.text.specs.Lines.{is_newline}
use Rattle.text.proofs.whole.newlines.Given as goal

abbrev pub invariant-loop-byte : goal.invariant-loop-byte
invariant-loop-byte l = l.count ≡ count_by is_newline (take l.byte-index l.text)
