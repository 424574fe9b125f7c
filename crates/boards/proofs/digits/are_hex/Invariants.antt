-- All bytes so far are digits.
use Rattle.std.proofs.Common.{◌≡◌, take, true}
use Rattle.std.specs.List.{list_all}
use Rattle.boards.specs.Reading.{is_hex}
use Rattle.boards.proofs.digits.are_hex.Given as goal

abbrev pub invariant-loop-byte : goal.invariant-loop-byte
invariant-loop-byte l = list_all is_hex (take l.byte-index l.bytes) ≡ true
