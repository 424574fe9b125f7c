-- The flips after those that are left are written.
use Rattle.std.proofs.Common.{◌≡◌, ◌+◌, ◌*◌, ◌≤◌, length, take, drop}
use Rattle.reverse_script.proofs.put.put_flips.Given as goal
use Rattle.reverse_script.specs.FlipTexts.{back_text}
use Rattle.text.specs.Puts.{put_at}

abbrev pub invariant-loop-last : goal.invariant-loop-last
invariant-loop-last l =
    (l.left ≡ take (length l.left) l.flips) × (length l.left ≤ length l.flips)
    × (l.script ≡ put_at l.initial.script l.fn.at (back_text (drop (length l.left) l.flips))) × (l.end ≡ l.fn.at + length (back_text (drop (length l.left) l.flips)))
    × (l.end + 17 * length l.left ≤ l.fn.at + 17 * length l.flips)

abbrev pub decreases-loop-last : goal.decreases-loop-last
decreases-loop-last l = length l.left
