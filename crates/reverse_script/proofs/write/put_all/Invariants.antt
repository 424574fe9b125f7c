-- The actions after those that are left are written.
use Rattle.std.proofs.Common.{◌≡◌, ◌+◌, ◌*◌, ◌≤◌, length, take, drop}
use Rattle.journal.specs.Backwards.{left_of}
use Rattle.journal.specs.Journals.{standing_of}
use Rattle.ledger.specs.Homes.{home_script}
use Rattle.ledger.specs.Ledgers.{entries}
use Rattle.reverse_script.proofs.write.put_all.Given as goal
use Rattle.text.specs.Puts.{put_at}

abbrev pub invariant-loop-action : goal.invariant-loop-action
invariant-loop-action l =
    (left_of l.actions ≡ take (length (left_of l.actions)) (standing_of l.journal)) × (length (left_of l.actions) ≤ length (standing_of l.journal))
    × (l.script ≡ put_at l.initial.script 0 (home_script (drop (length (left_of l.actions)) (standing_of l.journal)))) × (l.end ≡ length (home_script (drop (length (left_of l.actions)) (standing_of l.journal))))
    × (l.end + 28 * entries (left_of l.actions) ≤ 28 * entries (standing_of l.journal))

abbrev pub decreases-loop-action : goal.decreases-loop-action
decreases-loop-action l = length (left_of l.actions)
