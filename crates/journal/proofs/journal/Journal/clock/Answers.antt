use Rattle.std.proofs.Common.{◌≡◌, ◌≤◌, get_or, ap, ◌∙◌, arith, to_z, of_z, w32, unsigned_abs}
use Rattle.std.proofs.lemmas.Int.{to_z-of_z}
use Rattle.std.proofs.lemmas.List.{length-take-le, get_or-take}
use Rattle.journal.proofs.Clocks.{sum_small, sum_fits, next_clock, standing_clock}
use Rattle.journal.proofs.journal.Journal.clock.Goals as goal
use Rattle.journal.specs.Journals.{standing_of}
use Rattle.journal.specs.Views.{entry_ticks}
use Rattle.ledger.specs.Ledgers.{clock_of}

-- the entry's count, as it is added
same : (c : goal.After-ticks-clock) → to_z w32 (of_z w32 c.ticks-clock.result) ≡ c.ticks-clock.result
same c = to_z-of_z w32 c.ticks-clock.result (record { sfits = c.ticks-clock.type_inv })

next : (c : goal.After-ticks-clock) → to_z w32 (of_z w32 c.ticks-clock.result) ≡ entry_ticks (get_or c.args.self.now.entries c.loop-entry.entry-index c.entry-item.result)
next c =
    let j = c.args.self.now in
    let s = j.sizes in
    let len = length-take-le j.standing j.entries (omega arith) in
    same c ∙ c.ticks-clock.ensures.number ∙ ap entry_ticks (c.entry-item.is ∙ get_or-take j.standing j.entries c.loop-entry.entry-index c.entry-item.result (omega (arith, c.loop-entry-test.true)))

small : (c : goal.After-ticks-clock) → unsigned_abs (to_z w32 (of_z w32 c.ticks-clock.result)) ≤ 10000
small c = let is = ap unsigned_abs (same c) in omega (arith, c.ticks-clock.ensures.within)

pub overflow_add-clock : goal.overflow_add-clock
overflow_add-clock c =
    let j = c.args.self.now in
    let s = j.sizes in
    let len = length-take-le j.standing j.entries (omega arith) in
    sum_fits (to_z w32 c.loop-entry.clock-bits) (to_z w32 (of_z w32 c.ticks-clock.result)) c.loop-entry.entry-index c.loop-entry.invariant.1 (small c) (omega (arith, c.loop-entry-test.true))

pub loop-entry-preserved : goal.loop-entry-preserved
loop-entry-preserved c =
    let j = c.args.self.now in
    let s = j.sizes in
    let i = c.loop-entry.entry-index in
    let len = length-take-le j.standing j.entries (omega arith) in
    let sum = to_z-of_z w32 _ (overflow_add-clock c) in
    let far = ap unsigned_abs sum in
    (sum ∙ next_clock j.entries j.flips i c.entry-item.result _ _ (omega (arith, c.loop-entry-test.true)) c.loop-entry.invariant.0 (next c), omega (arith, sum_small (to_z w32 c.loop-entry.clock-bits) (to_z w32 (of_z w32 c.ticks-clock.result)) i c.loop-entry.invariant.1 (small c)))

-- all entries were added up
all : (c : goal.After-loop-entry) → to_z w32 c.loop-entry.clock-bits ≡ clock_of (standing_of c.args.self.now)
all c =
    let j = c.args.self.now in
    let s = j.sizes in
    let len = length-take-le j.standing j.entries (omega arith) in
    let end : c.loop-entry.entry-index ≡ j.standing = omega (arith, c.loop-entry-test.false, c.loop-entry.auto.entry-index-end) in
    c.loop-entry.invariant.0 ∙ standing_clock j.entries j.flips j.standing j.undone c.loop-entry.entry-index (omega arith) end

pub returns-clause-sum : goal.returns-clause-sum
returns-clause-sum c = all c

pub returns-clause-within : goal.returns-clause-within
returns-clause-within c =
    let j = c.args.self.now in
    let s = j.sizes in
    let len = length-take-le j.standing j.entries (omega arith) in
    omega (arith, c.loop-entry.invariant.1, c.loop-entry-test.false, c.loop-entry.auto.entry-index-end)
