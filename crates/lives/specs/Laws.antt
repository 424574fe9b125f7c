-- The law of every life. It begins with the start record s and with what the memory `cells` has then; f and g are the two functions of the map, es the events,
-- and `old` and `new` the memories before and after.
--     opening s m, other m           the opening lattice; the length of the memory `second`
--     SameLoan a b, SameLoans old new    a and b borrow one and the same memory; so does each field of `old` and of `new`
--     AllWhole s m                   the cells memories of the three benches have a byte for each cell
--     Lived f g s es old new o       the life ends with the outcome o and leaves the memories `new`
--     Unchanged old new              no memory has changed
--     LifeIs f g s es old new r      r is the result of `live`
use Rattle.std.specs.Prelude.{◌≡◌, ℕ, ◌*◌, List, length, map, take, Result, Ok, Err}
use Rattle.std.specs.Borrow.{MutBor}
use Rattle.faults.specs.declared.run.BenchRefusal.{BenchRefusal}
use Rattle.faults.specs.declared.run.BenchRefusal.TheVariants.{Cells}
use Rattle.lattice.specs.Lattice.{Lattice}
use Rattle.lattice.specs.Starts.{width_of, height_of, phase_of, held}
use Rattle.lattice.specs.declared.start.Start.{Start}
use Rattle.ledger.specs.Ledgers.{counts}
use Rattle.lives.specs.Lives.{life_ledger, life_lattice, opposite_clock, of_mirror, seen_after}
use Rattle.lives.specs.Mirrors.{mirror_event}
use Rattle.lives.specs.Seen.{Recorded}
use Rattle.lives.specs.WaysBack.{LeadsHome, GoesBack}
use Rattle.lives.specs.declared.event.Event.{Event}
use Rattle.lives.specs.declared.memories.Memories.{Memories}
use Rattle.lives.specs.declared.outcome.Outcome.{Outcome}
use Rattle.scripts.specs.declared.state.State.TheVariants.{Rest}

abbrev pub opening : Start → Memories → Lattice
opening s m = held s m.cells.now

abbrev pub other : Memories → ℕ
other m = length m.second.now

-- the memories are those that were lent
abbrev pub SameLoan : {A : Type 0} → MutBor A → MutBor A → Type 0
SameLoan old new = (new.ref_ptr ≡ old.ref_ptr) × (new.ghost_name ≡ old.ghost_name)

abbrev pub SameLoans : Memories → Memories → Type 0
SameLoans old new =
    SameLoan old.cells new.cells × SameLoan old.mirror new.mirror × SameLoan old.home new.home × SameLoan old.second new.second × SameLoan old.script new.script × SameLoan old.seen new.seen

pub record Lived (f g : Lattice → Lattice) (s : Start) (es : List Event) (old new : Memories) (o : Outcome) : Type 0 where
  -- what is held and counted in the end follows from the ledger
  pub held_then : held o.start new.cells.now ≡ life_lattice f g (opening s old) (other old) es
  pub counted : o.counts ≡ counts (life_ledger (opening s old) (other old) es) (phase_of o.start)
  -- the mirror has a life of its own, over the reversed map and with the mirrored events, and holds the same in the end
  pub mirror : held o.mirror_start new.mirror.now ≡ life_lattice g f (opening s old) (other old) (map mirror_event es)
  pub mirror_counted : o.mirror_counts ≡ counts (life_ledger (opening s old) (other old) (map mirror_event es)) (phase_of o.mirror_start)
  pub same : held o.mirror_start new.mirror.now ≡ held o.start new.cells.now
  pub opposite : o.mirror_counts ≡ opposite_clock o.counts
  -- after each event, bench and mirror report what their ledgers say, and that is the same except for the sign of the clock
  pub replies : Recorded f g (opening s old) (other old) es old.seen.now new.seen.now
  pub alike : (k : ℕ) (e : Event) → (seen_after f g (opening s old) (other old) (take k es) e).mirror ≡ of_mirror (seen_after f g (opening s old) (other old) (take k es) e).bench
  -- the way back that was made, or why none was
  pub way_back : GoesBack f g (opening s old) (life_ledger (opening s old) (other old) es) old.script.now new.script.now old.home.now new.home.now o.way_back
  -- a life that stopped after any of its events would have a mirror that agrees with it and, if it were at rest there, a way back
  pub same_at : (k : ℕ) → life_lattice g f (opening s old) (other old) (map mirror_event (take k es)) ≡ life_lattice f g (opening s old) (other old) (take k es)
  pub home_at : (k : ℕ) → (life_ledger (opening s old) (other old) (take k es)).state ≡ Rest → LeadsHome f g (opening s old) (life_ledger (opening s old) (other old) (take k es))
  pub second : new.second.now ≡ old.second.now
  pub loans : SameLoans old new

pub record Unchanged (old new : Memories) : Type 0 where
  pub cells : new.cells.now ≡ old.cells.now
  pub mirror : new.mirror.now ≡ old.mirror.now
  pub home : new.home.now ≡ old.home.now
  pub second : new.second.now ≡ old.second.now
  pub script : new.script.now ≡ old.script.now
  pub seen : new.seen.now ≡ old.seen.now
  pub loans : SameLoans old new

abbrev pub AllWhole : Start → Memories → Type 0
AllWhole s m = (length m.cells.now ≡ width_of s * height_of s) × (length m.mirror.now ≡ width_of s * height_of s) × (length m.home.now ≡ width_of s * height_of s)

abbrev pub LifeIs : (Lattice → Lattice) → (Lattice → Lattice) → Start → List Event → Memories → Memories → Result Outcome BenchRefusal → Type 0
LifeIs f g s es old new (Ok o) = AllWhole s old × Lived f g s es old new o
LifeIs f g s es old new (Err e) = (AllWhole s old → ⊥) × (e ≡ Cells) × Unchanged old new
