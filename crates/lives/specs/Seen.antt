-- The reports that are kept of a life.
--     Recorded f g l n es old new     in a life of the events es the memory of the reports goes from `old` to `new`: the place of each event gets what both
--                                     report of it, as long as there are places; the other places are as they were
use Rattle.std.specs.Prelude.{◌≡◌, ℕ, ◌<◌, ◌≤◌, List, length, take, Some, slice_get, slice_index_or}
use Rattle.lattice.specs.Lattice.{Lattice}
use Rattle.lives.specs.Lives.{seen_after}
use Rattle.lives.specs.declared.event.Event.{Event}
use Rattle.lives.specs.declared.event.Seen.{Seen}

pub record Recorded (f g : Lattice → Lattice) (l : Lattice) (n : ℕ) (es : List Event) (old new : List Seen) : Type 0 where
  pub count : length new ≡ length old
  pub replies : (k : ℕ) (e : Event) (s : Seen) → k < length old → slice_get es k ≡ Some e → slice_index_or new k s ≡ seen_after f g l n (take k es) e
  pub others : (k : ℕ) (s : Seen) → length es ≤ k → slice_index_or new k s ≡ slice_index_or old k s
