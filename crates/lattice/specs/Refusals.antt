-- Refusals of a start record: which cause comes first, and the number of each.
--     start_number e         the number of the cause e
--     start_refusal w h p    the first cause that applies, in the order of the numbers
--     Started w h p r        making a start record of w, h and p returns r
use Rattle.std.specs.Prelude.{◌≡◌, ℕ, ◌*◌, cond, ◌&&◌, Some, None, Ok, Err, Option, Result, nat_le}
use Rattle.lattice.specs.Limits.{side_test, max_area, max_phase}
use Rattle.lattice.specs.Starts.{width_of, height_of, phase_of}
use Rattle.lattice.specs.declared.refusal.StartRefusal.{StartRefusal}
use Rattle.lattice.specs.declared.refusal.StartRefusal.TheVariants.{Side, Area, Phase}
use Rattle.lattice.specs.declared.start.Start.{Start}

abbrev pub start_number : StartRefusal → ℕ
start_number Side = 1
start_number Area = 2
start_number Phase = 3

abbrev pub start_refusal : ℕ → ℕ → ℕ → Option StartRefusal
start_refusal w h p = cond (side_test w && side_test h) (cond (nat_le (w * h) max_area) (cond (nat_le p max_phase) None (Some Phase)) (Some Area)) (Some Side)

abbrev pub Started : ℕ → ℕ → ℕ → Result Start StartRefusal → Type 0
Started w h p (Ok s) = (start_refusal w h p ≡ None) × (width_of s ≡ w) × (height_of s ≡ h) × (phase_of s ≡ p)
Started w h p (Err e) = start_refusal w h p ≡ Some e
