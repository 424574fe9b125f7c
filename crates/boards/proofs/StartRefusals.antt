-- Why numbers make no start record. Assumes nothing.
use Rattle.std.proofs.Common.{◌≡◌, ℕ, ◌*◌, Bool, true, false, ◌&&◌, cond, leb, None, Some, refl, subst}
use Rattle.std.proofs.lemmas.Bool.{le-leb, lt-leb, leb-true, leb-false}
use Rattle.std.proofs.lemmas.Bool.Decides.{nat_tests}
use Rattle.lattice.specs.Lattice.{Lattice, Within}
use Rattle.lattice.specs.Limits.{Side, side_test, max_area, max_phase}
use Rattle.lattice.specs.Refusals.{start_refusal}
use Rattle.lattice.specs.declared.refusal.StartRefusal.{StartRefusal}
use Rattle.lattice.specs.declared.refusal.StartRefusal.TheVariants as Cause
use Rattle.boards.proofs.HexText.{AreBytes, bytes_at_once}
use Rattle.boards.specs.Laws.{RefusedStart}
use Rattle.std.proofs.Common.{arith}

side_passes : (n : ℕ) → Side n → side_test n ≡ true
side_passes n s = grind (arith, nat_tests, s.0, s.1, s.2)

side_passed : (n : ℕ) → side_test n ≡ true → Side n
side_passed n e = (grind (arith, nat_tests), grind (arith, nat_tests), grind (arith, nat_tests))

-- a lattice within the limits is not refused
pub not_refused : (l : Lattice) → Within l → start_refusal l.width l.height l.phase ≡ None
not_refused l w = rw (side_passes l.width w.wide, side_passes l.height w.high, le-leb (l.width * l.height) max_area w.area, le-leb l.phase max_phase w.phased) refl

all_passed : (a b c d : Bool) → cond (a && b) (cond c (cond d None (Some Cause.Phase)) (Some Cause.Area)) (Some Cause.Side) ≡ None → (a ≡ true) × (b ≡ true) × (c ≡ true) × (d ≡ true)
all_passed true true true true is = (refl, refl, refl, refl)
all_passed true true true false is = absurd cc
all_passed true true false d is = absurd cc
all_passed true false c d is = absurd cc
all_passed false b c d is = absurd cc

-- and one that is not refused is within them
pub within_limits : (l : Lattice) → start_refusal l.width l.height l.phase ≡ None → AreBytes l.cells → Within l
within_limits l accepted bytes =
    let tests = all_passed (side_test l.width) (side_test l.height) (leb (l.width * l.height) max_area) (leb l.phase max_phase) accepted in
    record {
      wide = side_passed l.width tests.0;
      high = side_passed l.height tests.1;
      area = leb-true (l.width * l.height) max_area tests.2;
      phased = leb-true l.phase max_phase tests.3;
      bytes = bytes_at_once l.cells bytes;
    }

-- the cause is the first
refused_by : (w h p : ℕ) (x : StartRefusal) (a b c d : Bool) → side_test w ≡ a → side_test h ≡ b → leb (w * h) max_area ≡ c → leb p max_phase ≡ d → cond (a && b) (cond c (cond d None (Some Cause.Phase)) (Some Cause.Area)) (Some Cause.Side) ≡ Some x → RefusedStart w h p x
refused_by w h p x true true true true wide high small low is = absurd cc
refused_by w h p x true true true false wide high small low is =
    let same : Cause.Phase ≡ x = cc in
    subst (RefusedStart w h p) same (side_passed w wide, side_passed h high, leb-true (w * h) max_area small, leb-false p max_phase low)
refused_by w h p x true true false d wide high small low is =
    let same : Cause.Area ≡ x = cc in
    subst (RefusedStart w h p) same (side_passed w wide, side_passed h high, leb-false (w * h) max_area small)
refused_by w h p x true false c d wide high small low is =
    let same : Cause.Side ≡ x = cc in
    subst (RefusedStart w h p) same (λ s. let yes : side_test h ≡ true = side_passes h s.1 in absurd cc)
refused_by w h p x false b c d wide high small low is =
    let same : Cause.Side ≡ x = cc in
    subst (RefusedStart w h p) same (λ s. let yes : side_test w ≡ true = side_passes w s.0 in absurd cc)

pub refused_start : (w h p : ℕ) (x : StartRefusal) → start_refusal w h p ≡ Some x → RefusedStart w h p x
refused_start w h p x is = refused_by w h p x (side_test w) (side_test h) (leb (w * h) max_area) (leb p max_phase) refl refl refl refl is

-- and what is the first is the cause
no_sides : (w h p : ℕ) (a b : Bool) → side_test w ≡ a → side_test h ≡ b → (Side w × Side h → ⊥) → start_refusal w h p ≡ Some Cause.Side
no_sides w h p true true wide high none = absurd (none (side_passed w wide, side_passed h high))
no_sides w h p true false wide high none = rw (wide, high) refl
no_sides w h p false b wide high none = rw wide refl

pub start_is_refused : (w h p : ℕ) (x : StartRefusal) → RefusedStart w h p x → start_refusal w h p ≡ Some x
start_is_refused w h p Cause.Side none = no_sides w h p (side_test w) (side_test h) refl refl none
start_is_refused w h p Cause.Area r = rw (side_passes w r.0, side_passes h r.1, lt-leb (w * h) max_area r.2) refl
start_is_refused w h p Cause.Phase r = rw (side_passes w r.0, side_passes h r.1, le-leb (w * h) max_area r.2, lt-leb p max_phase r.3) refl
