-- What is known of a call that is accepted. Assumes nothing.
use Rattle.std.proofs.Common.{◌≡◌, ℕ, ◌*◌, ◌<◌, ◌≤◌, ℤ, Bool, true, false, cond, nat_lt, nat_le, Some, None, Option, refl, arith, unsigned_abs}
use Rattle.std.proofs.lemmas.Bool.{eqb-true, eq-eqb, and_parts, lt-ltb, le-leb}
use Rattle.std.proofs.lemmas.Bool.Decides.{nat_tests}
use Rattle.std.specs.Option.{option_or}
use Rattle.std.specs.Prelude.{◌==◌, ◌&&◌, not}
use Rattle.actions.specs.Flips.{flip_refusal}
use Rattle.actions.specs.Limits.{is_step_count}
use Rattle.faults.specs.declared.run.BenchRefusal.{BenchRefusal}
use Rattle.faults.specs.declared.run.BenchRefusal.TheVariants.{Cells}
use Rattle.ledger.specs.Ledgers.{Ledger}
use Rattle.ledger.specs.Refusals.{if_room, step_refusal, own_refusal, takes_cells, refusal, if_accepted}
use Rattle.scripts.specs.declared.record.Record.{Record}

-- by cases: there is a refusal, or there is none
pub by_acceptance : {A : Type 0} (P : A → Type 0) (e : Option BenchRefusal) (x y : A) → (e ≡ None → P x) → P y → P (if_accepted e x y)
by_acceptance P None x y yes' no' = yes' refl
by_acceptance P (Some e) x y yes' no' = no'

-- a test that is passed
passes : (b : Bool) (d : Option BenchRefusal) (e : BenchRefusal) → cond b d (Some e) ≡ None → (b ≡ true) × (d ≡ None)
passes true d e h = (refl, h)
passes false d e h = absurd cc

pub room_left : (k : ℕ) → if_room k ≡ None → k < 256
room_left k h = let t = (passes (nat_lt k 256) None _ h).0 in grind (arith, nat_tests)

pub step_accepted : (z : ℤ) (k : ℕ) → step_refusal z k ≡ None → (0 < unsigned_abs z) × (unsigned_abs z ≤ 10000) × (k < 256)
step_accepted z k h =
    let p = passes (is_step_count z) (if_room k) _ h in
    let q = and_parts (nat_lt 0 (unsigned_abs z)) (nat_le (unsigned_abs z) 10000) p.0 in
    let some = q.0 in
    let few = q.1 in
    (grind (arith, nat_tests), grind (arith, nat_tests), room_left k p.1)

pub flip_accepted : (w h c r m k : ℕ) → option_or (flip_refusal w h c r m) (if_room k) ≡ None → (c < w) × (r < h) × (0 < m) × (m < 256) × (k < 256)
flip_accepted w h c r m k e = here (flip_refusal w h c r m) refl e
  where
    here : (d : Option BenchRefusal) → flip_refusal w h c r m ≡ d → option_or d (if_room k) ≡ None → (c < w) × (r < h) × (0 < m) × (m < 256) × (k < 256)
    here (Some x) is no' = absurd cc
    here None is room' =
        let p = passes (nat_lt c w && nat_lt r h) _ _ is in
        let q = passes (nat_lt 0 m && nat_le m 255) None _ p.1 in
        let s = and_parts (nat_lt c w) (nat_lt r h) p.0 in
        let t = and_parts (nat_lt 0 m) (nat_le m 255) q.0 in
        let a = s.0 in
        let b = s.1 in
        let x = t.0 in
        let y = t.1 in
        (grind (arith, nat_tests), grind (arith, nat_tests), grind (arith, nat_tests), grind (arith, nat_tests), room_left k room')

-- an accepted call that needs cells got as many as the lattice has, and no other cause applies to it
pub cells_accepted : (w h n : ℕ) (c : Record) (led : Ledger) → takes_cells c ≡ true → refusal w h n c led ≡ None → (n ≡ w * h) × (own_refusal w h c led ≡ None)
cells_accepted w h n c led takes e = here (n == w * h) refl (rw takes at e)
  where
    here : (b : Bool) → (n == w * h) ≡ b → cond (true && not b) (Some Cells) (own_refusal w h c led) ≡ None → (n ≡ w * h) × (own_refusal w h c led ≡ None)
    here true is e = (eqb-true n (w * h) is, e)
    here false is e = absurd cc

-- the converse
pub room_refusal : (k : ℕ) → k < 256 → if_room k ≡ None
room_refusal k h = rw (lt-ltb k 256 h) refl

pub step_taken : (z : ℤ) (k : ℕ) → 0 < unsigned_abs z → unsigned_abs z ≤ 10000 → step_refusal z k ≡ if_room k
step_taken z k some few = rw (lt-ltb 0 (unsigned_abs z) some, le-leb (unsigned_abs z) 10000 few) refl

pub flip_taken : (w h c r m k : ℕ) → c < w → r < h → 0 < m → m < 256 → k < 256 → option_or (flip_refusal w h c r m) (if_room k) ≡ None
flip_taken w h c r m k c< r< some small room =
    let mask : m ≤ 255 = omega arith in
    rw (lt-ltb c w c<, lt-ltb r h r<, lt-ltb 0 m some, le-leb m 255 mask, lt-ltb k 256 room) refl

-- a call that is passed the cells of the lattice is refused only for causes of its own
pub whole_refusal : (w h : ℕ) (c : Record) (led : Ledger) → refusal w h (w * h) c led ≡ own_refusal w h c led
whole_refusal w h c led = rw (eq-eqb (w * h) (w * h) refl) (here (takes_cells c) (own_refusal w h c led))
  where
    here : (b : Bool) (o : Option BenchRefusal) → cond (b && not true) (Some Cells) o ≡ o
    here true o = refl
    here false o = refl
