-- The ledger of the mirror is that of the bench with each step count negated. Assumes nothing.
--     mirrored led     that ledger
use Rattle.std.proofs.Common.{◌≡◌, ℕ, zero, suc, ◌+◌, ◌-◌, ◌*◌, ◌^◌, ◌≤◌, ℤ, pos, negsuc, neg_ℤ, true, false, Bool, cond, List, [], ◌∷◌, ◌++◌, length, take, drop, map, fold, nat_lt, unsigned_abs, Some, None, Option, Ok, refl, sym, ap, ap₂, ◌∙◌, arith}
use Rattle.std.proofs.Math.IntN.{neg_ℤ-+ℤ}
use Rattle.std.proofs.lemmas.Bool.{cond-true}
use Rattle.std.proofs.lemmas.Bool.Decides.{nat_tests}
use Rattle.std.proofs.lemmas.List.{length-map, map-append, take-map, drop-map}
use Rattle.std.specs.Prelude.{◌+ℤ◌, ◌&&◌, ◌==◌, not}
use Rattle.actions.specs.Actions.{Action, Step, Edit, moved, made, all_made}
use Rattle.actions.specs.Answers.{unless}
use Rattle.actions.specs.Flips.{all_flipped}
use Rattle.actions.specs.declared.flip.Flip.{Flip}
use Rattle.faults.specs.declared.run.BenchRefusal.{BenchRefusal}
use Rattle.faults.specs.declared.run.BenchRefusal.TheVariants.{Cells}
use Rattle.lattice.specs.Lattice.{Lattice}
use Rattle.ledger.proofs.Accepted.{step_accepted, cells_accepted}
use Rattle.ledger.specs.Effects.{standing_for}
use Rattle.ledger.specs.Ledgers.{Ledger, size, entries, ticks, clock_of, used, edit_of, earlier, latest, booked}
use Rattle.ledger.specs.Mirrors.{opposite, mirror_call}
use Rattle.ledger.specs.Refusals.{own_refusal, takes_cells, refusal, if_accepted, answer, after}
use Rattle.scripts.specs.Records.{kind_of}
use Rattle.scripts.specs.declared.record.Record.{Record}
use Rattle.scripts.specs.declared.record.Record.TheVariants as Call
use Rattle.scripts.specs.declared.state.State.{State}
use Rattle.scripts.specs.declared.state.State.TheVariants.{Rest}

abbrev pub mirror_action : Action → Action
mirror_action (Step z) = Step (neg_ℤ z)
mirror_action (Edit fs) = Edit fs

abbrev pub mirrored : Ledger → Ledger
mirrored led = record { standing = map mirror_action led.standing; undone = map mirror_action led.undone; session = led.session; state = led.state }

same_size : (a : Action) → size (mirror_action a) ≡ size a
same_size (Step z) = refl
same_size (Edit fs) = refl

same_sum : (k : ℕ) (acts : List Action) → fold (λ n a. n + size a) k (map mirror_action acts) ≡ fold (λ n a. n + size a) k acts
same_sum k [] = refl
same_sum k (a ∷ acts) = ap (λ s. fold (λ n b. n + size b) (k + s) (map mirror_action acts)) (same_size a) ∙ same_sum (k + size a) acts

pub same_entries : (acts : List Action) → entries (map mirror_action acts) ≡ entries acts
same_entries acts = same_sum 0 acts

neg_ticks : (a : Action) → ticks (mirror_action a) ≡ neg_ℤ (ticks a)
neg_ticks (Step z) = refl
neg_ticks (Edit fs) = refl

neg_sum : (t : ℤ) (acts : List Action) → fold (λ s a. s +ℤ ticks a) (neg_ℤ t) (map mirror_action acts) ≡ neg_ℤ (fold (λ s a. s +ℤ ticks a) t acts)
neg_sum t [] = refl
neg_sum t (a ∷ acts) =
    ap (λ s. fold (λ s b. s +ℤ ticks b) s (map mirror_action acts)) (ap (λ x. neg_ℤ t +ℤ x) (neg_ticks a) ∙ sym (neg_ℤ-+ℤ t (ticks a)))
    ∙ neg_sum (t +ℤ ticks a) acts

-- the clock is negated
pub neg_clock : (acts : List Action) → clock_of (map mirror_action acts) ≡ neg_ℤ (clock_of acts)
neg_clock acts = neg_sum (pos 0) acts

moved_mirrored : (f g : Lattice → Lattice) (z : ℤ) (l : Lattice) → moved g f (neg_ℤ z) l ≡ moved f g z l
moved_mirrored f g (pos zero) l = refl
moved_mirrored f g (pos (suc n)) l = refl
moved_mirrored f g (negsuc n) l = refl

made_mirrored : (f g : Lattice → Lattice) (a : Action) (l : Lattice) → made g f (mirror_action a) l ≡ made f g a l
made_mirrored f g (Step z) l = moved_mirrored f g z l
made_mirrored f g (Edit fs) l = refl

all_made_mirrored : (f g : Lattice → Lattice) (acts : List Action) (l : Lattice) → all_made g f (map mirror_action acts) l ≡ all_made f g acts l
all_made_mirrored f g [] l = refl
all_made_mirrored f g (a ∷ acts) l = ap (all_made g f (map mirror_action acts)) (made_mirrored f g a l) ∙ all_made_mirrored f g acts (made f g a l)

-- both hold the same lattice
pub standing_mirrored : (f g : Lattice → Lattice) (led : Ledger) (l : Lattice) → standing_for g f (mirrored led) l ≡ standing_for f g led l
standing_mirrored f g led l = ap (all_flipped led.session) (all_made_mirrored f g led.standing l)

-- a step count and its opposite
pub abs_neg : (z : ℤ) → unsigned_abs (neg_ℤ z) ≡ unsigned_abs z
abs_neg (pos zero) = refl
abs_neg (pos (suc n)) = refl
abs_neg (negsuc n) = refl

chosen : (b : Bool) (z : ℤ) → unsigned_abs (cond b (neg_ℤ z) z) ≡ unsigned_abs z
chosen true z = abs_neg z
chosen false z = refl

abs_opposite : (z : ℤ) → unsigned_abs (opposite z) ≡ unsigned_abs z
abs_opposite z = chosen (nat_lt (unsigned_abs z) (2 ^ 31)) z

opposite_of_small : (z : ℤ) → unsigned_abs z ≤ 10000 → opposite z ≡ neg_ℤ z
opposite_of_small z small = cond-true (nat_lt (unsigned_abs z) (2 ^ 31)) (neg_ℤ z) z (grind (arith, nat_tests))

edit_mirrored : (fs : List Flip) → map mirror_action (edit_of fs) ≡ edit_of fs
edit_mirrored [] = refl
edit_mirrored (f ∷ fs) = refl

-- both refuse a call for the same cause
own_mirrored : (w h : ℕ) (c : Record) (led : Ledger) → own_refusal w h (mirror_call c) (mirrored led) ≡ own_refusal w h c led
own_mirrored w h (Call.Step z) led = rw (abs_opposite z, same_entries led.standing) refl
own_mirrored w h Call.Undo led = rw (length-map led.standing mirror_action) refl
own_mirrored w h Call.Redo led = rw (length-map led.undone mirror_action) refl
own_mirrored w h Call.Open led = refl
own_mirrored w h (Call.Flip c r m) led = rw (same_entries led.standing) refl
own_mirrored w h Call.Clear led = refl
own_mirrored w h Call.Close led = refl

pub same_kind : (c : Record) → kind_of (mirror_call c) ≡ kind_of c
same_kind (Call.Step z) = refl
same_kind Call.Undo = refl
same_kind Call.Redo = refl
same_kind Call.Open = refl
same_kind (Call.Flip c r m) = refl
same_kind Call.Clear = refl
same_kind Call.Close = refl

pub takes_mirrored : (c : Record) → takes_cells (mirror_call c) ≡ takes_cells c
takes_mirrored (Call.Step z) = refl
takes_mirrored Call.Undo = refl
takes_mirrored Call.Redo = refl
takes_mirrored Call.Open = refl
takes_mirrored (Call.Flip c r m) = refl
takes_mirrored Call.Clear = refl
takes_mirrored Call.Close = refl

pub refusal_mirrored : (w h n : ℕ) (c : Record) (led : Ledger) → refusal w h n (mirror_call c) (mirrored led) ≡ refusal w h n c led
refusal_mirrored w h n c led = ap₂ (λ t o. cond (t && not (n == w * h)) (Some Cells) o) (takes_mirrored c) (own_mirrored w h c led)

abbrev made_of : List Action → List Action → List Flip → State → Ledger
made_of s u q st = record { standing = s; undone = u; session = q; state = st }

-- and book it alike
booked_mirrored : (w h n : ℕ) (c : Record) (led : Ledger) → refusal w h n c led ≡ None → booked (mirror_call c) (mirrored led) ≡ mirrored (booked c led)
booked_mirrored w h n (Call.Step z) led e =
    let ok = step_accepted z (used led) (cells_accepted w h n (Call.Step z) led refl e).1 in
    let o = opposite_of_small z ok.1 in
    let s : map mirror_action led.standing ++ (Step (opposite z) ∷ []) ≡ map mirror_action (led.standing ++ (Step z ∷ [])) =
    ap (λ x. map mirror_action led.standing ++ (Step x ∷ [])) o ∙ sym (map-append mirror_action led.standing (Step z ∷ []))
    in
    ap (λ acts. made_of acts [] led.session led.state) s
booked_mirrored w h n Call.Undo led e =
    let same = ap (λ k. k - 1) (length-map led.standing mirror_action) in
    let e : earlier (mirrored led) ≡ map mirror_action (earlier led) = ap (λ k. take k (map mirror_action led.standing)) same ∙ take-map mirror_action (length led.standing - 1) led.standing in
    let l : latest (mirrored led) ≡ map mirror_action (latest led) = ap (λ k. drop k (map mirror_action led.standing)) same ∙ drop-map mirror_action (length led.standing - 1) led.standing in
    let u = ap (λ x. x ++ map mirror_action led.undone) l ∙ sym (map-append mirror_action (latest led) led.undone) in
    ap₂ (λ x y. made_of x y led.session led.state) e u
booked_mirrored w h n Call.Redo led e =
    let s = ap (λ x. map mirror_action led.standing ++ x) (take-map mirror_action 1 led.undone) ∙ sym (map-append mirror_action led.standing (take 1 led.undone)) in
    ap₂ (λ x y. made_of x y led.session led.state) s (drop-map mirror_action 1 led.undone)
booked_mirrored w h n Call.Open led e = refl
booked_mirrored w h n (Call.Flip c r m) led e = refl
booked_mirrored w h n Call.Clear led e = refl
booked_mirrored w h n Call.Close led e =
    let s = ap (λ x. map mirror_action led.standing ++ x) (sym (edit_mirrored led.session)) ∙ sym (map-append mirror_action led.standing (edit_of led.session)) in
    ap (λ acts. made_of acts (map mirror_action led.undone) [] Rest) s

accepted_mirrored : (w h n : ℕ) (c : Record) (led : Ledger) (e : Option BenchRefusal) → refusal w h n c led ≡ e → if_accepted e (booked (mirror_call c) (mirrored led)) (mirrored led) ≡ mirrored (if_accepted e (booked c led) led)
accepted_mirrored w h n c led None is = booked_mirrored w h n c led is
accepted_mirrored w h n c led (Some e) is = refl

pub after_mirrored : (w h n : ℕ) (c : Record) (led : Ledger) → after w h n (mirror_call c) (mirrored led) ≡ mirrored (after w h n c led)
after_mirrored w h n c led =
    ap (λ e. if_accepted e (booked (mirror_call c) (mirrored led)) (mirrored led)) (refusal_mirrored w h n c led)
    ∙ accepted_mirrored w h n c led (refusal w h n c led) refl

answer_same : (w h n : ℕ) (c : Record) (led : Ledger) (e : Option BenchRefusal) → refusal w h n c led ≡ e → unless e (length (booked (mirror_call c) (mirrored led)).standing) ≡ unless e (length (booked c led).standing)
answer_same w h n c led (Some e) is = refl
answer_same w h n c led None is = ap (λ x. Ok (length x.standing)) (booked_mirrored w h n c led is) ∙ ap Ok (length-map (booked c led).standing mirror_action)

-- both give the same answer
pub answer_mirrored : (w h n : ℕ) (c : Record) (led : Ledger) → answer w h n (mirror_call c) (mirrored led) ≡ answer w h n c led
answer_mirrored w h n c led =
    ap (λ e. unless e (length (booked (mirror_call c) (mirrored led)).standing)) (refusal_mirrored w h n c led)
    ∙ answer_same w h n c led (refusal w h n c led) refl
