-- After a run the bench rests on the lattice that comes of the opening one by the standing actions. Assumes nothing.
--     Stands f g l s     the ledger of s is sound, and s holds what the ledger says, if l was the opening lattice
use Rattle.std.proofs.Common.{◌≡◌, Bool, true, false, cond, List, [], ◌∷◌, ◌++◌, length, Some, None, Option, Ok, Err, Result, refl, sym, ap, ap₂, ◌∙◌, subst}
use Rattle.std.proofs.lemmas.Bool.{cond_both}
use Rattle.std.proofs.lemmas.List.Sums.{fold-append}
use Rattle.actions.specs.Actions.{all_made}
use Rattle.actions.specs.Flips.{all_flipped}
use Rattle.any_bench.proofs.Skipped.{at_test}
use Rattle.any_bench.specs.Calls.{booked_if, made_if}
use Rattle.any_bench.specs.Scenes.{Scene, after_call, after_calls}
use Rattle.faults.specs.declared.run.BenchRefusal.{BenchRefusal}
use Rattle.faults.specs.declared.run.RunFault.{RunFault}
use Rattle.lattice.specs.Lattice.{Lattice, Within, SameShape}
use Rattle.lattice.specs.Maps.{Reversible}
use Rattle.ledger.proofs.Held.{moved_held}
use Rattle.ledger.proofs.Shapes.{standing_shape}
use Rattle.ledger.proofs.Sound.{Sound, sound_at_opening, after_sound}
use Rattle.ledger.specs.Effects.{effect, standing_for}
use Rattle.ledger.specs.Ledgers.{Ledger, at_opening, booked}
use Rattle.ledger.specs.Refusals.{refusal, if_accepted, after}
use Rattle.runs.specs.Runs.{first_refused, made_of, closed_if, run_of}
use Rattle.runs.specs.Standing.{opened, HasLived, RestsOn}
use Rattle.scripts.specs.Records.{kind_of}
use Rattle.scripts.specs.States.{permits}
use Rattle.scripts.specs.declared.record.Record.TheVariants as Call
use Rattle.scripts.specs.declared.record.Record.{Record}
use Rattle.scripts.specs.declared.state.State.TheVariants.{Rest, Session}
use Rattle.scripts.specs.declared.state.State.{State}

pub record Stands (f g : Lattice → Lattice) (l : Lattice) (s : Scene) : Type 0 where
  pub sound : Sound l.width l.height s.ledger
  pub held : s.lattice ≡ standing_for f g s.ledger l

same_state : (b : Bool) (d : Option BenchRefusal) (x y : Ledger) → x.state ≡ y.state → (cond b (if_accepted d x y) y).state ≡ y.state
same_state false d x y same = refl
same_state true None x y same = same
same_state true (Some e) x y same = refl

module _ (f g : Lattice → Lattice) (laws : Reversible f g) (l : Lattice) (inside : Within l) where
  -- a call, made with the cells of what the ledger says
  module _ (c : Record) (led : Ledger) (s : Sound l.width l.height led) where
    shape : SameShape l (standing_for f g led l)
    shape = standing_shape f g laws l.width l.height led l s inside

    booked_is : booked_if (standing_for f g led l) c led ≡ cond (permits led.state (kind_of c)) (after l.width l.height (length (standing_for f g led l).cells) c led) led
    booked_is = ap₂ (λ w h. cond (permits led.state (kind_of c)) (after w h (length (standing_for f g led l).cells) c led) led) shape.width shape.height

    sound_then : Sound l.width l.height (booked_if (standing_for f g led l) c led)
    sound_then =
        let n = length (standing_for f g led l).cells in
        subst (Sound l.width l.height) (sym booked_is) (cond_both (permits led.state (kind_of c)) (after l.width l.height n c led) led (Sound l.width l.height) (λ may. after_sound l.width l.height n c led may s) (λ _. s))

    held_then : made_if f g c led (standing_for f g led l) ≡ standing_for f g (booked_if (standing_for f g led l) c led) l
    held_then =
        let m = standing_for f g led l in
        let d = refusal l.width l.height (length m.cells) c led in
        ap₂ (λ w h. cond (permits led.state (kind_of c)) (if_accepted (refusal w h (length m.cells) c led) (effect f g c led m) m) m) shape.width shape.height
        ∙ at_test (permits led.state (kind_of c)) d (booked c led) led (effect f g c led m) m (λ x. standing_for f g x l) (λ may. moved_held f g laws l.width l.height c led l may s inside d) refl
        ∙ ap (λ x. standing_for f g x l) (sym booked_is)

    stands_at : Stands f g l (after_call f g c (record { ledger = led; lattice = standing_for f g led l }))
    stands_at = record { sound = sound_then; held = held_then }

  stands_then : (c : Record) (s : Scene) → Stands f g l s → Stands f g l (after_call f g c s)
  stands_then c s now = subst (λ (m : Lattice). Stands f g l (after_call f g c (record { ledger = s.ledger; lattice = m }))) (sym now.held) (stands_at c s.ledger now.sound)

  pub stands_after : (cs : List Record) (s : Scene) → Stands f g l s → Stands f g l (after_calls f g s cs)
  stands_after [] s now = now
  stands_after (c ∷ cs) s now = stands_after cs (after_call f g c s) (stands_then c s now)

  stands_closed : (t : State) (s : Scene) → Stands f g l s → Stands f g l (closed_if t f g s)
  stands_closed Rest s now = now
  stands_closed Session s now = stands_then Call.Close (after_call f g Call.Clear s) (stands_then Call.Clear s now)

pub stands_opened : (f g : Lattice → Lattice) (l : Lattice) → Stands f g l (opened l)
stands_opened f g l = record { sound = sound_at_opening l.width l.height; held = refl }

-- clearing and then closing a session leaves the bench at rest
cleared : (f g : Lattice → Lattice) (s : Scene) → (after_call f g Call.Clear s).ledger.state ≡ s.ledger.state
cleared f g s =
    let l = s.lattice in
    same_state (permits s.ledger.state (kind_of Call.Clear)) (refusal l.width l.height (length l.cells) Call.Clear s.ledger) (booked Call.Clear s.ledger) s.ledger refl

closed : (f g : Lattice → Lattice) (s : Scene) → s.ledger.state ≡ Session → (after_call f g Call.Close s).ledger.state ≡ Rest
closed f g s is = ap (λ t. (cond (permits t (kind_of Call.Close)) (booked Call.Close s.ledger) s.ledger).state) is

rests_closed : (f g : Lattice → Lattice) (t : State) (s : Scene) → s.ledger.state ≡ t → (closed_if t f g s).ledger.state ≡ Rest
rests_closed f g Rest s is = is
rests_closed f g Session s is = closed f g (after_call f g Call.Clear s) (cleared f g s ∙ is)

-- a run keeps both, whether the text is accepted or not
module _ (f g : Lattice → Lattice) where
  made : Scene → List Record → Scene
  made s rs = after_calls f g s (made_of (first_refused f g s rs) rs)

  pub run_stands : Reversible f g → (l : Lattice) → Within l → (s : Scene) (a : Result (List Record) RunFault) → Stands f g l s → Stands f g l (run_of f g s a)
  unfolding made
  run_stands laws l inside s (Ok rs) now = stands_closed f g laws l inside (made s rs).ledger.state (made s rs) (stands_after f g laws l inside (made_of (first_refused f g s rs) rs) s now)
  run_stands laws l inside s (Err e) now = now

  pub run_rests : (s : Scene) (a : Result (List Record) RunFault) → s.ledger.state ≡ Rest → (run_of f g s a).ledger.state ≡ Rest
  unfolding made
  run_rests s (Ok rs) rest = rests_closed f g (made s rs).ledger.state (made s rs) refl
  run_rests s (Err e) rest = rest

  -- the calls so far, and those of the run
  more_lived : (l : Lattice) (s : Scene) (cs : List Record) → HasLived f g l s → HasLived f g l (after_calls f g s cs)
  more_lived l s cs so_far = record { calls = so_far.calls ++ cs; scene = ap (λ t. after_calls f g t cs) so_far.scene ∙ sym (fold-append (λ t c. after_call f g c t) (opened l) so_far.calls cs) }

  closed_lived : (l : Lattice) (t : State) (s : Scene) → HasLived f g l s → HasLived f g l (closed_if t f g s)
  closed_lived l Rest s so_far = so_far
  closed_lived l Session s so_far = more_lived l s (Call.Clear ∷ Call.Close ∷ []) so_far

  pub run_lived : (l : Lattice) (s : Scene) (a : Result (List Record) RunFault) → HasLived f g l s → HasLived f g l (run_of f g s a)
  unfolding made
  run_lived l s (Ok rs) so_far = closed_lived l (made s rs).ledger.state (made s rs) (more_lived l s (made_of (first_refused f g s rs) rs) so_far)
  run_lived l s (Err e) so_far = so_far

  pub run_rests_on : Reversible f g → (l : Lattice) → Within l → (s : Scene) (a : Result (List Record) RunFault) → s.ledger.state ≡ Rest → HasLived f g l s → RestsOn f g l (run_of f g s a)
  run_rests_on laws l inside s a rest lived =
      let before : Stands f g l s = subst (Stands f g l) (sym lived.scene) (stands_after f g laws l inside lived.calls (opened l) (stands_opened f g l)) in
      let stands = run_stands laws l inside s a before in
      let rests = run_rests s a rest in
      let none = stands.sound.at_rest rests in
      record { rests = rests; no_flips = none; held = stands.held ∙ ap (λ q. all_flipped q (all_made f g (run_of f g s a).ledger.standing l)) none }
