-- A bench holds what its ledger says, and each call keeps it so. Assumes nothing.
use Rattle.std.proofs.Common.{◌≡◌, ℕ, ◌-◌, true, List, [], ◌∷◌, ◌++◌, length, take, Some, None, Option, refl, sym, ap, ◌∙◌}
use Rattle.std.proofs.lemmas.List.{take-append-drop}
use Rattle.std.proofs.lemmas.List.Elements.{All-weaker, All-drop, All-take}
use Rattle.std.proofs.lemmas.List.Sums.{fold-append}
use Rattle.std.specs.List.{All}
use Rattle.actions.proofs.Home.{ByteMask, ByteMasks, all_flipped_back, all_flipped_within, all_made_within, all_made_back}
use Rattle.actions.specs.Actions.{Action, Step, Edit, moved, made, all_made, home_of}
use Rattle.actions.specs.Flips.{flipped, all_flipped}
use Rattle.actions.specs.declared.flip.Flip.{Flip}
use Rattle.faults.specs.declared.run.BenchRefusal.{BenchRefusal}
use Rattle.lattice.specs.Lattice.{Lattice, Within}
use Rattle.lattice.specs.Maps.{Reversible}
use Rattle.ledger.proofs.Sound.{Sound, FlipOn, ActionOn, is_rest}
use Rattle.ledger.specs.Effects.{effect, standing_for}
use Rattle.ledger.specs.Ledgers.{Ledger, edit_of, earlier, latest, booked}
use Rattle.ledger.specs.Refusals.{if_accepted}
use Rattle.scripts.specs.Records.{kind_of}
use Rattle.scripts.specs.States.{permits}
use Rattle.scripts.specs.declared.record.Record.{Record}
use Rattle.scripts.specs.declared.record.Record.TheVariants as Call
use Rattle.scripts.specs.declared.word.Word.TheVariants.{Step as StepWord, Undo as UndoWord, Redo as RedoWord}

flip_mask : (w h : ℕ) (f : Flip) → FlipOn w h f → ByteMask f
flip_mask w h f on = on.3

action_masks : (w h : ℕ) (a : Action) → ActionOn w h a → ByteMasks a
action_masks w h (Step z) on = tt
action_masks w h (Edit fs) on = All-weaker (FlipOn w h) ByteMask (flip_mask w h) fs on.0

pub byte_masks : (w h : ℕ) (acts : List Action) → All (ActionOn w h) acts → All ByteMasks acts
byte_masks w h acts on = All-weaker (ActionOn w h) ByteMasks (action_masks w h) acts on

module _ (f g : Lattice → Lattice) (laws : Reversible f g) (w h : ℕ) where
  all_made_append : (acts more : List Action) (l : Lattice) → all_made f g (acts ++ more) l ≡ all_made f g more (all_made f g acts l)
  all_made_append acts more l = fold-append (λ m a. made f g a m) l acts more

  edit_made : (fs : List Flip) (l : Lattice) → all_made f g (edit_of fs) l ≡ all_flipped fs l
  edit_made [] l = refl
  edit_made (x ∷ fs) l = refl

  no_flips : (fs : List Flip) → fs ≡ [] → (l : Lattice) → all_flipped fs l ≡ l
  no_flips fs none l = ap (λ x. all_flipped x l) none

  pub standing_within : (led : Ledger) (l : Lattice) → Sound w h led → Within l → Within (standing_for f g led l)
  standing_within led l s i = all_flipped_within led.session (all_made f g led.standing l) (All-weaker (FlipOn w h) ByteMask (flip_mask w h) led.session s.session)
      (all_made_within f g laws led.standing l (byte_masks w h led.standing s.standing) i)

  -- an accepted call leads from what the ledger says before it to what the ledger says after it
  pub effect_held : (c : Record) (led : Ledger) (l : Lattice) → permits led.state (kind_of c) ≡ true → Sound w h led → Within l
      → effect f g c led (standing_for f g led l) ≡ standing_for f g (booked c led) l
  effect_held (Call.Step z) led l may s i =
      let none = s.at_rest (is_rest StepWord led.state refl may) in
      ap (moved f g z) (no_flips led.session none _) ∙ sym (no_flips led.session none _ ∙ all_made_append led.standing (Step z ∷ []) l)
  effect_held Call.Undo led l may s i =
      let none = s.at_rest (is_rest UndoWord led.state refl may) in
      let on = byte_masks w h led.standing s.standing in
      let k = length led.standing - 1 in
      let before = all_made f g (earlier led) l in
      let split : all_made f g led.standing l ≡ all_made f g (latest led) before =
      sym (ap (λ acts. all_made f g acts l) (take-append-drop k led.standing)) ∙ all_made_append (earlier led) (latest led) l
      in
      ap (all_made f g (home_of (latest led))) (no_flips led.session none _ ∙ split)
      ∙ all_made_back f g laws (latest led) before (All-drop ByteMasks k led.standing on) (all_made_within f g laws (earlier led) l (All-take ByteMasks k led.standing on) i)
      ∙ sym (no_flips led.session none before)
  effect_held Call.Redo led l may s i =
      let none = s.at_rest (is_rest RedoWord led.state refl may) in
      ap (all_made f g (take 1 led.undone)) (no_flips led.session none _) ∙ sym (no_flips led.session none _ ∙ all_made_append led.standing (take 1 led.undone) l)
  effect_held Call.Open led l may s i = refl
  effect_held (Call.Flip c r m) led l may s i = sym (fold-append (λ m x. flipped x m) (all_made f g led.standing l) led.session (record { col = c; row = r; mask = m } ∷ []))
  effect_held Call.Clear led l may s i = all_flipped_back led.session (all_made f g led.standing l)
  effect_held Call.Close led l may s i = sym (all_made_append led.standing (edit_of led.session) l ∙ edit_made led.session (all_made f g led.standing l))

  -- so does any call, accepted or not
  pub moved_held : (c : Record) (led : Ledger) (l : Lattice) → permits led.state (kind_of c) ≡ true → Sound w h led → Within l → (e : Option BenchRefusal)
      → if_accepted e (effect f g c led (standing_for f g led l)) (standing_for f g led l) ≡ standing_for f g (if_accepted e (booked c led) led) l
  moved_held c led l may s i None = effect_held c led l may s i
  moved_held c led l may s i (Some e) = refl
