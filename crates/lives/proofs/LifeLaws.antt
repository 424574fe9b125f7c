-- An event leads a bench and its mirror from what their ledgers say before it to what they say after it. Assumes nothing.
use Rattle.std.proofs.Common.{◌≡◌, ℕ, cond, List, [], ◌∷◌, ◌++◌, fold, refl, ap₂, ◌∙◌}
use Rattle.std.proofs.lemmas.Bool.{and_parts, cond_both}
use Rattle.std.proofs.lemmas.List.Sums.{fold_push}
use Rattle.any_bench.proofs.Skipped.{at_test}
use Rattle.lattice.specs.Lattice.{Lattice, Within, SameShape}
use Rattle.lattice.specs.Maps.{Reversible}
use Rattle.ledger.proofs.Held.{moved_held}
use Rattle.ledger.proofs.Shapes.{standing_shape}
use Rattle.ledger.proofs.Sound.{Sound, sound_at_opening, after_sound}
use Rattle.ledger.specs.Effects.{effect, standing_for}
use Rattle.ledger.specs.Ledgers.{Ledger, at_opening, booked}
use Rattle.ledger.specs.Refusals.{refusal, if_accepted, after}
use Rattle.lives.specs.Events.{lent_cells, is_call, event_booked, event_made}
use Rattle.lives.specs.Lives.{life_ledger}
use Rattle.lives.specs.declared.event.Event.{Event}

event_sound : (w h n : ℕ) (e : Event) (led : Ledger) → Sound w h led → Sound w h (event_booked w h n e led)
event_sound w h n e led s = cond_both (is_call w h n e led) (after w h (lent_cells w h n e) e.call led) led (Sound w h) (λ is. after_sound w h (lent_cells w h n e) e.call led (and_parts _ _ is).0 s) (λ _. s)

sound_from : (w h n : ℕ) (es : List Event) (led : Ledger) → Sound w h led → Sound w h (fold (λ x e. event_booked w h n e x) led es)
sound_from w h n [] led s = s
sound_from w h n (e ∷ es) led s = sound_from w h n es (event_booked w h n e led) (event_sound w h n e led s)

pub life_sound : (l : Lattice) (n : ℕ) (es : List Event) → Sound l.width l.height (life_ledger l n es)
life_sound l n es = sound_from l.width l.height n es at_opening (sound_at_opening l.width l.height)

pub life_more : (l : Lattice) (n : ℕ) (es : List Event) (e : Event) → life_ledger l n (es ++ (e ∷ [])) ≡ event_booked l.width l.height n e (life_ledger l n es)
life_more l n es e = fold_push (λ x d. event_booked l.width l.height n d x) at_opening es e

module _ (f g : Lattice → Lattice) (laws : Reversible f g) (l : Lattice) (inside : Within l) (n : ℕ) (e : Event) (led : Ledger) (s : Sound l.width l.height led) where
  shape : SameShape l (standing_for f g led l)
  shape = standing_shape f g laws l.width l.height led l s inside

  pub event_held : event_made f g n e led (standing_for f g led l) ≡ standing_for f g (event_booked l.width l.height n e led) l
  event_held =
      let m = standing_for f g led l in
      let d = refusal l.width l.height (lent_cells l.width l.height n e) e.call led in
      ap₂ (λ w h. cond (is_call w h n e led) (if_accepted (refusal w h (lent_cells w h n e) e.call led) (effect f g e.call led m) m) m) shape.width shape.height
      ∙ at_test (is_call l.width l.height n e led) d (booked e.call led) led (effect f g e.call led m) m (λ x. standing_for f g x l) (λ is. moved_held f g laws l.width l.height e.call led l (and_parts _ _ is).0 s inside d) refl
