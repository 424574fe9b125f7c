-- One more event, of a bench and of its mirror. Assumes nothing.
use Rattle.std.proofs.Common.{◌≡◌, ℕ, List, [], ◌∷◌, ◌++◌, sym, ap, ap₂, ◌∙◌, subst}
use Rattle.lattice.proofs.Wholes.{same_shape_whole}
use Rattle.lattice.specs.Lattice.{Lattice, Whole, Within, SameShape}
use Rattle.lattice.specs.Maps.{Reversible}
use Rattle.ledger.proofs.Mirrored.{mirrored}
use Rattle.ledger.proofs.Shapes.{standing_shape}
use Rattle.ledger.specs.Effects.{standing_for}
use Rattle.ledger.specs.Ledgers.{Ledger}
use Rattle.lives.proofs.LifeLaws.{life_sound, life_more, event_held}
use Rattle.lives.proofs.MirrorLaws.{mirror_answered, mirror_booked, mirror_held}
use Rattle.lives.specs.Events.{event_answered, event_booked, event_made}
use Rattle.lives.specs.Lives.{life_ledger, life_lattice}
use Rattle.lives.specs.Mirrors.{mirror_event}
use Rattle.lives.specs.declared.event.Event.{Event}

module _ (f g : Lattice → Lattice) (laws : Reversible f g) (l : Lattice) (inside : Within l) (n : ℕ) (es : List Event) where
  life_shape : SameShape l (life_lattice f g l n es)
  life_shape = standing_shape f g laws l.width l.height (life_ledger l n es) l (life_sound l n es) inside

  pub life_whole : Whole l → (h : Lattice) → h ≡ life_lattice f g l n es → Whole h
  life_whole whole h is = subst Whole (sym is) (same_shape_whole l (life_lattice f g l n es) life_shape whole)

  -- h is held, and x is the ledger
  module _ (h : Lattice) (x : Ledger) (e : Event) (held_is : h ≡ life_lattice f g l n es) where
    wide : h.width ≡ l.width
    wide = ap (λ m. m.width) held_is ∙ life_shape.width

    high : h.height ≡ l.height
    high = ap (λ m. m.height) held_is ∙ life_shape.height

    module _ (led_is : x ≡ life_ledger l n es) where
      pub bench_answered : event_answered h.width h.height n e x ≡ event_answered l.width l.height n e (life_ledger l n es)
      bench_answered = ap₂ (λ w k. event_answered w k n e x) wide high ∙ ap (event_answered l.width l.height n e) led_is

      pub bench_ledger : event_booked h.width h.height n e x ≡ life_ledger l n (es ++ (e ∷ []))
      bench_ledger = ap₂ (λ w k. event_booked w k n e x) wide high ∙ ap (event_booked l.width l.height n e) led_is ∙ sym (life_more l n es e)

      pub bench_lattice : event_made f g n e x h ≡ life_lattice f g l n (es ++ (e ∷ []))
      bench_lattice =
          ap₂ (event_made f g n e) led_is held_is
          ∙ event_held f g laws l inside n e (life_ledger l n es) (life_sound l n es)
          ∙ ap (λ y. standing_for f g y l) (sym (life_more l n es e))

    module _ (led_is : x ≡ mirrored (life_ledger l n es)) where
      pub image_answered : event_answered h.width h.height n (mirror_event e) x ≡ event_answered l.width l.height n e (life_ledger l n es)
      image_answered =
          ap₂ (λ w k. event_answered w k n (mirror_event e) x) wide high ∙ ap (event_answered l.width l.height n (mirror_event e)) led_is ∙ mirror_answered l.width l.height n e (life_ledger l n es)

      pub image_ledger : event_booked h.width h.height n (mirror_event e) x ≡ mirrored (life_ledger l n (es ++ (e ∷ [])))
      image_ledger =
          ap₂ (λ w k. event_booked w k n (mirror_event e) x) wide high ∙ ap (event_booked l.width l.height n (mirror_event e)) led_is
          ∙ mirror_booked l.width l.height n e (life_ledger l n es) ∙ ap mirrored (sym (life_more l n es e))

      pub image_lattice : event_made g f n (mirror_event e) x h ≡ life_lattice f g l n (es ++ (e ∷ []))
      image_lattice =
          ap₂ (event_made g f n (mirror_event e)) led_is held_is
          ∙ mirror_held f g laws l inside n e (life_ledger l n es) (life_sound l n es)
          ∙ ap (λ y. standing_for f g y l) (sym (life_more l n es e))
