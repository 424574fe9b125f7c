-- Bench and mirror hold and report the same, apart from the sign of the clock. Assumes nothing.
use Rattle.std.proofs.Common.{◌≡◌, ℕ, ◌*◌, Bool, true, false, cond, List, [], ◌∷◌, ◌++◌, map, fold, length, neg_ℤ, refl, sym, ap, ap₂, ◌∙◌}
use Rattle.std.proofs.lemmas.List.{length-map, map-append}
use Rattle.std.specs.Prelude.{◌&&◌, ◌==◌, not}
use Rattle.any_bench.specs.Answers.{said}
use Rattle.any_bench.specs.declared.answer.Answer.TheVariants.{Skipped, Given}
use Rattle.lattice.proofs.Reversed.{reverse_laws}
use Rattle.lattice.specs.Lattice.{Lattice, Within}
use Rattle.lattice.specs.Maps.{Reversible}
use Rattle.ledger.proofs.Mirrored.{mirror_action, mirrored, neg_clock, standing_mirrored, same_kind, takes_mirrored, after_mirrored, answer_mirrored}
use Rattle.ledger.proofs.MirroredSound.{mirrored_sound}
use Rattle.ledger.proofs.Sound.{Sound}
use Rattle.ledger.specs.Effects.{standing_for}
use Rattle.ledger.specs.Ledgers.{Ledger, at_opening, clock_of, counts}
use Rattle.ledger.specs.Mirrors.{mirror_call}
use Rattle.ledger.specs.Refusals.{takes_cells, answer, after}
use Rattle.lives.proofs.LifeLaws.{event_held}
use Rattle.lives.specs.Events.{is_part, lent_cells, is_call, event_answered, event_booked, event_made}
use Rattle.lives.specs.Lives.{life_ledger, life_lattice, reply_after, of_mirror}
use Rattle.lives.specs.Mirrors.{mirror_event}
use Rattle.lives.specs.declared.event.Event.{Event}
use Rattle.scripts.specs.States.{permits}

module _ (w h n : ℕ) (e : Event) (led : Ledger) where
  same_call : is_call w h n (mirror_event e) (mirrored led) ≡ is_call w h n e led
  same_call = ap₂ (λ k t. permits led.state k && not (t && (is_part e.lent && lent_cells w h n e == w * h))) (same_kind e.call) (takes_mirrored e.call)

  pub mirror_answered : event_answered w h n (mirror_event e) (mirrored led) ≡ event_answered w h n e led
  mirror_answered =
      ap (λ b. cond b (cond (takes_cells (mirror_call e.call)) (said (answer w h (lent_cells w h n e) (mirror_call e.call) (mirrored led))) Given) Skipped) same_call
      ∙ ap₂ (λ t a. cond (is_call w h n e led) (cond t (said a) Given) Skipped) (takes_mirrored e.call) (answer_mirrored w h (lent_cells w h n e) e.call led)

  either : (b : Bool) (x : Ledger) → cond b (mirrored x) (mirrored led) ≡ mirrored (cond b x led)
  either true x = refl
  either false x = refl

  pub mirror_booked : event_booked w h n (mirror_event e) (mirrored led) ≡ mirrored (event_booked w h n e led)
  mirror_booked =
      ap₂ (λ b x. cond b x (mirrored led)) same_call (after_mirrored w h (lent_cells w h n e) e.call led) ∙ either (is_call w h n e led) (after w h (lent_cells w h n e) e.call led)

pub mirror_counts : (led : Ledger) (p : ℕ) → counts (mirrored led) p ≡ (length led.standing, length led.undone, neg_ℤ (clock_of led.standing), p)
mirror_counts led p =
    let s = length-map led.standing mirror_action in
    let u = length-map led.undone mirror_action in
    let c = neg_clock led.standing in
    λ i. (s i, u i, c i, p)

module _ (f g : Lattice → Lattice) (laws : Reversible f g) (l : Lattice) (inside : Within l) (n : ℕ) (e : Event) (led : Ledger) (s : Sound l.width l.height led) where
  pub mirror_held : event_made g f n (mirror_event e) (mirrored led) (standing_for f g led l) ≡ standing_for f g (event_booked l.width l.height n e led) l
  mirror_held =
      ap (event_made g f n (mirror_event e) (mirrored led)) (sym (standing_mirrored f g led l))
      ∙ event_held g f (reverse_laws laws) l inside n (mirror_event e) (mirrored led) (mirrored_sound l.width l.height led s)
      ∙ ap (λ x. standing_for g f x l) (mirror_booked l.width l.height n e led)
      ∙ standing_mirrored f g (event_booked l.width l.height n e led) l

mirror_from : (w h n : ℕ) (es : List Event) (led : Ledger) → fold (λ x e. event_booked w h n e x) (mirrored led) (map mirror_event es) ≡ mirrored (fold (λ x e. event_booked w h n e x) led es)
mirror_from w h n [] led = refl
mirror_from w h n (e ∷ es) led = ap (λ x. fold (λ y d. event_booked w h n d y) x (map mirror_event es)) (mirror_booked w h n e led) ∙ mirror_from w h n es (event_booked w h n e led)

-- the ledger of the mirror's own life
pub mirror_life : (l : Lattice) (n : ℕ) (es : List Event) → life_ledger l n (map mirror_event es) ≡ mirrored (life_ledger l n es)
mirror_life l n es = mirror_from l.width l.height n es at_opening

module _ (f g : Lattice → Lattice) (l : Lattice) (n : ℕ) (es : List Event) where
  -- it holds the same
  pub mirror_holds : life_lattice g f l n (map mirror_event es) ≡ life_lattice f g l n es
  mirror_holds = ap (λ x. standing_for g f x l) (mirror_life l n es) ∙ standing_mirrored f g (life_ledger l n es) l

module _ (f g : Lattice → Lattice) (l : Lattice) (n : ℕ) (es : List Event) (e : Event) where
  more : map mirror_event es ++ (mirror_event e ∷ []) ≡ map mirror_event (es ++ (e ∷ []))
  more = sym (map-append mirror_event es (e ∷ []))

  -- and reports the same, with the opposite clock
  pub mirror_replies : reply_after g f l n (map mirror_event es) (mirror_event e) ≡ of_mirror (reply_after f g l n es e)
  mirror_replies =
      let a = ap (event_answered l.width l.height n (mirror_event e)) (mirror_life l n es) ∙ mirror_answered l.width l.height n e (life_ledger l n es) in
      let led = ap (life_ledger l n) more ∙ mirror_life l n (es ++ (e ∷ [])) in
      let lattice = ap (life_lattice g f l n) more ∙ mirror_holds f g l n (es ++ (e ∷ [])) in
      let c = ap₂ (λ x m. counts x m.phase) led lattice ∙ mirror_counts (life_ledger l n (es ++ (e ∷ []))) (life_lattice f g l n (es ++ (e ∷ []))).phase in
      λ i. record { answer = a i; counts = c i }
