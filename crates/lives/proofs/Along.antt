-- Where a bench and its mirror are in a life, and where one more event leads them. Assumes nothing.
--     Along f g l n es x h y i     after the events es the bench has the ledger x and holds h, the mirror has y and holds i, as the life says
use Rattle.std.proofs.Common.{◌≡◌, ℕ, List, [], ◌∷◌, ◌++◌, sym, ap, ap₂, ◌∙◌}
use Rattle.lattice.specs.Lattice.{Lattice, Within}
use Rattle.lattice.specs.Maps.{Reversible}
use Rattle.ledger.proofs.Mirrored.{mirrored}
use Rattle.ledger.specs.Ledgers.{Ledger, counts}
use Rattle.lives.proofs.MirrorLaws.{mirror_counts, mirror_replies}
use Rattle.lives.proofs.Pairs.{bench_answered, bench_ledger, bench_lattice, image_answered, image_ledger, image_lattice}
use Rattle.lives.specs.Events.{event_answered, event_booked, event_made}
use Rattle.lives.specs.Lives.{life_ledger, life_lattice, reply_after, of_mirror, seen_after}
use Rattle.lives.specs.Mirrors.{mirror_event}
use Rattle.lives.specs.declared.event.Event.{Event}
use Rattle.lives.specs.declared.event.Seen.{Seen}

pub record Along (f g : Lattice → Lattice) (l : Lattice) (n : ℕ) (es : List Event) (x : Ledger) (h : Lattice) (y : Ledger) (i : Lattice) : Type 0 where
  pub ledger : x ≡ life_ledger l n es
  pub lattice : h ≡ life_lattice f g l n es
  pub image_ledger : y ≡ mirrored (life_ledger l n es)
  pub image_lattice : i ≡ life_lattice f g l n es

module _ (f g : Lattice → Lattice) (laws : Reversible f g) (l : Lattice) (inside : Within l) (n : ℕ) (es : List Event) (x : Ledger) (h : Lattice) (y : Ledger) (i : Lattice) (so_far : Along f g l n es x h y i) (e : Event)
    (x' : Ledger) (h' : Lattice) (y' : Ledger) (i' : Lattice) (booked : x' ≡ event_booked h.width h.height n e x) (made : h' ≡ event_made f g n e x h)
    (image_booked : y' ≡ event_booked i.width i.height n (mirror_event e) y) (image_made : i' ≡ event_made g f n (mirror_event e) y i) where
  pub along_more : Along f g l n (es ++ (e ∷ [])) x' h' y' i'
  along_more = record {
    ledger = booked ∙ bench_ledger f g laws l inside n es h x e so_far.lattice so_far.ledger;
    lattice = made ∙ bench_lattice f g laws l inside n es h x e so_far.lattice so_far.ledger;
    image_ledger = image_booked ∙ image_ledger f g laws l inside n es i y e so_far.image_lattice so_far.image_ledger;
    image_lattice = image_made ∙ image_lattice f g laws l inside n es i y e so_far.image_lattice so_far.image_ledger;
  }

  bench_counts : counts x' h'.phase ≡ (reply_after f g l n es e).counts
  bench_counts = ap₂ (λ u m. counts u m.phase) along_more.ledger along_more.lattice

  image_counts : counts y' i'.phase ≡ (of_mirror (reply_after f g l n es e)).counts
  image_counts =
      ap₂ (λ u m. counts u m.phase) along_more.image_ledger along_more.image_lattice
      ∙ mirror_counts (life_ledger l n (es ++ (e ∷ []))) (life_lattice f g l n (es ++ (e ∷ []))).phase

  -- what both report
  pub seen_more : (s : Seen) → s.bench.answer ≡ event_answered h.width h.height n e x → s.bench.counts ≡ counts x' h'.phase
      → s.mirror.answer ≡ event_answered i.width i.height n (mirror_event e) y → s.mirror.counts ≡ counts y' i'.phase → s ≡ seen_after f g l n es e
  seen_more s a c b d =
      let answered = a ∙ bench_answered f g laws l inside n es h x e so_far.lattice so_far.ledger in
      let image = b ∙ image_answered f g laws l inside n es i y e so_far.image_lattice so_far.image_ledger in
      let both = c ∙ bench_counts in
      let both_images = d ∙ image_counts in
      let is : s ≡ record { bench = reply_after f g l n es e; mirror = of_mirror (reply_after f g l n es e) } =
      λ j. record { bench = record { answer = answered j; counts = both j }; mirror = record { answer = image j; counts = both_images j } }
      in
      is ∙ ap (λ t. record { bench = reply_after f g l n es e; mirror = t }) (sym (mirror_replies f g l n es e))
