use Rattle.std.proofs.Common.{ℕ, length, get_or, take, refl, w8, Fits, sym, ap, ap₂, ◌∙◌, subst, rules}
use Rattle.any_bench.specs.AnyBenches.{any_ledger}
use Rattle.lattice.proofs.Starts.{held_within}
use Rattle.lattice.specs.Starts.{held, phase_of}
use Rattle.ledger.proofs.Mirrored.{mirrored as mirrored_ledger}
use Rattle.ledger.proofs.Sound.{Sound}
use Rattle.ledger.specs.Effects.{standing_for}
use Rattle.ledger.specs.Ledgers.{counts}
use Rattle.lives.proofs.LifeLaws.{life_sound}
use Rattle.lives.proofs.MirrorLaws.{mirror_counts, mirror_holds, mirror_life, mirror_replies}
use Rattle.lives.proofs.WaysHome.{leads_home}
use Rattle.lives.proofs.life.live_through.Goals as goal
use Rattle.lives.specs.Lives.{life_ledger, life_lattice, opposite_clock}
use Rattle.lives.specs.Seen.{Recorded}
use Rattle.lives.specs.WaysBack.{GoesBack}

pub go_back-way_back-requires-clause-same : goal.go_back-way_back-requires-clause-same
go_back-way_back-requires-clause-same g c = c.make_events.ensures.map ∙ ap (λ x. x.now) c.new-reversed.ensures

pub go_back-way_back-requires-clause-life : goal.go_back-way_back-requires-clause-life
go_back-way_back-requires-clause-life g c =
    let F = g.M.Map.forward in
    let G = g.M.Map.backward in
    let cells = c.args.memories.now.cells.now in
    let bytes : (k : ℕ) → Fits w8 (get_or cells k 0) = λ k. search rules in
    let l = held c.args.start cells in
    let n = length c.args.memories.now.second.now in
    let es = c.args.events.now in
    let e = c.make_events.ensures in (
      l,
      held_within c.args.start cells (λ k. (bytes k).fits),
      c.requires.0,
      subst (Sound l.width l.height) (sym e.ledger) (life_sound l n es),
      e.cells ∙ ap (λ x. life_lattice (F x.now) (G x.now) l n es) c.new-reversed.ensures ∙ ap (λ x. standing_for (F c.args.map.now) (G c.args.map.now) x l) (sym e.ledger),
    )

pub returns : goal.returns
returns g c =
    let F = g.M.Map.forward in
    let G = g.M.Map.backward in
    let f = F c.args.map.now in
    let b = G c.args.map.now in
    let laws = g.met.M.Map.laws c.args.map.now in
    let m = c.args.memories.now in
    let bytes : (k : ℕ) → Fits w8 (get_or m.cells.now k 0) = λ k. search rules in
    let l = held c.args.start m.cells.now in
    let inside = held_within c.args.start m.cells.now (λ k. (bytes k).fits) in
    let n = length m.second.now in
    let es = c.args.events.now in
    let e = c.make_events.ensures in
    let rev = c.new-reversed.ensures in
    let sound = subst (Sound l.width l.height) (sym e.ledger) (life_sound l n es) in
    let cells = e.cells ∙ ap (λ x. life_lattice (F x.now) (G x.now) l n es) rev in
    let back = c.go_back-way_back.ensures l inside c.requires.0 sound (cells ∙ ap (λ x. standing_for f b x l) (sym e.ledger)) in
    let bench = ap (λ s. held s c.make_events.new.cells) c.start-end.ensures ∙ cells in
    let image = ap (λ s. held s c.make_events.new.mirror) c.start-mirror_end.ensures ∙ e.mirror ∙ ap (λ x. life_lattice (F x.now) (G x.now) l n es) rev in
    let counted = c.counts-counts.ensures.numbers ∙ ap₂ (λ x y. counts x (phase_of y)) e.ledger (sym c.start-end.ensures) in
    let mirrored = c.counts-mirror_counts.ensures.numbers ∙ ap₂ (λ x y. counts x (phase_of y)) e.mirror_ledger (sym c.start-mirror_end.ensures) in
    record {
      held_then = bench;
      mirror = image ∙ sym (mirror_holds f b l n es);
      same = image ∙ sym bench;
      counted = counted;
      mirror_counted = mirrored ∙ ap (λ x. counts x (phase_of c.start-mirror_end.result)) (sym (mirror_life l n es));
      opposite = mirrored ∙ ap (λ h. counts (mirrored_ledger (life_ledger l n es)) h.phase) (image ∙ sym bench) ∙ mirror_counts (life_ledger l n es) (phase_of c.start-end.result) ∙ ap opposite_clock (sym counted);
      replies = subst (λ x. Recorded (F x.now) (G x.now) l n es m.seen.now c.make_events.new.seen) rev e.seen;
      alike = λ k x. mirror_replies f b l n (take k es) x;
      way_back = subst (λ x. GoesBack f b l x m.script.now c.go_back-way_back.new.script m.home.now c.go_back-way_back.new.home c.go_back-way_back.result) e.ledger back;
      same_at = λ k. mirror_holds f b l n (take k es);
      home_at = λ k rests. leads_home f b laws l inside c.requires.0 (life_ledger l n (take k es)) (life_sound l n (take k es)) rests;
      second = e.second;
      loans = ((refl, refl), (refl, refl), (refl, refl), (refl, refl), (refl, refl), (refl, refl));
    }
