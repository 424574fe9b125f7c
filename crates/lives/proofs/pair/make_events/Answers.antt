use Rattle.std.proofs.Common.{◌≡◌, ℕ, pos, List, ◌∷◌, [], ◌++◌, length, take, set, get_or, w8, Fits, sym, ap, ap₂, ◌∙◌, subst, arith, rules}
use Rattle.std.proofs.lemmas.List.{take_more, length-take-le}
use Rattle.any_bench.specs.AnyBenches.{any_ledger, any_handed}
use Rattle.lattice.proofs.Starts.{held_within}
use Rattle.lattice.specs.Starts.{held}
use Rattle.lives.proofs.Along.{Along, along_more, seen_more}
use Rattle.lives.proofs.Pairs.{life_whole}
use Rattle.lives.proofs.Recording.{recorded_past, recorded_here}
use Rattle.lives.proofs.pair.make_events.Goals as goal
use Rattle.lives.proofs.pair.make_events.Goals.{then-k-seen, else-k-seen}
use Rattle.lives.specs.Events.{event_answered, event_booked, event_made}
use Rattle.lives.specs.Mirrors.{bench_map}
use Rattle.lives.specs.Seen.{Recorded}
use Rattle.lives.specs.declared.event.Event.{Event}
use Rattle.lives.specs.declared.event.Lent.TheVariants.{Own}
use Rattle.lives.specs.declared.event.Seen.{Seen}
use Rattle.scripts.specs.declared.record.Record.TheVariants.{Step}

pub make_event-requires : goal.make_event-requires
make_event-requires g c =
    let m = bench_map c.args.map.now in
    let bytes : (k : ℕ) → Fits w8 (get_or c.args.cells.now k 0) = λ k. search rules in
    let inside = held_within c.args.start c.args.cells.now (λ k. (bytes k).fits) in
    let i = c.loop-k.invariant in
    life_whole (g.M.Map.forward m) (g.M.Map.backward m) (g.met.M.Map.laws m) (held c.args.start c.args.cells.now) inside (length c.args.second.now) (take c.loop-k.k c.args.events.now) c.requires.whole
    (any_handed c.loop-k.bench c.loop-k.cells) i.3.lattice

pub make_event-requires-in-loop-k : goal.make_event-requires-in-loop-k
make_event-requires-in-loop-k g c =
    let m = bench_map c.args.map.now in
    let bytes : (k : ℕ) → Fits w8 (get_or c.args.cells.now k 0) = λ k. search rules in
    let inside = held_within c.args.start c.args.cells.now (λ k. (bytes k).fits) in
    let i = c.loop-k.invariant in
    life_whole (g.M.Map.forward m) (g.M.Map.backward m) (g.met.M.Map.laws m) (held c.args.start c.args.cells.now) inside (length c.args.second.now) (take c.loop-k.k c.args.events.now) c.requires.whole
    (any_handed c.loop-k.image c.loop-k.mirror) i.3.image_lattice

pub loop-k-preserved : goal.loop-k-preserved
loop-k-preserved g c =
    let F = g.M.Map.forward in
    let G = g.M.Map.backward in
    let m = bench_map c.args.map.now in
    let bytes : (k : ℕ) → Fits w8 (get_or c.args.cells.now k 0) = λ k. search rules in
    let inside = held_within c.args.start c.args.cells.now (λ k. (bytes k).fits) in
    let i = c.loop-k.invariant in
    let l = held c.args.start c.args.cells.now in
    let n = length c.args.second.now in
    let d : Event = record { call = Step (pos 0); lent = Own } in
    let k = c.loop-k.k in
    let es = take k c.args.events.now in
    let e = get_or c.args.events.now k d in
    let b = c.loop-k.bench in
    let x = any_ledger b in
    let h = any_handed b c.loop-k.cells in
    let q = c.loop-k.image in
    let y = any_ledger q in
    let p = any_handed q c.loop-k.mirror in
    let r = c.make_event.ensures in
    let t = c.make_event-in-loop-k.ensures in
    let size : length c.loop-k.second ≡ n = ap length i.2 in
    let size' : length c.make_event.new.second ≡ n = ap length (r.second ∙ i.2) in
    let booked = r.ledger ∙ ap (λ z. event_booked h.width h.height z e x) size in
    let made = r.cells ∙ ap₂ (λ a z. event_made (F a) (G a) z e x h) i.0 size in
    let image_booked = t.ledger ∙ ap₂ (λ z a. event_booked p.width p.height z a y) size' c.mirrored.ensures in
    let image_made = t.cells ∙ ap₂ (λ a z. event_made (G (bench_map a)) (F (bench_map a)) z c.mirrored.result y p) i.1 size' ∙ ap (λ a. event_made (G m) (F m) n a y p) c.mirrored.ensures in
    let next = along_more (F m) (G m) (g.met.M.Map.laws m) l inside n es x h y p i.3 e _ _ _ _ booked made image_booked image_made in
    let P : List Event → Type 0 = λ z. Along (F m) (G m) l n z (any_ledger c.make_event.result.0) (any_handed c.make_event.result.0 c.make_event.new.cells) (any_ledger c.make_event-in-loop-k.result.0) (any_handed c.make_event-in-loop-k.result.0 c.make_event-in-loop-k.new.cells) in
    let reply : Seen = record { bench = c.make_event.result.1; mirror = c.make_event-in-loop-k.result.1 } in
    let answer = r.answer ∙ ap (λ z. event_answered h.width h.height z e x) size in
    let image_answer = t.answer ∙ ap₂ (λ z a. event_answered p.width p.height z a y) size' c.mirrored.ensures in
    let both = seen_more (F m) (G m) (g.met.M.Map.laws m) l inside n es x h y p i.3 e _ _ _ _ booked made image_booked image_made reply answer r.counts image_answer t.counts in
    let more = sym (take_more c.args.events.now k d c.loop-k-test.true) in
    let len : length es ≡ k = length-take-le k c.args.events.now (omega (arith, c.loop-k-test.true)) in
    let kept : List Event → List Seen → Type 0 = λ z new. Recorded (F m) (G m) l n z c.args.seen.now new in
    let recorded : kept (es ++ (e ∷ [])) c.if-k-seen.seen = elim c.if-k-seen.branch [
      | then-k-seen w ↦
          let here = recorded_here (F m) (G m) l n es e c.args.seen.now c.loop-k.seen i.4 (omega (arith, w.if-k-seen.true, len)) in
          subst (kept (es ++ (e ∷ []))) (ap₂ (λ z a. set c.loop-k.seen z a) len (sym both) ∙ sym w.seen-is) here
      | else-k-seen w ↦ subst (kept (es ++ (e ∷ []))) (sym w.seen-is) (recorded_past (F m) (G m) l n es e c.args.seen.now c.loop-k.seen i.4 (omega (arith, w.if-k-seen.false, len)))
    ]
    in
    (r.map ∙ i.0, t.map ∙ i.1, t.second ∙ r.second ∙ i.2, subst P more next, subst (λ z. kept z c.if-k-seen.seen) more recorded)
