-- A bench that has room for given actions accepts the records that make them, and they do make them. Assumes nothing.
use Rattle.std.proofs.Common.{◌≡◌, ℕ, ◌+◌, ◌*◌, ◌≤◌, Bool, true, false, cond, List, [], ◌∷◌, ◌++◌, length, map, flat_map, Some, None, Option, refl, sym, ap, ap₂, ◌∙◌, subst, arith}
use Rattle.std.proofs.lemmas.List.{append_assoc, append-nil, length-append}
use Rattle.std.proofs.lemmas.List.Elements.{All-head, All-tail, All-push}
use Rattle.std.proofs.lemmas.List.Sums.{sum_by-cons, sum_by-append}
use Rattle.std.specs.List.{All}
use Rattle.actions.specs.Answers.{unless}
use Rattle.actions.specs.Actions.{Action, Step, Edit}
use Rattle.actions.specs.declared.flip.Flip.{Flip}
use Rattle.any_bench.specs.Answers.{said}
use Rattle.any_bench.specs.Scenes.{Scene, answered_at, after_call}
use Rattle.any_bench.specs.declared.answer.Answer.TheVariants.{Skipped, Given, Refused}
use Rattle.faults.specs.declared.run.BenchRefusal.{BenchRefusal}
use Rattle.lattice.specs.Lattice.{Lattice, Whole, Within, SameShape}
use Rattle.lattice.specs.Maps.{Reversible}
use Rattle.ledger.proofs.Accepted.{room_refusal, step_taken, flip_taken, whole_refusal}
use Rattle.ledger.proofs.Edits.{edit_is}
use Rattle.ledger.proofs.Held.{effect_held}
use Rattle.ledger.proofs.Shapes.{standing_shape}
use Rattle.ledger.proofs.Sound.{Sound, FlipOn, ActionOn, booked_sound}
use Rattle.ledger.specs.Effects.{effect, standing_for}
use Rattle.ledger.specs.Homes.{flip_record, making}
use Rattle.ledger.specs.Ledgers.{Ledger, size, entries, booked}
use Rattle.ledger.specs.Refusals.{own_refusal, takes_cells, refusal, if_accepted}
use Rattle.runs.proofs.AllAccepted.{Goes, goes_nil, goes_cons}
use Rattle.scripts.specs.Records.{kind_of}
use Rattle.scripts.specs.States.{permits}
use Rattle.scripts.specs.declared.record.Record.{Record}
use Rattle.scripts.specs.declared.record.Record.TheVariants as Call
use Rattle.scripts.specs.declared.state.State.TheVariants.{Rest, Session}

-- a call that the state permits and to which no cause applies is not refused
not_refused : (b t : Bool) (d : Option BenchRefusal) (n : ℕ) → b ≡ true → d ≡ None → (e : BenchRefusal) → cond b (cond t (said (unless d n)) Given) Skipped ≡ Refused e → ⊥
not_refused false t d n may none e h = absurd cc
not_refused true false d n may none e h = absurd cc
not_refused true true None n may none e h = absurd cc
not_refused true true (Some c) n may none e h = absurd cc

accepted : {A : Type 0} (b : Bool) (d : Option BenchRefusal) (x y : A) → b ≡ true → d ≡ None → cond b (if_accepted d x y) y ≡ x
accepted false d x y may none = absurd cc
accepted true None x y may none = refl
accepted true (Some c) x y may none = absurd cc

module _ (f g : Lattice → Lattice) (laws : Reversible f g) (l : Lattice) (inside : Within l) (whole : Whole l) where
  -- what is held with a given ledger, in a life that was opened on l
  abbrev pub at : Ledger → Scene
  at led = record { ledger = led; lattice = standing_for f g led l }

  module _ (c : Record) (led : Ledger) (may : permits led.state (kind_of c) ≡ true) (s : Sound l.width l.height led) (own : own_refusal l.width l.height c led ≡ None) where
    shape : SameShape l (standing_for f g led l)
    shape = standing_shape f g laws l.width l.height led l s inside

    none : refusal (standing_for f g led l).width (standing_for f g led l).height (length (standing_for f g led l).cells) c led ≡ None
    none =
        ap₂ (λ w h. refusal w h (length (standing_for f g led l).cells) c led) shape.width shape.height
        ∙ ap (λ n. refusal l.width l.height n c led) (shape.count ∙ whole)
        ∙ whole_refusal l.width l.height c led ∙ own

    pub taken : (e : BenchRefusal) → answered_at c (at led) ≡ Refused e → ⊥
    taken e h = not_refused (permits led.state (kind_of c)) (takes_cells c) _ (length (booked c led).standing) may none e h

    pub moved_to : after_call f g c (at led) ≡ at (booked c led)
    moved_to =
        let m = standing_for f g led l in
        ap₂ (λ x y. record { ledger = x; lattice = y })
        (accepted (permits led.state (kind_of c)) (refusal m.width m.height (length m.cells) c led) (booked c led) led may none)
        (accepted (permits led.state (kind_of c)) (refusal m.width m.height (length m.cells) c led) (effect f g c led m) m may none ∙ effect_held f g laws l.width l.height c led l may s inside)

    pub sound_then : Sound l.width l.height (booked c led)
    sound_then = booked_sound l.width l.height (l.width * l.height) c led may s (whole_refusal l.width l.height c led ∙ own)

    pub one_goes : (rs : List Record) (u : Scene) → Goes f g (at (booked c led)) rs u → Goes f g (at led) (c ∷ rs) u
    one_goes rs u rest = goes_cons f g (at led) (at (booked c led)) u c rs taken moved_to rest

  abbrev pub resting : List Action → Ledger
  resting acts = record { standing = acts; undone = []; session = []; state = Rest }

  abbrev editing : List Action → List Flip → Ledger
  editing acts fs = record { standing = acts; undone = []; session = fs; state = Session }

  flips_go : (fs : List Flip) (acts : List Action) (made : List Flip) → All (FlipOn l.width l.height) fs → Sound l.width l.height (editing acts made) → entries acts + (length made + length fs) ≤ 256
      → (rs : List Record) (u : Scene) → Goes f g (at (editing acts (made ++ fs))) rs u → Goes f g (at (editing acts made)) (map flip_record fs ++ rs) u
  flips_go [] acts made on s room rs u rest = subst (λ q. Goes f g (at (editing acts q)) rs u) (append-nil made) rest
  flips_go (x ∷ fs) acts made on s room rs u rest =
      let first = All-head (FlipOn l.width l.height) x fs on in
      let own = flip_taken l.width l.height x.col x.row x.mask (entries acts + length made) first.0 first.1 first.2 first.3 (omega arith) in
      let len = length-append made (x ∷ []) in
      one_goes (flip_record x) (editing acts made) refl s own (map flip_record fs ++ rs) u
      (flips_go fs acts (made ++ (x ∷ [])) (All-tail (FlipOn l.width l.height) x fs on) (sound_then (flip_record x) (editing acts made) refl s own) (omega arith) rs u
      (subst (λ q. Goes f g (at (editing acts q)) rs u) (sym (append_assoc made (x ∷ []) fs)) rest))

  session_sound : (fs : List Flip) (acts : List Action) → Sound l.width l.height (resting acts) → All (FlipOn l.width l.height) fs → entries acts + length fs ≤ 256 → Sound l.width l.height (editing acts fs)
  session_sound fs acts s on room = record { standing = s.standing; undone = s.undone; session = on; room = omega arith; at_rest = λ i. absurd cc; in_session = λ _. refl }

  action_goes : (a : Action) (acts : List Action) → ActionOn l.width l.height a → Sound l.width l.height (resting acts) → entries acts + size a ≤ 256
      → (rs : List Record) (u : Scene) → Goes f g (at (resting (acts ++ (a ∷ [])))) rs u → Goes f g (at (resting acts)) (making a ++ rs) u
  action_goes (Step z) acts on s room rs u rest =
      let own = step_taken z (entries acts + length {A = Flip} []) on.0 on.1 ∙ room_refusal (entries acts + length {A = Flip} []) (omega arith) in
      one_goes (Call.Step z) (resting acts) refl s own rs u rest
  action_goes (Edit fs) acts on s room rs u rest =
      let opened = editing acts [] in
      let done = editing acts fs in
      let sound = session_sound fs acts s on.0 room in
      let closing = one_goes Call.Close done refl sound refl rs u (subst (λ q. Goes f g (at (resting (acts ++ q))) rs u) (sym (edit_is fs on.1)) rest) in
      let flipping = flips_go fs acts [] on.0 (sound_then Call.Open (resting acts) refl s refl) (omega arith) (Call.Close ∷ rs) u closing in
      subst (λ q. Goes f g (at (resting acts)) (Call.Open ∷ q) u) (sym (append_assoc (map flip_record fs) (Call.Close ∷ []) rs)) (one_goes Call.Open (resting acts) refl s refl (map flip_record fs ++ (Call.Close ∷ rs)) u flipping)

  pub actions_go : (acts done : List Action) → All (ActionOn l.width l.height) acts → Sound l.width l.height (resting done) → entries done + entries acts ≤ 256 → Goes f g (at (resting done)) (flat_map making acts) (at (resting (done ++ acts)))
  actions_go [] done on s room = subst (λ q. Goes f g (at (resting done)) [] (at (resting q))) (sym (append-nil done)) (goes_nil f g (at (resting done)))
  actions_go (a ∷ acts) done on s room =
      let first = All-head (ActionOn l.width l.height) a acts on in
      let split = sum_by-cons size a acts in
      let more = sum_by-append size done (a ∷ []) in
      let next : Sound l.width l.height (resting (done ++ (a ∷ []))) = record {
        standing = All-push (ActionOn l.width l.height) done a s.standing first;
        undone = s.undone;
        session = s.session;
        room = omega arith;
        at_rest = λ _. refl;
        in_session = λ i. absurd cc;
      } in
      action_goes a done first s (omega arith) (flat_map making acts) (at (resting (done ++ (a ∷ acts))))
      (subst (λ q. Goes f g (at (resting (done ++ (a ∷ [])))) (flat_map making acts) (at (resting q))) (append_assoc done (a ∷ []) acts)
      (actions_go acts (done ++ (a ∷ [])) (All-tail (ActionOn l.width l.height) a acts on) next (omega arith)))
