-- The records of the way back are a script. Assumes nothing.
use Rattle.std.proofs.Common.{ℕ, ◌*◌, ◌≤◌, List, [], ◌∷◌, ◌++◌, length, map, flat_map, refl, ap, arith}
use Rattle.std.proofs.lemmas.Grind.{flat_map-append}
use Rattle.std.proofs.lemmas.List.{length-append}
use Rattle.std.proofs.lemmas.List.Elements.{All-head, All-tail}
use Rattle.std.proofs.lemmas.List.Sums.{sum_by-cons}
use Rattle.std.specs.List.{All, AllByRecursion}
use Rattle.actions.specs.Actions.{Action, Step as StepAction, Edit as EditAction, home_of}
use Rattle.actions.specs.declared.flip.Flip.{Flip as CellFlip}
use Rattle.ledger.proofs.HomeLaws.{home_on, home_entries}
use Rattle.ledger.proofs.Sound.{FlipOn, ActionOn}
use Rattle.ledger.proofs.WrittenLengths.{step_length, flip_length}
use Rattle.ledger.specs.Homes.{flip_record, making, home_records, home_script}
use Rattle.ledger.specs.Ledgers.{size, entries}
use Rattle.scripts.proofs.Appended.{leads_append, writable_append}
use Rattle.scripts.specs.Laws.{IsScript}
use Rattle.scripts.specs.Records.{written, script_of, Writable}
use Rattle.scripts.specs.States.{Leads}
use Rattle.scripts.specs.declared.record.Record.TheVariants.{Step, Open, Close}
use Rattle.scripts.specs.declared.state.State.TheVariants.{Rest, Session}

flips_lead : (fs : List CellFlip) → Leads Session (map flip_record fs) Session
flips_lead [] = refl
flips_lead (f ∷ fs) = (refl, flips_lead fs)

making_leads : (a : Action) → Leads Rest (making a) Rest
making_leads (StepAction z) = (refl, refl)
making_leads (EditAction fs) = (refl, leads_append Session Session Rest (map flip_record fs) (Close ∷ []) (flips_lead fs) (refl, refl))

all_lead : (acts : List Action) → Leads Rest (flat_map making acts) Rest
all_lead [] = refl
all_lead (a ∷ acts) = leads_append Rest Rest Rest (making a) (flat_map making acts) (making_leads a) (all_lead acts)

-- the sides are at most 256
module _ (w h : ℕ) (narrow : w ≤ 256) (low : h ≤ 256) where
  flips_writable : (fs : List CellFlip) → All (FlipOn w h) fs → AllByRecursion Writable (map flip_record fs)
  flips_writable [] on = tt
  flips_writable (f ∷ fs) on =
      let x = All-head (FlipOn w h) f fs on in
      let c = x.0 in
      let r = x.1 in
      let m = x.3 in
      ((omega arith, omega arith, omega arith), flips_writable fs (All-tail (FlipOn w h) f fs on))

  making_writable : (a : Action) → ActionOn w h a → AllByRecursion Writable (making a)
  making_writable (StepAction z) on = let small = on.1 in (omega arith, tt)
  making_writable (EditAction fs) on = (tt, writable_append (map flip_record fs) (Close ∷ []) (flips_writable fs on.0) (tt, tt))

  all_writable : (acts : List Action) → All (ActionOn w h) acts → AllByRecursion Writable (flat_map making acts)
  all_writable [] on = tt
  all_writable (a ∷ acts) on =
      writable_append (making a) (flat_map making acts) (making_writable a (All-head (ActionOn w h) a acts on)) (all_writable acts (All-tail (ActionOn w h) a acts on))

  flips_short : (fs : List CellFlip) → All (FlipOn w h) fs → length (script_of (map flip_record fs)) ≤ 17 * length fs
  flips_short [] on = omega arith
  flips_short (f ∷ fs) on =
      let x = All-head (FlipOn w h) f fs on in
      let c = x.0 in
      let r = x.1 in
      let m = x.3 in
      let one = flip_length f.col f.row f.mask (omega arith) (omega arith) (omega arith) in
      let rest = flips_short fs (All-tail (FlipOn w h) f fs on) in
      let both = length-append (written (flip_record f)) (script_of (map flip_record fs)) in
      omega arith

  making_short : (a : Action) → ActionOn w h a → length (script_of (making a)) ≤ 28 * size a
  making_short (StepAction z) on =
      let one = step_length z on.1 in
      let both = length-append (written (Step z)) [] in
      omega arith
  making_short (EditAction fs) on =
      let flips = flips_short fs on.0 in
      let some = on.1 in
      let text = ap length (flat_map-append written (map flip_record fs) (Close ∷ [])) in
      let parts = length-append (script_of (map flip_record fs)) (script_of (Close ∷ [])) in
      let all = length-append (written Open) (script_of (map flip_record fs ++ (Close ∷ []))) in
      omega arith

  all_short : (acts : List Action) → All (ActionOn w h) acts → length (script_of (flat_map making acts)) ≤ 28 * entries acts
  all_short [] on = omega arith
  all_short (a ∷ acts) on =
      let one = making_short a (All-head (ActionOn w h) a acts on) in
      let rest = all_short acts (All-tail (ActionOn w h) a acts on) in
      let text = ap length (flat_map-append written (making a) (flat_map making acts)) in
      let both = length-append (script_of (making a)) (script_of (flat_map making acts)) in
      let split = sum_by-cons size a acts in
      omega arith

  pub home_is_script : (acts : List Action) → All (ActionOn w h) acts → entries acts ≤ 256 → IsScript (home_records acts) (home_script acts)
  home_is_script acts on few =
      let back = home_on w h acts on in
      let short = all_short (home_of acts) back in
      let same = home_entries acts in
      record {
        reads = record { leads = all_lead (home_of acts); writable = all_writable (home_of acts) back; text = refl };
        short = omega arith;
      }
