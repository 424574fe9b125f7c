-- The mirror's ledger is sound where the bench's is. Assumes nothing.
use Rattle.std.proofs.Common.{ℕ, List, map, ap, arith}
use Rattle.std.proofs.lemmas.List.Elements.{All-weaker, All-map}
use Rattle.std.specs.List.{All}
use Rattle.actions.specs.Actions.{Action, Step, Edit}
use Rattle.ledger.proofs.Mirrored.{mirror_action, mirrored, same_entries, abs_neg}
use Rattle.ledger.proofs.Sound.{Sound, ActionOn}
use Rattle.ledger.specs.Ledgers.{Ledger}

action_on : (w h : ℕ) (a : Action) → ActionOn w h a → ActionOn w h (mirror_action a)
action_on w h (Step z) on = let same = abs_neg z in (omega (arith, on.0), omega (arith, on.1))
action_on w h (Edit fs) on = on

all_on : (w h : ℕ) (acts : List Action) → All (ActionOn w h) acts → All (ActionOn w h) (map mirror_action acts)
all_on w h acts on = All-map (ActionOn w h) mirror_action acts (All-weaker (ActionOn w h) (λ a. ActionOn w h (mirror_action a)) (action_on w h) acts on)

pub mirrored_sound : (w h : ℕ) (led : Ledger) → Sound w h led → Sound w h (mirrored led)
mirrored_sound w h led s = record {
  standing = all_on w h led.standing s.standing;
  undone = all_on w h led.undone s.undone;
  session = s.session;
  room = omega (arith, s.room, same_entries led.standing, same_entries led.undone);
  at_rest = s.at_rest;
  in_session = λ i. ap (map mirror_action) (s.in_session i);
}
