-- What holds of every ledger of a life, on a lattice with w columns and h rows. Assumes nothing.
--     FlipOn w h f       the flip f would be accepted
--     ActionOn w h a     so would the action a: the count of its step, or the flips of its edit, which has some
--     Sound w h led      all its flips and actions are such, there is room for their entries, and it does not have both undone actions and pending flips
use Rattle.std.proofs.Common.{◌≡◌, ℕ, ◌+◌, ◌-◌, ◌<◌, ◌≤◌, true, false, List, [], ◌∷◌, ◌++◌, length, take, None, refl, ap, ◌∙◌, arith, unsigned_abs}
use Rattle.std.proofs.lemmas.List.{length-append}
use Rattle.std.proofs.lemmas.List.Elements.{All-nil, All-cons, All-push, All-append, All-take, All-drop}
use Rattle.std.proofs.lemmas.List.Sums.{sum_by-append, sum_by-take-drop}
use Rattle.std.specs.List.{All}
use Rattle.actions.specs.Actions.{Action, Step, Edit}
use Rattle.actions.specs.declared.flip.Flip.{Flip}
use Rattle.ledger.proofs.Accepted.{by_acceptance, step_accepted, flip_accepted, cells_accepted}
use Rattle.ledger.specs.Ledgers.{Ledger, at_opening, size, entries, used, edit_of, latest, booked}
use Rattle.ledger.specs.Refusals.{refusal, after}
use Rattle.scripts.specs.Records.{kind_of}
use Rattle.scripts.specs.States.{permits}
use Rattle.scripts.specs.declared.record.Record.{Record}
use Rattle.scripts.specs.declared.record.Record.TheVariants as Call
use Rattle.scripts.specs.declared.state.State.{State}
use Rattle.scripts.specs.declared.word.Word.{Word}
use Rattle.scripts.specs.declared.word.Word.TheVariants.{Flip as FlipWord}
use Rattle.scripts.specs.declared.state.State.TheVariants.{Rest, Session}

abbrev pub FlipOn : ℕ → ℕ → Flip → Type 0
FlipOn w h f = (f.col < w) × (f.row < h) × (0 < f.mask) × (f.mask < 256)

abbrev pub ActionOn : ℕ → ℕ → Action → Type 0
ActionOn w h (Step z) = (0 < unsigned_abs z) × (unsigned_abs z ≤ 10000)
ActionOn w h (Edit fs) = All (FlipOn w h) fs × (0 < length fs)

pub record Sound (w h : ℕ) (led : Ledger) : Type 0 where
  pub standing : All (ActionOn w h) led.standing
  pub undone : All (ActionOn w h) led.undone
  pub session : All (FlipOn w h) led.session
  pub room : entries led.standing + (entries led.undone + length led.session) ≤ 256
  pub at_rest : led.state ≡ Rest → led.session ≡ []
  pub in_session : led.state ≡ Session → led.undone ≡ []

pub sound_at_opening : (w h : ℕ) → Sound w h at_opening
sound_at_opening w h = record {
  standing = All-nil (ActionOn w h);
  undone = All-nil (ActionOn w h);
  session = All-nil (FlipOn w h);
  room = omega arith;
  at_rest = λ _. refl;
  in_session = λ _. refl;
}

one_more : (acts : List Action) (a : Action) → entries (acts ++ (a ∷ [])) ≡ entries acts + size a
one_more acts a = sum_by-append size acts (a ∷ []) ∙ omega arith

edit_entries : (fs : List Flip) → entries (edit_of fs) ≡ length fs
edit_entries [] = refl
edit_entries (f ∷ fs) = omega arith

edit_on : (w h : ℕ) (fs : List Flip) → All (FlipOn w h) fs → All (ActionOn w h) (edit_of fs)
edit_on w h [] on = All-nil (ActionOn w h)
edit_on w h (f ∷ fs) on = All-cons (ActionOn w h) (Edit (f ∷ fs)) [] (on, omega arith) (All-nil (ActionOn w h))

-- a call that the other state does not permit
pub is_rest : (k : Word) (s : State) → permits Session k ≡ false → permits s k ≡ true → s ≡ Rest
is_rest k Rest other may = refl
is_rest k Session other may = absurd cc

is_session : (k : Word) (s : State) → permits Rest k ≡ false → permits s k ≡ true → s ≡ Session
is_session k Rest other may = absurd cc
is_session k Session other may = refl

pub booked_sound : (w h n : ℕ) (c : Record) (led : Ledger) → permits led.state (kind_of c) ≡ true → Sound w h led → refusal w h n c led ≡ None → Sound w h (booked c led)
booked_sound w h n (Call.Step z) led may s e =
    let ok = step_accepted z (used led) (cells_accepted w h n (Call.Step z) led refl e).1 in
    let more = one_more led.standing (Step z) in
    record {
      standing = All-push (ActionOn w h) led.standing (Step z) s.standing (ok.0, ok.1);
      undone = All-nil (ActionOn w h);
      session = s.session;
      room = let few = ok.2 in omega arith;
      at_rest = s.at_rest;
      in_session = λ _. refl;
    }
booked_sound w h n Call.Undo led may s e =
    let parts = sum_by-take-drop size led.standing (length led.standing - 1) in
    let joined = sum_by-append size (latest led) led.undone in
    record {
      standing = All-take (ActionOn w h) (length led.standing - 1) led.standing s.standing;
      undone = All-append (ActionOn w h) (latest led) led.undone (All-drop (ActionOn w h) (length led.standing - 1) led.standing s.standing) s.undone;
      session = s.session;
      room = let r = s.room in omega arith;
      at_rest = s.at_rest;
      in_session = λ i. absurd cc;
    }
booked_sound w h n Call.Redo led may s e =
    let parts = sum_by-take-drop size led.undone 1 in
    let joined = sum_by-append size led.standing (take 1 led.undone) in
    record {
      standing = All-append (ActionOn w h) led.standing (take 1 led.undone) s.standing (All-take (ActionOn w h) 1 led.undone s.undone);
      undone = All-drop (ActionOn w h) 1 led.undone s.undone;
      session = s.session;
      room = let r = s.room in omega arith;
      at_rest = s.at_rest;
      in_session = λ i. absurd cc;
    }
booked_sound w h n Call.Open led may s e = record {
  standing = s.standing;
  undone = All-nil (ActionOn w h);
  session = s.session;
  room = let r = s.room in omega arith;
  at_rest = λ i. absurd cc;
  in_session = λ _. refl;
}
booked_sound w h n (Call.Flip c r m) led may s e =
    let ok = flip_accepted w h c r m (used led) (cells_accepted w h n (Call.Flip c r m) led refl e).1 in
    let f : Flip = record { col = c; row = r; mask = m } in
    let joined = length-append led.session (f ∷ []) in
    record {
      standing = s.standing;
      undone = s.undone;
      session = All-push (FlipOn w h) led.session f s.session (ok.0, ok.1, ok.2, ok.3);
      room = let few = ok.4 in let none = ap entries (s.in_session (is_session FlipWord led.state refl may)) in omega arith;
      at_rest = λ i. absurd cc;
      in_session = s.in_session;
    }
booked_sound w h n Call.Clear led may s e = record {
  standing = s.standing;
  undone = s.undone;
  session = All-nil (FlipOn w h);
  room = let r = s.room in omega arith;
  at_rest = λ _. refl;
  in_session = s.in_session;
}
booked_sound w h n Call.Close led may s e =
    let joined = sum_by-append size led.standing (edit_of led.session) in
    let all = edit_entries led.session in
    record {
      standing = All-append (ActionOn w h) led.standing (edit_of led.session) s.standing (edit_on w h led.session s.session);
      undone = s.undone;
      session = All-nil (FlipOn w h);
      room = let r = s.room in omega arith;
      at_rest = λ _. refl;
      in_session = λ i. absurd cc;
    }

pub after_sound : (w h n : ℕ) (c : Record) (led : Ledger) → permits led.state (kind_of c) ≡ true → Sound w h led → Sound w h (after w h n c led)
after_sound w h n c led may s = by_acceptance (Sound w h) (refusal w h n c led) (booked c led) led (booked_sound w h n c led may s) s
