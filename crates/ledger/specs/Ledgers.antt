-- The ledger: the bookkeeping of a bench, as lists of actions. A flip is pending until its session is closed, which makes it part of an edit.
--     Ledger           the actions that stand, the earliest first; those that were undone, the one undone last first; the pending flips; the state
--     at_opening       the ledger of a bench that was just opened
--     size a           how many entries the action a takes
--     entries acts     how many entries the actions acts take: one for a step, one for each flip
--     used led         how many entries are in use, those of the pending flips included
--     ticks a          what the action a adds to the clock
--     clock_of acts    the clock after the actions acts: the counts of their steps, added up
--     counts led p     the result of the count call where the phase is p: actions standing, actions undone, clock, phase
--     edit_of fs       the flips fs as an edit; no action where there is no flip
--     earlier led, latest led     the actions that stand, without the last one; the last one, as a list
--     booked c led     the ledger after the call c, if that is accepted
use Rattle.std.specs.Prelude.{ℕ, ◌+◌, ◌-◌, List, [], ◌∷◌, ◌++◌, length, take, drop, fold, sum_by, ℤ, pos, ◌+ℤ◌}
use Rattle.actions.specs.Actions.{Action, Step, Edit}
use Rattle.actions.specs.declared.flip.Flip.{Flip}
use Rattle.scripts.specs.declared.record.Record.{Record}
use Rattle.scripts.specs.declared.record.Record.TheVariants as Call
use Rattle.scripts.specs.declared.state.State.{State}
use Rattle.scripts.specs.declared.state.State.TheVariants.{Rest, Session}

pub record Ledger : Type 0 where
  pub standing : List Action
  pub undone : List Action
  pub session : List Flip
  pub state : State

abbrev pub at_opening : Ledger
at_opening = record { standing = []; undone = []; session = []; state = Rest }

abbrev pub size : Action → ℕ
size (Step z) = 1
size (Edit fs) = length fs

abbrev pub entries : List Action → ℕ
entries acts = sum_by size acts

abbrev pub used : Ledger → ℕ
used led = entries led.standing + length led.session

abbrev pub ticks : Action → ℤ
ticks (Step z) = z
ticks (Edit fs) = pos 0

abbrev pub clock_of : List Action → ℤ
clock_of acts = fold (λ t a. t +ℤ ticks a) (pos 0) acts

abbrev pub counts : Ledger → ℕ → ℕ × ℕ × ℤ × ℕ
counts led p = (length led.standing, length led.undone, clock_of led.standing, p)

abbrev pub edit_of : List Flip → List Action
edit_of [] = []
edit_of (f ∷ fs) = Edit (f ∷ fs) ∷ []

abbrev pub earlier : Ledger → List Action
earlier led = take (length led.standing - 1) led.standing

abbrev pub latest : Ledger → List Action
latest led = drop (length led.standing - 1) led.standing

abbrev pub booked : Record → Ledger → Ledger
booked (Call.Step z) led = record { standing = led.standing ++ (Step z ∷ []); undone = []; session = led.session; state = led.state }
booked Call.Undo led = record { standing = earlier led; undone = latest led ++ led.undone; session = led.session; state = led.state }
booked Call.Redo led = record { standing = led.standing ++ take 1 led.undone; undone = drop 1 led.undone; session = led.session; state = led.state }
booked Call.Open led = record { standing = led.standing; undone = []; session = led.session; state = Session }
booked (Call.Flip c r m) led = record { standing = led.standing; undone = led.undone; session = led.session ++ (record { col = c; row = r; mask = m } ∷ []); state = led.state }
booked Call.Clear led = record { standing = led.standing; undone = led.undone; session = []; state = led.state }
booked Call.Close led = record { standing = led.standing ++ edit_of led.session; undone = led.undone; session = []; state = Rest }
