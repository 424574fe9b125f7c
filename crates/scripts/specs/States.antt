-- The two states that a text determines: at rest, and in session.
--     permits s w          a record that begins with w may come in the state s
--     after s w            the state after it
--     Leads s rs t         the records rs may come one after another from the state s on, and lead to t
use Rattle.std.specs.Prelude.{◌≡◌, Bool, true, false, List, [], ◌∷◌, IsTrue}
use Rattle.scripts.specs.Records.{kind_of}
use Rattle.scripts.specs.declared.record.Record.{Record}
use Rattle.scripts.specs.declared.state.State.{State}
use Rattle.scripts.specs.declared.state.State.TheVariants.{Rest, Session}
use Rattle.scripts.specs.declared.word.Word.{Word}
use Rattle.scripts.specs.declared.word.Word.TheVariants.{Step, Undo, Redo, Open, Flip, Clear, Close}

abbrev pub permits : State → Word → Bool
permits Rest Step = true
permits Rest Undo = true
permits Rest Redo = true
permits Rest Open = true
permits Rest Flip = false
permits Rest Clear = false
permits Rest Close = false
permits Session Step = false
permits Session Undo = false
permits Session Redo = false
permits Session Open = false
permits Session Flip = true
permits Session Clear = true
permits Session Close = true

abbrev pub after : State → Word → State
after s Step = s
after s Undo = s
after s Redo = s
after s Open = Session
after s Flip = s
after s Clear = s
after s Close = Rest

abbrev pub Leads : State → List Record → State → Type 0
Leads s [] t = s ≡ t
Leads s (r ∷ rs) t = IsTrue (permits s (kind_of r)) × Leads (after s (kind_of r)) rs t
