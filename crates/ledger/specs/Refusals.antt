-- Which calls are refused. The lattice has w columns and h rows, and n cells are passed to a call that needs cells.
--     max_entries               how many entries a journal has room for
--     max_clock                 how far from 0 the clock can be, either way
--     if_room k                 no refusal as long as k, the entries in use, are fewer than max_entries
--     step_refusal z k          why a step by z is refused while k entries are in use
--     if_none k e               the refusal e, if k is 0
--     own_refusal w h c led     why the call c is refused, apart from the cells that are passed to it
--     takes_cells c             whether the call c needs cells
--     refusal w h n c led       why the call c is refused: the first cause, or none
--     if_accepted e x y         x if there is no refusal e, and y if there is
--     answer w h n c led        the result of the call c: how many actions stand after it, or why it is refused
--     after w h n c led         the ledger after the call c; a refusal leaves it as it was
use Rattle.std.specs.Prelude.{ℕ, ◌*◌, ◌==◌, ◌&&◌, Bool, true, false, not, length, ℤ, Option, Some, None, Result, nat_lt, if◌then◌else◌}
use Rattle.std.specs.Option.{option_or}
use Rattle.actions.specs.Answers.{unless}
use Rattle.actions.specs.Flips.{flip_refusal}
use Rattle.actions.specs.Limits.{is_step_count}
use Rattle.faults.specs.declared.run.BenchRefusal.{BenchRefusal}
use Rattle.faults.specs.declared.run.BenchRefusal.TheVariants.{Cells, StepCount, NothingToUndo, NothingToRedo, JournalFull}
use Rattle.ledger.specs.Ledgers.{Ledger, used, booked}
use Rattle.scripts.specs.declared.record.Record.{Record}
use Rattle.scripts.specs.declared.record.Record.TheVariants.{Step, Undo, Redo, Open, Flip, Clear, Close}

abbrev pub max_entries : ℕ
max_entries = 256

abbrev pub max_clock : ℕ
max_clock = 2560000

abbrev pub if_room : ℕ → Option BenchRefusal
if_room k = if nat_lt k max_entries then None else Some JournalFull

abbrev pub step_refusal : ℤ → ℕ → Option BenchRefusal
step_refusal z k = if is_step_count z then if_room k else Some StepCount

abbrev pub if_none : ℕ → BenchRefusal → Option BenchRefusal
if_none k e = if k == 0 then Some e else None

abbrev pub own_refusal : ℕ → ℕ → Record → Ledger → Option BenchRefusal
own_refusal w h (Step z) led = step_refusal z (used led)
own_refusal w h Undo led = if_none (length led.standing) NothingToUndo
own_refusal w h Redo led = if_none (length led.undone) NothingToRedo
own_refusal w h Open led = None
own_refusal w h (Flip c r m) led = option_or (flip_refusal w h c r m) (if_room (used led))
own_refusal w h Clear led = None
own_refusal w h Close led = None

abbrev pub takes_cells : Record → Bool
takes_cells Open = false
takes_cells Close = false
takes_cells _ = true

abbrev pub refusal : ℕ → ℕ → ℕ → Record → Ledger → Option BenchRefusal
refusal w h n c led = if takes_cells c && not (n == w * h) then Some Cells else own_refusal w h c led

abbrev pub if_accepted : {A : Type 0} → Option BenchRefusal → A → A → A
if_accepted None x y = x
if_accepted (Some e) x y = y

abbrev pub answer : ℕ → ℕ → ℕ → Record → Ledger → Result ℕ BenchRefusal
answer w h n c led = unless (refusal w h n c led) (length (booked c led).standing)

abbrev pub after : ℕ → ℕ → ℕ → Record → Ledger → Ledger
after w h n c led = if_accepted (refusal w h n c led) (booked c led) led
