-- Scripts and their faults, in terms of lines and fields and not of how a text is read.
--     IsScript rs bs          bs is the text of the records rs: the states permit one after another, from rest to rest, each of their numbers has
--                             at most six digits, and bs is short enough
--     IsArgument w bs         bs is a number of the kind that the word w takes
--     Spells w fs             the first of the fields fs is the word w
--     Counted w fs            the same, and fs has as many fields as the word takes
--     LineFault s n fs e      e is what is wrong with a line of the fields fs, which is line n, in the state s: this cause applies, and none that
--                             comes before it
--     TextFault n bs e        e is what is wrong with the text bs, whose first line is line n: this cause applies, and none that comes before it
use Rattle.std.specs.Prelude.{◌≡◌, ◌≢◌, ℕ, ◌+◌, ◌-◌, ◌<◌, ◌≤◌, ℤ, List, [], ◌++◌, length, false, IsTrue, slice_index_or}
use Rattle.std.specs.List.{AllByRecursion, count_by}
use Rattle.faults.specs.declared.field.FieldFault.TheVariants.{NotANumber}
use Rattle.faults.specs.declared.record.RecordFault.{RecordFault}
use Rattle.faults.specs.declared.record.RecordFault.TheVariants.{Field, TooLong, Unfinished, UnknownWord, FieldCount, NotPermitted, EndsInSession}
use Rattle.text.specs.Lines.{is_newline, ended, fields}
use Rattle.text.specs.Numbers.{WritesSigned, IsNumber}
use Rattle.text.specs.Wholes.{max_text, finished}
use Rattle.scripts.specs.Judgements.{arity}
use Rattle.scripts.specs.Records.{script_of, Writable}
use Rattle.scripts.specs.States.{permits, Leads}
use Rattle.scripts.specs.Words.{spelling}
use Rattle.scripts.specs.declared.record.Record.{Record}
use Rattle.scripts.specs.declared.state.State.{State}
use Rattle.scripts.specs.declared.state.State.TheVariants.{Rest, Session}
use Rattle.scripts.specs.declared.word.Word.{Word}
use Rattle.scripts.specs.declared.word.Word.TheVariants.{Step}

-- bs is the text of the records rs, which lead from the state s to t
pub record Reads (s : State) (rs : List Record) (t : State) (bs : List ℕ) : Type 0 where
  pub leads : Leads s rs t
  pub writable : AllByRecursion Writable rs
  pub text : bs ≡ script_of rs

pub record IsScript (rs : List Record) (bs : List ℕ) : Type 0 where
  pub reads : Reads Rest rs Rest bs
  pub short : length bs ≤ max_text

abbrev pub IsArgument : Word → List ℕ → Type 0
IsArgument Step bs = (z : ℤ) × WritesSigned z bs
IsArgument _ bs = IsNumber bs

abbrev pub Spells : Word → List (List ℕ) → Type 0
Spells w fs = slice_index_or fs 0 [] ≡ spelling w

abbrev pub Counted : Word → List (List ℕ) → Type 0
Counted w fs = Spells w fs × (length fs ≡ arity w + 1)

-- field k of the line is not a number, and each field between the word and it is one
pub record FirstNoNumber (w : Word) (fs : List (List ℕ)) (k : ℕ) : Type 0 where
  pub argument : 2 ≤ k
  pub inside : k ≤ length fs
  pub here : IsArgument w (slice_index_or fs (k - 1) []) → ⊥
  pub before : (j : ℕ) → 2 ≤ j → j < k → IsArgument w (slice_index_or fs (j - 1) [])

abbrev pub LineFault : State → ℕ → List (List ℕ) → RecordFault → Type 0
LineFault s n fs (UnknownWord i) = (i ≡ n) × ((w : Word) → Spells w fs → ⊥)
LineFault s n fs (FieldCount i) = (i ≡ n) × ((w : Word) × Spells w fs × (length fs ≢ arity w + 1))
LineFault s n fs (NotPermitted i) = (i ≡ n) × ((w : Word) × Counted w fs × (permits s w ≡ false))
LineFault s n fs (Field (NotANumber p)) = (p.line ≡ n) × ((w : Word) × Counted w fs × IsTrue (permits s w) × FirstNoNumber w fs p.field)
LineFault s n fs _ = ⊥

-- the text is short enough and finished
abbrev pub IsWhole : List ℕ → Type 0
IsWhole bs = (length bs ≤ max_text) × IsTrue (finished bs)

abbrev pub NoNewline : List ℕ → Type 0
NoNewline l = AllByRecursion (λ b. is_newline b ≡ false) l

-- records, and then a line that is wrong
pub record FaultyLine (n : ℕ) (bs : List ℕ) (e : RecordFault) : Type 0 where
  pub records : List Record
  pub state : State
  pub front : List ℕ
  pub line : List ℕ
  pub below : List ℕ
  pub text : bs ≡ front ++ (ended line ++ below)
  pub reads : Reads Rest records state front
  pub one_line : NoNewline line
  pub fault : LineFault state (n + length records) (fields line) e

abbrev pub TextFault : ℕ → List ℕ → RecordFault → Type 0
TextFault n bs TooLong = max_text < length bs
TextFault n bs (Unfinished i) = (length bs ≤ max_text) × (finished bs ≡ false) × (i ≡ n + count_by is_newline bs)
TextFault n bs (EndsInSession i) = IsWhole bs × ((rs : List Record) × Reads Rest rs Session bs × (i ≡ n + length rs))
TextFault n bs e = IsWhole bs × FaultyLine n bs e
