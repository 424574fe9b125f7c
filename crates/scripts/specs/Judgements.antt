-- What a script says, line by line.
--     arity w                 how many fields follow the word w
--     read_as w n args        the record of the word w and the fields `args` after it, on line n; or the fault of the first one that is no number
--     judged s n fs           the record that the fields fs are, on line n and in the state s; or the first fault of that line
--     judged_as m s n args    the same, where m is the word that the first field is, if it is one, and `args` are the fields after it
--     in_front r a            the record r and then those of a, if a is not a fault
--     end_of_text s n         no records; a fault if the text ends in session, where line n would be the next
--     records_from s n ls     the records of the lines ls, the first being line n, from the state s on; or the first fault
--     script n bs             the records of the text bs, the first line being line n; or the first fault
--     count_of a              how many records a has, if it is not a fault
use Rattle.std.specs.Prelude.{ℕ, ◌+◌, ◌==◌, List, [], ◌∷◌, length, Option, Some, None, Result, Ok, Err, slice_index_or, if◌then◌else◌}
use Rattle.faults.specs.Results.{◌>>=◌}
use Rattle.faults.specs.declared.record.RecordFault.{RecordFault}
use Rattle.faults.specs.declared.record.RecordFault.TheVariants.{UnknownWord, FieldCount, NotPermitted, EndsInSession}
use Rattle.text.specs.Lines.{lines, fields}
use Rattle.text.specs.Numbers.{number_at, signed_at}
use Rattle.text.specs.Wholes.{whole}
use Rattle.scripts.specs.Records.{kind_of}
use Rattle.scripts.specs.States.{permits, after}
use Rattle.scripts.specs.Words.{word_of}
use Rattle.scripts.specs.declared.record.Record.{Record}
use Rattle.scripts.specs.declared.record.Record.TheVariants.{Step, Undo, Redo, Open, Flip, Clear, Close}
use Rattle.scripts.specs.declared.state.State.{State}
use Rattle.scripts.specs.declared.state.State.TheVariants.{Rest, Session}
use Rattle.scripts.specs.declared.word.Word.{Word}
use Rattle.scripts.specs.declared.word.Word.TheVariants.{Step as StepWord, Undo as UndoWord, Redo as RedoWord, Open as OpenWord, Flip as FlipWord, Clear as ClearWord, Close as CloseWord}

abbrev pub arity : Word → ℕ
arity StepWord = 1
arity UndoWord = 0
arity RedoWord = 0
arity OpenWord = 0
arity FlipWord = 3
arity ClearWord = 0
arity CloseWord = 0

abbrev pub read_as : Word → ℕ → List (List ℕ) → Result Record RecordFault
read_as StepWord n args = signed_at n 2 (slice_index_or args 0 []) >>= λ z. Ok (Step z)
read_as UndoWord n args = Ok Undo
read_as RedoWord n args = Ok Redo
read_as OpenWord n args = Ok Open
read_as FlipWord n args = number_at n 2 (slice_index_or args 0 []) >>= λ c. number_at n 3 (slice_index_or args 1 []) >>= λ r. number_at n 4 (slice_index_or args 2 []) >>= λ m. Ok (Flip c r m)
read_as ClearWord n args = Ok Clear
read_as CloseWord n args = Ok Close

abbrev pub judged_as : Option Word → State → ℕ → List (List ℕ) → Result Record RecordFault
judged_as None s n args = Err (UnknownWord n)
judged_as (Some w) s n args = if length args == arity w then (if permits s w then read_as w n args else Err (NotPermitted n)) else Err (FieldCount n)

abbrev pub judged : State → ℕ → List (List ℕ) → Result Record RecordFault
judged s n [] = Err (UnknownWord n)
judged s n (w ∷ args) = judged_as (word_of w) s n args

abbrev pub end_of_text : State → ℕ → Result (List Record) RecordFault
end_of_text Rest n = Ok []
end_of_text Session n = Err (EndsInSession n)

abbrev pub in_front : Record → Result (List Record) RecordFault → Result (List Record) RecordFault
in_front r a = a >>= λ rs. Ok (r ∷ rs)

abbrev pub records_from : State → ℕ → List (List ℕ) → Result (List Record) RecordFault
records_from s n [] = end_of_text s n
records_from s n (l ∷ ls) = judged s n (fields l) >>= λ r. in_front r (records_from (after s (kind_of r)) (n + 1) ls)

abbrev pub script : ℕ → List ℕ → Result (List Record) RecordFault
script n bs = whole n bs >>= λ _. records_from Rest n (lines bs)

abbrev pub count_of : Result (List Record) RecordFault → Result ℕ RecordFault
count_of a = a >>= λ rs. Ok (length rs)
