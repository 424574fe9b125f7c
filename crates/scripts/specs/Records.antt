-- Records, and how they are written.
--     kind_of r            the word that r begins with
--     arguments_of r       its numbers, each as it is written
--     fields_of r          the fields of its line
--     written r            its line, with the newline
--     script_of rs         the text of the records rs
--     Writable r           each number of r has at most six digits
use Rattle.std.specs.Prelude.{ℕ, ◌≤◌, List, [], ◌∷◌, ⊤, unsigned_abs, flat_map}
use Rattle.std.specs.Fmt.{decimal, signed_decimal}
use Rattle.text.specs.Lines.{ended, separated}
use Rattle.text.specs.Numbers.{max_number}
use Rattle.scripts.specs.Words.{spelling}
use Rattle.scripts.specs.declared.word.Word.{Word}
use Rattle.scripts.specs.declared.word.Word.TheVariants.{Step as StepWord, Undo as UndoWord, Redo as RedoWord, Open as OpenWord, Flip as FlipWord, Clear as ClearWord, Close as CloseWord}
use Rattle.scripts.specs.declared.record.Record.{Record}
use Rattle.scripts.specs.declared.record.Record.TheVariants.{Step, Undo, Redo, Open, Flip, Clear, Close}

abbrev pub kind_of : Record → Word
kind_of (Step z) = StepWord
kind_of Undo = UndoWord
kind_of Redo = RedoWord
kind_of Open = OpenWord
kind_of (Flip c r m) = FlipWord
kind_of Clear = ClearWord
kind_of Close = CloseWord

abbrev pub arguments_of : Record → List (List ℕ)
arguments_of (Step z) = signed_decimal z ∷ []
arguments_of (Flip c r m) = decimal c ∷ decimal r ∷ decimal m ∷ []
arguments_of Undo = []
arguments_of Redo = []
arguments_of Open = []
arguments_of Clear = []
arguments_of Close = []

abbrev pub fields_of : Record → List (List ℕ)
fields_of r = spelling (kind_of r) ∷ arguments_of r

abbrev pub written : Record → List ℕ
written r = ended (separated (fields_of r))

abbrev pub script_of : List Record → List ℕ
script_of rs = flat_map written rs

abbrev pub Writable : Record → Type 0
Writable (Step z) = unsigned_abs z ≤ max_number
Writable (Flip c r m) = (c ≤ max_number) × (r ≤ max_number) × (m ≤ max_number)
Writable Undo = ⊤
Writable Redo = ⊤
Writable Open = ⊤
Writable Clear = ⊤
Writable Close = ⊤
