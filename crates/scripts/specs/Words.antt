-- The words that records begin with.
--     words          all seven
--     spelling w     the bytes of the word w
--     word_of bs     the word that bs spells, if it is one
use Rattle.std.specs.Prelude.{ℕ, List, [], ◌∷◌, Option, codes}
use Rattle.std.specs.List.{find}
use Rattle.std.specs.Str.{bytes_eq}
use Rattle.scripts.specs.declared.word.Word.{Word}
use Rattle.scripts.specs.declared.word.Word.TheVariants.{Step, Undo, Redo, Open, Flip, Clear, Close}

abbrev pub words : List Word
words = Step ∷ Undo ∷ Redo ∷ Open ∷ Flip ∷ Clear ∷ Close ∷ []

abbrev pub spelling : Word → List ℕ
spelling Step = codes "step"
spelling Undo = codes "undo"
spelling Redo = codes "redo"
spelling Open = codes "open"
spelling Flip = codes "flip"
spelling Clear = codes "clear"
spelling Close = codes "close"

abbrev pub word_of : List ℕ → Option Word
word_of bs = find (λ w. bytes_eq bs (spelling w)) words
