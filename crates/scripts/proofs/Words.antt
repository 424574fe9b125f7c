-- Words and their spellings. Assumes nothing.
use Rattle.std.proofs.Common.{◌≡◌, ℕ, List, [], ◌∷◌, true, false, Bool, Some, None, refl, ◌∙◌, ap, sym, cond}
use Rattle.std.specs.List.{find}
use Rattle.std.specs.Str.{bytes_eq}
use Rattle.std.proofs.lemmas.Slice.Eq.{bytes_eq-Decides}
use Rattle.scripts.specs.Words.{words, spelling, word_of}
use Rattle.scripts.specs.declared.word.Word.{Word}
use Rattle.scripts.specs.declared.word.Word.TheVariants.{Step, Undo, Redo, Open, Flip, Clear, Close}

pub word_spelled : (w : Word) → word_of (spelling w) ≡ Some w
word_spelled Step = refl
word_spelled Undo = refl
word_spelled Redo = refl
word_spelled Open = refl
word_spelled Flip = refl
word_spelled Clear = refl
word_spelled Close = refl

found_at : (p : Word → Bool) (x : Word) (xs : List Word) (w : Word) (yes : Bool) → p x ≡ yes → (find p xs ≡ Some w → p w ≡ true) → cond (p x) (Some x) (find p xs) ≡ Some w → p w ≡ true
found_at p x xs w true e rest is = let same : Some x ≡ Some w = rw e at is in let x-is : x ≡ w = cc in ap p (sym x-is) ∙ e
found_at p x xs w false e rest is = rest (rw e at is)

found : (p : Word → Bool) (xs : List Word) (w : Word) → find p xs ≡ Some w → p w ≡ true
found p [] w e = absurd cc
found p (x ∷ xs) w e = found_at p x xs w (p x) refl (found p xs w) e

pub word_is : (bs : List ℕ) (w : Word) → word_of bs ≡ Some w → bs ≡ spelling w
word_is bs w e = (bytes_eq-Decides bs (spelling w)).0 (found (λ x. bytes_eq bs (spelling x)) words w e)

pub no_word : (bs : List ℕ) → word_of bs ≡ None → (w : Word) → bs ≡ spelling w → ⊥
no_word bs e w is = let some : word_of bs ≡ Some w = ap word_of is ∙ word_spelled w in absurd cc
