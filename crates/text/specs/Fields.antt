-- A field as a reader gives it.
--     slice_of f          its bytes as they are lent: what they are, and where they lie in memory
--     bytes_of f          what they are
--     place_of f          its line and its number on that line
--     ends_line_of f      f is the last field of its line
--     LiesAt f t k        f lies in the lent text t, from byte k on
--     EndsAt f bs         what ends f is what the bytes bs after it begin with: a tab, a newline, or nothing
--     FirstOf f bs more   f is the first of the fields that bs has left on its line. If it is also the last, more is what comes below that line;
--                         otherwise more has the line's other fields left
use Rattle.std.specs.Prelude.{◌≡◌, ℕ, ◌+◌, Bool, true, false, List, [], ◌∷◌, Some, slice_get}
use Rattle.std.specs.Borrow.{Bor}
use Rattle.faults.specs.declared.place.Place.{Place}
use Rattle.text.specs.Lines.{first_line, below_first, fields}
use Rattle.text.specs.declared.field.Field.{Field}
use Rattle.text.specs.declared.field.Field.TheVariants.{Inner, Last, Unfinished}

abbrev pub slice_of : Field → Bor (List ℕ)
slice_of (Inner b p) = b
slice_of (Last b p) = b
slice_of (Unfinished b p) = b

abbrev pub bytes_of : Field → List ℕ
bytes_of f = (slice_of f).now

abbrev pub place_of : Field → Place
place_of (Inner b p) = p
place_of (Last b p) = p
place_of (Unfinished b p) = p

abbrev pub ends_line_of : Field → Bool
ends_line_of (Inner b p) = false
ends_line_of (Last b p) = true
ends_line_of (Unfinished b p) = true

-- the same block of memory, and k bytes after the beginning of the text
abbrev pub LiesAt : Field → Bor (List ℕ) → ℕ → Type 0
LiesAt f t k = (slice_of f).ref_ptr ≡ (t.ref_ptr.0, t.ref_ptr.1 + k)

abbrev pub EndsAt : Field → List ℕ → Type 0
EndsAt (Inner b p) bs = slice_get bs 0 ≡ Some 9
EndsAt (Last b p) bs = slice_get bs 0 ≡ Some 10
EndsAt (Unfinished b p) bs = bs ≡ []

abbrev pub FirstOf : Field → List ℕ → List ℕ → Type 0
FirstOf (Inner b p) bs more = (fields (first_line bs) ≡ b.now ∷ fields (first_line more)) × (below_first bs ≡ below_first more)
FirstOf (Last b p) bs more = (fields (first_line bs) ≡ b.now ∷ []) × (below_first bs ≡ more)
FirstOf (Unfinished b p) bs more = (fields (first_line bs) ≡ b.now ∷ []) × (below_first bs ≡ more)
