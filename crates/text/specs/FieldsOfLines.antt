-- A line as a reader gives it.
--     word_field l           the first field of the line l
--     Stands f n k           the field f is number k on line n
--     StandsFrom l n k       the fields that l holds stand on line n, from number k on
--     next_at f k            where the next field of the line begins, if f begins at byte k
--     LiesFrom l t k         the fields that l holds lie in the lent text t, one after another, from byte k on
--     HasFields l fs         fs are the fields of l
--     IsInner f              another field follows f on its line
--     LineEndsAt l bs        each field that l holds is followed by another on the line, except for the line's last, and what ends that one
--                            is what the bytes bs after the line begin with
--     GivesLine r l s        r gives l, the rest of its line, and becomes s, which stands at the beginning of the next line
use Rattle.std.specs.Prelude.{◌≡◌, ◌≢◌, ℕ, ◌+◌, false, List, [], ◌∷◌, length}
use Rattle.std.specs.Borrow.{Bor}
use Rattle.text.specs.Fields.{bytes_of, place_of, ends_line_of, LiesAt, EndsAt}
use Rattle.text.specs.Lines.{first_line, below_first, line_end, fields}
use Rattle.text.specs.Readers.{lent_of, position_of, rest_of, line_of, fields_read_of}
use Rattle.text.specs.declared.field.Field.{Field}
use Rattle.text.specs.declared.line.Line.{Line}
use Rattle.text.specs.declared.line.Line.TheVariants.{One, Two, Four, Other}
use Rattle.text.specs.declared.reader.Reader.{Reader}

abbrev pub word_field : Line → Field
word_field (One a) = a
word_field (Two a b) = a
word_field (Four a b c d) = a
word_field (Other a) = a

abbrev pub Stands : Field → ℕ → ℕ → Type 0
Stands f n k = ((place_of f).line ≡ n) × ((place_of f).field ≡ k)

abbrev pub StandsFrom : Line → ℕ → ℕ → Type 0
StandsFrom (One a) n k = Stands a n k
StandsFrom (Two a b) n k = Stands a n k × Stands b n (k + 1)
StandsFrom (Four a b c d) n k = Stands a n k × Stands b n (k + 1) × Stands c n (k + 2) × Stands d n (k + 3)
StandsFrom (Other a) n k = Stands a n k

-- after its bytes and a tab
abbrev pub next_at : Field → ℕ → ℕ
next_at f k = k + length (bytes_of f) + 1

abbrev pub LiesFrom : Line → Bor (List ℕ) → ℕ → Type 0
LiesFrom (One a) t k = LiesAt a t k
LiesFrom (Two a b) t k = LiesAt a t k × LiesAt b t (next_at a k)
LiesFrom (Four a b c d) t k = LiesAt a t k × LiesAt b t (next_at a k) × LiesAt c t (next_at b (next_at a k)) × LiesAt d t (next_at c (next_at b (next_at a k)))
LiesFrom (Other a) t k = LiesAt a t k

abbrev pub HasFields : Line → List (List ℕ) → Type 0
HasFields (One a) fs = fs ≡ bytes_of a ∷ []
HasFields (Two a b) fs = fs ≡ bytes_of a ∷ bytes_of b ∷ []
HasFields (Four a b c d) fs = fs ≡ bytes_of a ∷ bytes_of b ∷ bytes_of c ∷ bytes_of d ∷ []
HasFields (Other a) fs = ((more : List (List ℕ)) × (fs ≡ bytes_of a ∷ more)) × (length fs ≢ 1) × (length fs ≢ 2) × (length fs ≢ 4)

abbrev pub IsInner : Field → Type 0
IsInner f = ends_line_of f ≡ false

abbrev pub LineEndsAt : Line → List ℕ → Type 0
LineEndsAt (One a) bs = EndsAt a bs
LineEndsAt (Two a b) bs = IsInner a × EndsAt b bs
LineEndsAt (Four a b c d) bs = IsInner a × IsInner b × IsInner c × EndsAt d bs
LineEndsAt (Other a) bs = IsInner a

pub record GivesLine (r : Reader) (l : Line) (s : Reader) : Type 0 where
  pub fields : HasFields l (fields (first_line (rest_of r)))
  pub stands : StandsFrom l (line_of r) (fields_read_of r + 1)
  pub lies : LiesFrom l (lent_of r) (position_of r)
  pub ends : LineEndsAt l (line_end (rest_of r))
  pub lent : lent_of s ≡ lent_of r
  pub rest : rest_of s ≡ below_first (rest_of r)
  pub line : line_of s ≡ line_of r + 1
  pub fields_read : fields_read_of s ≡ 0
