-- The lines of a text, and the fields of a line.
--     is_tab b, is_newline b     b is that byte: 9 or 10
--     is_separator b             b ends a field: it is one of the two
--     first_line bs              the bytes of bs before its first newline, or all of them if there is none
--     below_first bs             the bytes after that newline
--     line_end bs                the bytes after its first line: the newline and all that follows, or none
--     lines bs                   all lines of bs. The bytes after the last newline are a line too, unless there are none
--     ended l                    the line l and its newline
--     separated fs                  the fields fs, separated by tabs
--     fields l                   the fields of the line l. There is always one, and one more for each tab
use Rattle.std.specs.Prelude.{ℕ, ◌==◌, ◌||◌, Bool, List, [], ◌∷◌, ◌++◌, if◌then◌else◌, length, drop}
use Rattle.std.specs.List.{slice_split, before_first, after_first, join_with_byte}

abbrev pub is_tab : ℕ → Bool
is_tab b = b == 9

abbrev pub is_newline : ℕ → Bool
is_newline b = b == 10

abbrev pub is_separator : ℕ → Bool
is_separator b = is_tab b || is_newline b

abbrev pub first_line : List ℕ → List ℕ
first_line bs = before_first is_newline bs

abbrev pub below_first : List ℕ → List ℕ
below_first bs = after_first is_newline bs

abbrev pub line_end : List ℕ → List ℕ
line_end bs = drop (length (first_line bs)) bs

-- the pieces between newlines, less an empty last one
abbrev pub lines_of_pieces : List (List ℕ) → List (List ℕ)
lines_of_pieces [] = []
lines_of_pieces (l ∷ []) = if length l == 0 then [] else (l ∷ [])
lines_of_pieces (l ∷ m ∷ more) = l ∷ lines_of_pieces (m ∷ more)

abbrev pub lines : List ℕ → List (List ℕ)
lines bs = lines_of_pieces (slice_split is_newline bs)

abbrev pub fields : List ℕ → List (List ℕ)
fields l = slice_split is_tab l

abbrev pub ended : List ℕ → List ℕ
ended l = l ++ (10 ∷ [])

abbrev pub separated : List (List ℕ) → List ℕ
separated fs = join_with_byte 9 fs
