-- What a text says as a board, line by line.
--     unless_refused n r l    the lattice l, if there is no refusal r of a start record; else the fault of line n
--     sides_at n w h p        sides and phase w, h, p, if they are those of a start record; else the fault of line n
--     numbers_at n a b c      the same from the fields a, b, c of line n, or its first fault
--     start_at n fs           sides and phase from the fields fs of line n, or its first fault
--     is_hex b                b is the byte of a hexadecimal digit in lower case
--     cells_of bs             the cells that the digits bs are, two digits each
--     digits_at w n bs        the w cells that the field bs of line n is, or its fault
--     row_at w n fs           the w cells of a row from the fields fs of line n, or its first fault
--     on_first f n ls         f of the fields of the first of the lines ls, which is line n; a fault if there is none
--     rows_from w h n ls      the cells of h rows, the first on line n, where ls are the lines from there on; or the first fault
--     board_from n ls         the lattice of the lines ls, the first being line n; or the first fault
--     board n bs              the lattice at the beginning of the text bs, the first line being line n; or the first fault
use Rattle.std.specs.Prelude.{ℕ, zero, suc, ◌+◌, ◌*◌, ◌==◌, ◌&&◌, ◌||◌, Bool, List, [], ◌∷◌, ◌++◌, length, drop, Option, Some, None, Result, Ok, Err, slice_index_or, codes, nat_le, if◌then◌else◌}
use Rattle.std.specs.Char.{digit_value, is_ascii_digit}
use Rattle.std.specs.List.{list_all}
use Rattle.std.specs.Str.{bytes_eq}
use Rattle.faults.specs.Results.{◌>>=◌}
use Rattle.faults.specs.declared.field.FieldFault.TheVariants.{WrongDigits}
use Rattle.faults.specs.declared.record.RecordFault.{RecordFault}
use Rattle.faults.specs.declared.record.RecordFault.TheVariants.{Field, UnknownWord, FieldCount, Start, MissingLine}
use Rattle.lattice.specs.Lattice.{Lattice, with_cells}
use Rattle.lattice.specs.Refusals.{start_refusal}
use Rattle.lattice.specs.declared.refusal.StartRefusal.{StartRefusal}
use Rattle.text.specs.Lines.{lines, fields}
use Rattle.text.specs.Numbers.{number_at}
use Rattle.text.specs.Wholes.{whole}

-- f of the fields after the word w, if the line begins with it and has `count` of them
abbrev pub line_at : {A : Type 0} → List ℕ → ℕ → ℕ → List (List ℕ) → (List (List ℕ) → Result A RecordFault) → Result A RecordFault
line_at w count n [] f = Err (UnknownWord n)
line_at w count n (v ∷ args) f = if bytes_eq v w then (if length args == count then f args else Err (FieldCount n)) else Err (UnknownWord n)

-- a lattice that has no cells yet
abbrev pub empty : ℕ → ℕ → ℕ → Lattice
empty w h p = record { width = w; height = h; phase = p; cells = [] }

abbrev pub unless_refused : ℕ → Option StartRefusal → Lattice → Result Lattice RecordFault
unless_refused n None l = Ok l
unless_refused n (Some e) l = Err (Start e n)

abbrev pub sides_at : ℕ → ℕ → ℕ → ℕ → Result Lattice RecordFault
sides_at n w h p = unless_refused n (start_refusal w h p) (empty w h p)

abbrev pub numbers_at : ℕ → List ℕ → List ℕ → List ℕ → Result Lattice RecordFault
numbers_at n a b c = number_at n 2 a >>= λ w. number_at n 3 b >>= λ h. number_at n 4 c >>= λ p. sides_at n w h p

abbrev pub start_at : ℕ → List (List ℕ) → Result Lattice RecordFault
start_at n fs = line_at (codes "board") 3 n fs (λ args. numbers_at n (slice_index_or args 0 []) (slice_index_or args 1 []) (slice_index_or args 2 []))

abbrev pub is_hex : ℕ → Bool
is_hex b = is_ascii_digit b || (nat_le 97 b && nat_le b 102)

abbrev pub cells_of : List ℕ → List ℕ
cells_of [] = []
cells_of (a ∷ []) = []
cells_of (a ∷ b ∷ bs) = (16 * digit_value a + digit_value b) ∷ cells_of bs

abbrev pub digits_at : ℕ → ℕ → List ℕ → Result (List ℕ) RecordFault
digits_at w n bs = if length bs == 2 * w && list_all is_hex bs then Ok (cells_of bs) else Err (Field (WrongDigits (record { line = n; field = 2 })))

abbrev pub row_at : ℕ → ℕ → List (List ℕ) → Result (List ℕ) RecordFault
row_at w n fs = line_at (codes "row") 1 n fs (λ args. digits_at w n (slice_index_or args 0 []))

abbrev pub on_first : {A : Type 0} → (ℕ → List (List ℕ) → Result A RecordFault) → ℕ → List (List ℕ) → Result A RecordFault
on_first f n [] = Err (MissingLine n)
on_first f n (l ∷ ls) = f n (fields l)

abbrev pub rows_from : ℕ → ℕ → ℕ → List (List ℕ) → Result (List ℕ) RecordFault
rows_from w zero n ls = Ok []
rows_from w (suc h) n ls = on_first (row_at w) n ls >>= λ cs. rows_from w h (n + 1) (drop 1 ls) >>= λ more. Ok (cs ++ more)

abbrev pub board_from : ℕ → List (List ℕ) → Result Lattice RecordFault
board_from n ls = on_first start_at n ls >>= λ s. rows_from s.width s.height (n + 1) (drop 1 ls) >>= λ cs. Ok (with_cells s cs)

unfoldable pub board : ℕ → List ℕ → Result Lattice RecordFault
board n bs = whole n bs >>= λ _. board_from n (lines bs)
