-- Lattices as text.
--     hex c               the two hexadecimal digits of the byte c, in lower case
--     rows w h cs         the cells cs in h rows of w cells
--     start_line w h p    the first line of a board with w columns, h rows and phase p
--     row_line cs         the line of a row with the cells cs
--     rows_text w h cs    the lines of h rows of w cells
--     board_text l        the text of the lattice l
use Rattle.std.specs.Prelude.{ℕ, zero, suc, ◌/◌, ◌%◌, false, List, [], ◌∷◌, ◌++◌, take, drop, flat_map, codes}
use Rattle.std.specs.Fmt.{decimal, digit_glyph}
use Rattle.lattice.specs.Lattice.{Lattice}
use Rattle.text.specs.Lines.{ended, separated}

abbrev pub hex : ℕ → List ℕ
hex c = digit_glyph false (c / 16) ∷ digit_glyph false (c % 16) ∷ []

abbrev pub rows : ℕ → ℕ → List ℕ → List (List ℕ)
rows w zero cs = []
rows w (suc h) cs = take w cs ∷ rows w h (drop w cs)

abbrev pub start_line : ℕ → ℕ → ℕ → List ℕ
start_line w h p = ended (separated (codes "board" ∷ decimal w ∷ decimal h ∷ decimal p ∷ []))

abbrev pub row_line : List ℕ → List ℕ
row_line cs = ended (separated (codes "row" ∷ flat_map hex cs ∷ []))

abbrev pub rows_text : ℕ → ℕ → List ℕ → List ℕ
rows_text w h cs = flat_map row_line (rows w h cs)

abbrev pub board_text : Lattice → List ℕ
board_text l = start_line l.width l.height l.phase ++ rows_text l.width l.height l.cells
