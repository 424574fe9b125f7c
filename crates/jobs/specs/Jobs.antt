-- The job that a text is.
--     named_at n bs          the map with the name bs, which is field 2 of line n; or the fault that there is none
--     map_at n fs            the map that the fields fs of line n name, or the line's first fault: it has the word `map` and one field after it
--     Job                    a map, a lattice, and the records of a script
--     if_room k l            the lattice l, if a memory of k bytes has room for its cells; else the fault that it is too short
--     board_in k bs          the lattice of the board with which bs, the text from line 2 on, begins, if its cells have room; or the first fault
--     script_line l          the line on which a script begins, after the map line and the board of l
--     job_below k m bs       the job over the map m whose board and script are bs, the text from line 2 on; or the first fault. The script begins after the bytes
--                            that the board is written as: each board has only one text
--     job k bs               the job that the text bs is, if the cells memory has k bytes; or the first fault
use Rattle.std.specs.Prelude.{ℕ, ◌+◌, List, [], length, drop, Result, Ok, Err, slice_index_or, ok_or, codes, nat_le, if◌then◌else◌}
use Rattle.boards.specs.Boards.{board_text}
use Rattle.boards.specs.Reading.{line_at, on_first, board}
use Rattle.faults.specs.Results.{◌>>=◌}
use Rattle.faults.specs.declared.record.RecordFault.{RecordFault}
use Rattle.faults.specs.declared.record.RecordFault.TheVariants.{UnknownMap, CellsTooShort}
use Rattle.lattice.specs.Lattice.{Lattice}
use Rattle.named_maps.specs.Choice.{map_named}
use Rattle.named_maps.specs.declared.named.NamedMap.{NamedMap}
use Rattle.scripts.specs.Judgements.{script}
use Rattle.scripts.specs.declared.record.Record.{Record}
use Rattle.text.specs.Lines.{below_first, lines}
use Rattle.text.specs.Wholes.{whole}

pub record Job : Type 0 where
  pub map : NamedMap
  pub lattice : Lattice
  pub records : List Record

abbrev pub named_at : ℕ → List ℕ → Result NamedMap RecordFault
named_at n bs = ok_or (map_named bs) (UnknownMap n)

abbrev pub map_at : ℕ → List (List ℕ) → Result NamedMap RecordFault
map_at n fs = line_at (codes "map") 1 n fs (λ args. named_at n (slice_index_or args 0 []))

abbrev pub if_room : ℕ → Lattice → Result Lattice RecordFault
if_room k l = if nat_le (length l.cells) k then Ok l else Err CellsTooShort

abbrev pub script_line : Lattice → ℕ
script_line l = 3 + l.height

abbrev pub board_in : ℕ → List ℕ → Result Lattice RecordFault
board_in k bs = board 2 bs >>= λ l. if_room k l

abbrev pub job_below : ℕ → NamedMap → List ℕ → Result Job RecordFault
job_below k m bs = board_in k bs >>= λ l. script (script_line l) (drop (length (board_text l)) bs) >>= λ rs. Ok (record { map = m; lattice = l; records = rs })

abbrev pub job : ℕ → List ℕ → Result Job RecordFault
job k bs = whole 1 bs >>= λ u. on_first map_at 1 (lines bs) >>= λ m. job_below k m (below_first bs)
