-- The faults of a text that should be a job, in terms of its lines and fields and not of how it is read.
--     NameFault n fs e       e is what is wrong with the name on a map line with the fields fs, which is line n: no map has it
--     MapLineFault n fs e    e is what is wrong with that line
--     FaultyBoard bs e       the text bs has a map line, and e is what is wrong with the text below it as one that begins with a board
--     HasBoard bs l more     the text bs has a map line, below it the board of l, which is within the limits, and below that the text more
--     NoRoom k bs            it has a board whose cells have no room in a memory of k bytes
--     FaultyScript k bs e    it has a board whose cells have room, and e is what is wrong with the text below that as a script
--     JobFault k bs e        e is what is wrong with the text bs as a job, where the cells memory has k bytes: it applies, and nothing before it
--                            is wrong
--     RefusedRecord k bs c i   the text bs is a job, whose cells have room. Of its records some are made, one after another, and the next one, which is on line i,
--                            is refused by the bench for the cause c
--     JobRunFault k bs e     e is why the job bs is not run to its end: what is wrong with its text, or the first record that the bench refuses
use Rattle.std.specs.Prelude.{◌≡◌, ◌≢◌, ◌⊎◌, ℕ, ◌+◌, ◌<◌, ◌≤◌, List, ◌∷◌, ◌++◌, length, codes, false, None}
use Rattle.std.specs.List.{count_by}
use Rattle.any_bench.specs.Scenes.{answered_at, after_calls}
use Rattle.any_bench.specs.declared.answer.Answer.TheVariants.{Refused}
use Rattle.boards.specs.Boards.{board_text}
use Rattle.boards.specs.Laws.{field, LineFault, NextFault, BoardFault}
use Rattle.faults.specs.declared.record.RecordFault.{RecordFault}
use Rattle.faults.specs.declared.record.RecordFault.TheVariants.{TooLong, Unfinished, UnknownMap, CellsTooShort}
use Rattle.faults.specs.declared.run.BenchRefusal.{BenchRefusal}
use Rattle.faults.specs.declared.run.RunFault.{RunFault}
use Rattle.faults.specs.declared.run.RunFault.TheVariants.{Record as OfRecord, Bench}
use Rattle.lattice.specs.Lattice.{Lattice, Whole, Within}
use Rattle.named_maps.specs.Choice.{name_of, forward_of, backward_of}
use Rattle.named_maps.specs.declared.named.NamedMap.{NamedMap}
use Rattle.runs.specs.Runs.{first_refused}
use Rattle.scripts.specs.Laws.{IsWhole, TextFault}
use Rattle.scripts.specs.declared.record.Record.{Record}
use Rattle.text.specs.Lines.{is_newline}
use Rattle.text.specs.Wholes.{max_text, finished}
use Rattle.jobs.specs.Jobs.{Job, script_line}
use Rattle.jobs.specs.Laws.{map_line, IsJob}
use Rattle.jobs.specs.Outcomes.{first_scene}

abbrev pub NameFault : ℕ → List (List ℕ) → RecordFault → Type 0
NameFault n fs (UnknownMap i) = (i ≡ n) × ((m : NamedMap) → field 2 fs ≢ name_of m)
NameFault n fs _ = ⊥

abbrev pub MapLineFault : ℕ → List (List ℕ) → RecordFault → Type 0
MapLineFault n fs e = LineFault (codes "map") 2 NameFault n fs e

pub record FaultyBoard (bs : List ℕ) (e : RecordFault) : Type 0 where
  pub map : NamedMap
  pub below : List ℕ
  pub text : bs ≡ map_line map ++ below
  pub fault : BoardFault 2 below e

pub record HasBoard (bs : List ℕ) (l : Lattice) (more : List ℕ) : Type 0 where
  pub map : NamedMap
  pub within : Within l
  pub whole : Whole l
  pub text : bs ≡ map_line map ++ (board_text l ++ more)

pub record NoRoom (k : ℕ) (bs : List ℕ) : Type 0 where
  pub lattice : Lattice
  pub more : List ℕ
  pub board : HasBoard bs lattice more
  pub short : k < length lattice.cells

pub record FaultyScript (k : ℕ) (bs : List ℕ) (e : RecordFault) : Type 0 where
  pub lattice : Lattice
  pub script : List ℕ
  pub board : HasBoard bs lattice script
  pub room : length lattice.cells ≤ k
  pub fault : TextFault (script_line lattice) script e

unfoldable pub JobFault : ℕ → List ℕ → RecordFault → Type 0
JobFault k bs TooLong = max_text < length bs
JobFault k bs (Unfinished i) = (length bs ≤ max_text) × (finished bs ≡ false) × (i ≡ 1 + count_by is_newline bs)
JobFault k bs CellsTooShort = IsWhole bs × NoRoom k bs
JobFault k bs e = IsWhole bs × (NextFault MapLineFault 1 bs e ⊎ (FaultyBoard bs e ⊎ FaultyScript k bs e))

pub record RefusedRecord (k : ℕ) (bs : List ℕ) (c : BenchRefusal) (i : ℕ) : Type 0 where
  pub job : Job
  pub is : IsJob job bs
  pub room : length job.lattice.cells ≤ k
  pub made : List Record
  pub next : Record
  pub more : List Record
  pub records : job.records ≡ made ++ (next ∷ more)
  pub line : i ≡ script_line job.lattice + length made
  pub accepted : first_refused (forward_of job.map) (backward_of job.map) (first_scene job) made ≡ None
  pub refused : answered_at next (after_calls (forward_of job.map) (backward_of job.map) (first_scene job) made) ≡ Refused c

unfoldable pub JobRunFault : ℕ → List ℕ → RunFault → Type 0
JobRunFault k bs (OfRecord e) = JobFault k bs e
JobRunFault k bs (Bench c i) = RefusedRecord k bs c i
