-- Laws of jobs that do not refer to how a text is read. (Which actions stand is taken from `outcome`.)
--     map_line m              the line that names the map m
--     job_text j              the text of the job j: the line of its map, its board, its script
--     IsJob j bs              bs is the text of the job j: its board is within the limits, the states permit its records in a row, from rest to rest, their
--                             numbers have at most six digits, and bs is short enough
--     standing_board j        the board of the job j, changed by the actions that stand after its records were run
--     StandsOn j old new r    the cells memory goes from `old` to `new` and begins with the cells of the standing board; the start record in r, unless that is a fault, is
--                             the one of this board; and no session is open
use Rattle.std.specs.Prelude.{◌≡◌, ℕ, ◌≤◌, List, [], ◌∷◌, ◌++◌, length, codes, Result, IfOk}
use Rattle.std.specs.List.{AllByRecursion}
use Rattle.boards.specs.Boards.{board_text}
use Rattle.faults.specs.declared.run.RunFault.{RunFault}
use Rattle.lattice.specs.Lattice.{Lattice, Whole, Within}
use Rattle.lattice.specs.Starts.{StartOf}
use Rattle.ledger.specs.Effects.{standing_for}
use Rattle.named_maps.specs.Choice.{name_of, forward_of, backward_of}
use Rattle.named_maps.specs.declared.named.NamedMap.{NamedMap}
use Rattle.scripts.specs.Records.{script_of, Writable}
use Rattle.scripts.specs.States.{Leads}
use Rattle.scripts.specs.declared.state.State.TheVariants.{Rest}
use Rattle.text.specs.Lines.{ended, separated}
use Rattle.text.specs.Wholes.{max_text}
use Rattle.jobs.specs.Answers.{Filled}
use Rattle.jobs.specs.Jobs.{Job}
use Rattle.jobs.specs.Outcomes.{outcome}
use Rattle.jobs.specs.declared.done.Done.{Done}

abbrev pub map_line : NamedMap → List ℕ
map_line m = ended (separated (codes "map" ∷ name_of m ∷ []))

abbrev pub job_text : Job → List ℕ
job_text j = map_line j.map ++ (board_text j.lattice ++ script_of j.records)

pub record IsJob (j : Job) (bs : List ℕ) : Type 0 where
  pub within : Within j.lattice
  pub whole : Whole j.lattice
  pub leads : Leads Rest j.records Rest
  pub writable : AllByRecursion Writable j.records
  pub text : bs ≡ job_text j
  pub short : length bs ≤ max_text

abbrev pub standing_board : Job → Lattice
standing_board j = standing_for (forward_of j.map) (backward_of j.map) (outcome j).ledger j.lattice

unfoldable pub StandsOn : Job → List ℕ → List ℕ → Result Done RunFault → Type 0
StandsOn j old new r =
    ((outcome j).ledger.state ≡ Rest) × ((outcome j).ledger.session ≡ []) × Filled (standing_board j).cells old new × IfOk r (λ d. StartOf (standing_board j) d.start)
