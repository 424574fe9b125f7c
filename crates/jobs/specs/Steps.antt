-- What the parts of reading a job find. Cited by inner functions alone.
--     MapFound bs r           r is the map that the first line of bs names, and where the next line begins; or the first fault
--     ScriptFound h bs r      r is the number of the first line of the script bs, which comes after a board of h rows; or the first fault of the script
--     BelowFound k m p bs r   r is the result of looking for a job over the map m whose board begins at place p of the text bs, if the cells memory has k bytes
--     JobFound k bs r         r is the result of looking for a job in bs: what it opens with, and where its board begins; or the first fault
--     OpenedOn bs o cs        o is what the job with the text bs opens with, and cs are the cells of its board
use Rattle.std.specs.Prelude.{◌≡◌, ℕ, ◌+◌, ◌≤◌, List, length, drop, Result, Ok, Err}
use Rattle.boards.specs.Reading.{on_first}
use Rattle.faults.specs.declared.record.RecordFault.{RecordFault}
use Rattle.named_maps.specs.declared.named.NamedMap.{NamedMap}
use Rattle.text.specs.Lines.{below_first, lines}
use Rattle.scripts.specs.Judgements.{script}
use Rattle.scripts.specs.declared.record.Record.{Record}
use Rattle.jobs.specs.Answers.{Opens}
use Rattle.jobs.specs.Jobs.{Job, map_at, job_below, job}
use Rattle.jobs.specs.declared.opening.Opening.{Opening}

abbrev pub MapFound : List ℕ → Result (NamedMap × ℕ) RecordFault → Type 0
MapFound bs (Ok x) = (on_first map_at 1 (lines bs) ≡ Ok x.0) × (x.1 ≤ length bs) × (drop x.1 bs ≡ below_first bs)
MapFound bs (Err e) = on_first map_at 1 (lines bs) ≡ Err e

abbrev pub ScriptFound : ℕ → List ℕ → Result ℕ RecordFault → Type 0
ScriptFound h bs (Ok n) = (n ≡ 3 + h) × ((rs : List Record) × (script n bs ≡ Ok rs))
ScriptFound h bs (Err e) = script (3 + h) bs ≡ Err e

abbrev pub BelowFound : ℕ → NamedMap → ℕ → List ℕ → Result Opening RecordFault → Type 0
BelowFound k m p bs (Ok o) = (j : Job) × (job_below k m (drop p bs) ≡ Ok j) × Opens j bs o
BelowFound k m p bs (Err e) = job_below k m (drop p bs) ≡ Err e

abbrev pub JobFound : ℕ → List ℕ → Result (Opening × ℕ) RecordFault → Type 0
JobFound k bs (Ok x) = ((j : Job) × (job k bs ≡ Ok j) × Opens j bs x.0) × (x.1 ≤ length bs) × (drop x.1 bs ≡ below_first bs)
JobFound k bs (Err e) = job k bs ≡ Err e

pub record OpenedOn (bs : List ℕ) (o : Opening) (cs : List ℕ) : Type 0 where
  pub job : Job
  pub opens : Opens job bs o
  pub cells : cs ≡ job.lattice.cells
