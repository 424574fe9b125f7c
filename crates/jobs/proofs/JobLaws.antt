-- What is read as a job is the text of that job, byte for byte; and the text of a job is read as that job. Assumes nothing.
use Rattle.std.proofs.Common.{◌≡◌, ℕ, ◌≤◌, List, ◌∷◌, ◌++◌, length, drop, map, flat_map, true, Ok, Err, Result, IfOk, arith, refl, sym, ◌∙◌, ap, ap₂, subst}
use Rattle.std.proofs.Math.Nat.{mul_comm}
use Rattle.std.proofs.lemmas.Bool.{le-leb}
use Rattle.std.proofs.lemmas.Grind.{flat_map-append}
use Rattle.std.proofs.lemmas.List.{drop_at, length-append}
use Rattle.boards.proofs.BoardLaws.{start_content, row_content, rows_joined}
use Rattle.boards.proofs.Found.{board_count}
use Rattle.boards.proofs.RoundTrips.{written_board, board_begins, board_within}
use Rattle.boards.specs.Answers.{BeginsWith}
use Rattle.boards.specs.Boards.{rows, start_line, board_text}
use Rattle.boards.specs.Reading.{on_first, board}
use Rattle.faults.specs.Results.{◌>>=◌}
use Rattle.faults.specs.declared.record.RecordFault.{RecordFault}
use Rattle.lattice.specs.Lattice.{Lattice, Whole, Within}
use Rattle.scripts.proofs.ScriptLaws.{accepted, taken}
use Rattle.scripts.proofs.ScriptLines.{content_of, script_of_lines}
use Rattle.scripts.specs.Judgements.{script}
use Rattle.scripts.specs.Laws.{IsScript}
use Rattle.scripts.specs.Records.{script_of}
use Rattle.scripts.specs.declared.record.Record.{Record}
use Rattle.text.proofs.EndedLines.{finished_joined}
use Rattle.text.proofs.WholeTexts.{whole_accepted, whole_passes}
use Rattle.text.specs.Lines.{below_first, lines, ended}
use Rattle.text.specs.Wholes.{max_text, finished, whole}
use Rattle.jobs.proofs.JobParts.{JobParts, job_parts}
use Rattle.jobs.proofs.MapLineLaws.{map_line_was, map_content, map_line_taken, below_map_line}
use Rattle.jobs.specs.Answers.{Filled, Opens, JobOpened}
use Rattle.jobs.specs.Jobs.{Job, map_at, if_room, board_in, script_line, job_below, job}
use Rattle.jobs.specs.Laws.{map_line, job_text, IsJob}
use Rattle.jobs.specs.declared.opening.Opening.{Opening}

-- what was read
pub job_was : (k : ℕ) (bs : List ℕ) (j : Job) → job k bs ≡ Ok j → IsJob j bs
job_was k bs j is =
    let p : JobParts k bs j = job_parts k bs j is in
    let good = whole_accepted 1 bs p.whole in
    let begins = board_begins 2 (below_first bs) j.lattice p.board in
    let behind : drop (length (board_text j.lattice)) (below_first bs) ≡ begins.0 = ap (drop (length (board_text j.lattice))) begins.1 ∙ drop_at (board_text j.lattice) begins.0 (length (board_text j.lattice)) refl in
    let s : IsScript j.records begins.0 = accepted (script_line j.lattice) begins.0 j.records (sym (ap (script (script_line j.lattice)) behind) ∙ p.script) in
    record {
      within = board_within 2 (below_first bs) j.lattice p.board;
      whole = board_count 2 (below_first bs) j.lattice p.board ∙ mul_comm j.lattice.height j.lattice.width;
      leads = s.reads.leads;
      writable = s.reads.writable;
      text = map_line_was bs j.map good.1 p.map ∙ ap (λ x. map_line j.map ++ x) (begins.1 ∙ ap (λ x. board_text j.lattice ++ x) s.reads.text);
      short = good.0;
    }

opened_was_at : (bs old new : List ℕ) (r : Result Opening RecordFault) (a : Result Job RecordFault) → job (length old) bs ≡ a → JobOpened a bs old new r → IfOk r (λ o. (j : Job) × IsJob j bs × Opens j bs o × Filled j.lattice.cells old new)
opened_was_at bs old new (Err e) a is opened = tt
opened_was_at bs old new (Ok o) (Err d) is opened = absurd opened
opened_was_at bs old new (Ok o) (Ok j) is opened = (j, job_was (length old) bs j is, opened.0, opened.1)

pub opened_was : (bs old new : List ℕ) (r : Result Opening RecordFault) → JobOpened (job (length old) bs) bs old new r → IfOk r (λ o. (j : Job) × IsJob j bs × Opens j bs o × Filled j.lattice.cells old new)
opened_was bs old new r opened = opened_was_at bs old new r (job (length old) bs) refl opened

-- what is written: the lines of board and script
module _ (l : Lattice) (rs : List Record) where
  board_lines : List (List ℕ)
  board_lines = start_content l.width l.height l.phase ∷ map row_content (rows l.width l.height l.cells)

  below_lines : List (List ℕ)
  below_lines = board_lines ++ map content_of rs

  below_joined : board_text l ++ script_of rs ≡ flat_map ended below_lines
  unfolding board_lines below_lines
  below_joined =
      ap₂ (λ x y. start_line l.width l.height l.phase ++ x ++ y) (rows_joined (rows l.width l.height l.cells)) (script_of_lines rs)
      ∙ sym (flat_map-append ended board_lines (map content_of rs))

  below_finished : finished (board_text l ++ script_of rs) ≡ true
  below_finished = ap finished below_joined ∙ finished_joined below_lines

  below_begins : Within l → Whole l → length (board_text l ++ script_of rs) ≤ max_text → BeginsWith l (board_text l ++ script_of rs)
  below_begins within whole short = record { within = within; whole = whole; more = script_of rs; text = refl; short = short; finished = below_finished }

job_finished : (j : Job) → finished (job_text j) ≡ true
job_finished j = ap (λ x. finished (map_line j.map ++ x)) (below_joined j.lattice j.records) ∙ finished_joined (map_content j.map ∷ below_lines j.lattice j.records)

module _ (k : ℕ) (bs : List ℕ) (j : Job) (is : IsJob j bs) (room : length j.lattice.cells ≤ k) where
  below_short : length (board_text j.lattice ++ script_of j.records) ≤ max_text
  below_short = omega (arith, is.short, ap length is.text, length-append (map_line j.map) (board_text j.lattice ++ script_of j.records))

  behind : drop (length (board_text j.lattice)) (board_text j.lattice ++ script_of j.records) ≡ script_of j.records
  behind = drop_at (board_text j.lattice) (script_of j.records) (length (board_text j.lattice)) refl

  script_short : length (script_of j.records) ≤ max_text
  script_short = omega (arith, below_short, length-append (board_text j.lattice) (script_of j.records))

  pub job_written : job k bs ≡ Ok j
  job_written =
      let below : List ℕ = board_text j.lattice ++ script_of j.records in
      let good : whole 1 bs ≡ Ok tt = whole_passes 1 bs is.short (ap finished is.text ∙ job_finished j) in
      let map_is : on_first map_at 1 (lines bs) ≡ Ok j.map = ap (λ x. on_first map_at 1 (lines x)) is.text ∙ map_line_taken j.map below in
      let rest : below_first bs ≡ below = ap below_first is.text ∙ below_map_line j.map below in
      let board_is : board 2 below ≡ Ok j.lattice = written_board 2 below j.lattice (below_begins j.lattice j.records is.within is.whole below_short) in
      let there : board_in k below ≡ Ok j.lattice = ap (λ a. a >>= λ l. if_room k l) board_is ∙ rw (le-leb (length j.lattice.cells) k room) refl in
      let script_is : script (script_line j.lattice) (script_of j.records) ≡ Ok j.records = taken (script_line j.lattice) (script_of j.records) j.records (record { reads = record { leads = is.leads; writable = is.writable; text = refl }; short = script_short }) in
      ap (λ a. a >>= λ u. on_first map_at 1 (lines bs) >>= λ m. job_below k m (below_first bs)) good
      ∙ ap (λ a. a >>= λ m. job_below k m (below_first bs)) map_is
      ∙ ap (job_below k j.map) rest
      ∙ ap (λ a. a >>= λ l. script (script_line l) (drop (length (board_text l)) below) >>= λ rs. Ok (record { map = j.map; lattice = l; records = rs })) there
      ∙ ap (λ a. a >>= λ rs. Ok (record { map = j.map; lattice = j.lattice; records = rs })) (ap (script (script_line j.lattice)) behind ∙ script_is)

pub written_is_opened : (bs old new : List ℕ) (r : Result Opening RecordFault) (j : Job) → JobOpened (job (length old) bs) bs old new r → IsJob j bs → length j.lattice.cells ≤ length old → JobOpened (Ok j) bs old new r
written_is_opened bs old new r j opened is room = subst (λ (a : Result Job RecordFault). JobOpened a bs old new r) (job_written (length old) bs j is room) opened
