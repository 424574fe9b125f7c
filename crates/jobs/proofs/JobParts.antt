-- The parts of a job that was read. Assumes nothing.
use Rattle.std.proofs.Common.{◌≡◌, ℕ, ◌≤◌, List, length, drop, Ok, Err, Result, arith, sym, ◌∙◌, ap, subst}
use Rattle.std.proofs.Math.Dec.{leb}
use Rattle.std.proofs.lemmas.Bool.{leb-true}
use Rattle.boards.specs.Answers.{BoardRead}
use Rattle.boards.specs.Boards.{board_text}
use Rattle.boards.specs.Reading.{on_first, board}
use Rattle.faults.proofs.Joined.{went_on, passed}
use Rattle.faults.specs.Results.{◌>>=◌}
use Rattle.faults.specs.declared.record.RecordFault.{RecordFault}
use Rattle.faults.specs.declared.record.RecordFault.TheVariants.{CellsTooShort}
use Rattle.lattice.specs.Lattice.{Lattice}
use Rattle.lattice.specs.declared.start.Start.{Start}
use Rattle.scripts.specs.Judgements.{script}
use Rattle.text.specs.Lines.{below_first, lines}
use Rattle.text.specs.Wholes.{whole}
use Rattle.jobs.specs.Answers.{JobOpened}
use Rattle.jobs.specs.Jobs.{Job, map_at, board_in, script_line, if_room, job_below, job}
use Rattle.jobs.specs.Steps.{JobFound}
use Rattle.jobs.specs.declared.opening.Opening.{Opening}

pub record JobParts (k : ℕ) (bs : List ℕ) (j : Job) : Type 0 where
  pub whole : whole 1 bs ≡ Ok tt
  pub map : on_first map_at 1 (lines bs) ≡ Ok j.map
  pub board : board 2 (below_first bs) ≡ Ok j.lattice
  pub room : length j.lattice.cells ≤ k
  pub script : script (script_line j.lattice) (drop (length (board_text j.lattice)) (below_first bs)) ≡ Ok j.records

pub job_parts : (k : ℕ) (bs : List ℕ) (j : Job) → job k bs ≡ Ok j → JobParts k bs j
job_parts k bs j is =
    let below = below_first bs in
    let w = went_on (whole 1 bs) (λ u. on_first map_at 1 (lines bs) >>= λ m. job_below k m below) j is in
    let m = went_on (on_first map_at 1 (lines bs)) (λ n. job_below k n below) j w.2 in
    let b = went_on (board_in k below) (λ l. script (script_line l) (drop (length (board_text l)) below) >>= λ rs. Ok (record { map = m.0; lattice = l; records = rs })) j m.2 in
    let l = went_on (board 2 below) (if_room k) b.0 b.1 in
    let r = passed (leb (length l.0.cells) k) (Ok l.0) CellsTooShort b.0 l.2 in
    let same : l.0 ≡ b.0 = cc (r.1) in
    let s = went_on (script (script_line b.0) (drop (length (board_text b.0)) below)) (λ rs. Ok (record { map = m.0; lattice = b.0; records = rs })) j b.2 in
    let found : Job = record { map = m.0; lattice = b.0; records = s.0 } in
    let made : found ≡ j = cc (s.2) in
    subst (JobParts k bs) {x = found} made (record {
      whole = w.1;
      map = m.1;
      board = l.1 ∙ ap Ok same;
      room = subst (λ (x : Lattice). length x.cells ≤ k) same (leb-true (length l.0.cells) k r.0);
      script = s.1;
    })

module _ (k : ℕ) (bs old new rest : List ℕ) (o : Opening) (p : ℕ) (found : JobFound k bs (Ok (o, p))) (kept : k ≡ length old) (there : rest ≡ drop p bs) where
  parts : JobParts k bs found.0.0
  parts = job_parts k bs found.0.0 found.0.1

  board_is : board 2 rest ≡ Ok found.0.0.lattice
  board_is = ap (board 2) (there ∙ found.2) ∙ parts.board

  -- a board that was found is not refused when it is read
  pub not_refused : (e d : RecordFault) → BoardRead (board 2 rest) old new (Err e) → JobOpened (job k bs) bs old new (Err d)
  not_refused e d read =
      let short = subst (λ (a : Result Lattice RecordFault). BoardRead a old new (Err e)) board_is read in
      absurd (omega (arith, short.0, parts.room, kept))

  pub opened : (x : Start × ℕ) → BoardRead (board 2 rest) old new (Ok x) → JobOpened (job k bs) bs old new (Ok o)
  opened x read =
      let filled = subst (λ (a : Result Lattice RecordFault). BoardRead a old new (Ok x)) board_is read in
      subst (λ (a : Result Job RecordFault). JobOpened a bs old new (Ok o)) (sym found.0.1) (found.0.2, (filled.0, filled.3))
