-- A fault of a job is the first that there is, and what is the first is reported. Assumes nothing.
use Rattle.std.proofs.Common.{◌≡◌, ℕ, ◌<◌, ◌≤◌, Bool, true, false, cond, List, ◌++◌, length, drop, Ok, Err, arith, refl, sym, ◌∙◌, ap, subst, inl, inr, ◌⊎◌}
use Rattle.std.proofs.Math.Dec.{leb}
use Rattle.std.proofs.lemmas.Bool.{le-leb, lt-leb, leb-true, leb-false}
use Rattle.std.proofs.lemmas.List.{length-append, drop_at}
use Rattle.boards.proofs.BoardFaults.{board_fault, board_refused, next_has_none}
use Rattle.boards.proofs.FirstFaults.{no_room, found_begins}
use Rattle.boards.proofs.LineFaults.{went_wrong, next_fault, next_refused}
use Rattle.boards.proofs.RoundTrips.{written_board}
use Rattle.boards.specs.Answers.{BeginsWith}
use Rattle.boards.specs.Boards.{board_text}
use Rattle.boards.specs.Laws.{NextFault, BoardFault}
use Rattle.boards.specs.Reading.{on_first, board}
use Rattle.faults.proofs.Joined.{went_on, passed}
use Rattle.faults.specs.Results.{◌>>=◌}
use Rattle.faults.specs.declared.record.RecordFault.{RecordFault}
use Rattle.faults.specs.declared.record.RecordFault.TheVariants.{TooLong, Unfinished, MissingLine, CellsTooShort}
use Rattle.lattice.specs.Lattice.{Lattice}
use Rattle.named_maps.specs.declared.named.NamedMap.{NamedMap}
use Rattle.scripts.proofs.ScriptLaws.{fault}
use Rattle.scripts.proofs.ScriptRefused.{script_refused}
use Rattle.scripts.specs.Judgements.{script}
use Rattle.scripts.specs.Laws.{IsWhole, TextFault}
use Rattle.text.proofs.EndedLines.{finished_drop}
use Rattle.text.proofs.WholeTexts.{whole_accepted, whole_passes, whole_refused, too_long, unfinished}
use Rattle.text.specs.Lines.{below_first, lines}
use Rattle.text.specs.Wholes.{finished, whole}
use Rattle.jobs.proofs.MapLineFaults.{map_line_fault, map_line_refused}
use Rattle.jobs.proofs.MapLineLaws.{map_line_was, map_line_taken, below_map_line}
use Rattle.jobs.specs.Faults.{MapLineFault, FaultyBoard, HasBoard, NoRoom, FaultyScript, JobFault}
use Rattle.jobs.specs.Jobs.{map_at, if_room, board_in, script_line, job_below, job}
use Rattle.jobs.specs.Laws.{map_line}

-- what stands below a part of a whole text is whole
whole_below : (bs front more : List ℕ) → bs ≡ front ++ more → IsWhole bs → IsWhole more
whole_below bs front more text w =
    let left : drop (length front) bs ≡ more = ap (drop (length front)) text ∙ drop_at front more (length front) refl in
    (omega (arith, w.0, ap length text, length-append front more), ap finished (sym left) ∙ finished_drop (length front) bs w.1)

-- what is found wrong
whole_fault : (k : ℕ) (bs : List ℕ) (e : RecordFault) → whole 1 bs ≡ Err e → JobFault k bs e
unfolding JobFault
whole_fault k bs e is = elim (whole_refused 1 bs e is) [
  | inl l ↦ subst (JobFault k bs) (sym l.0) l.1
  | inr u ↦ subst (JobFault k bs) (sym u.is) (u.short, u.unended, refl)
]

room_fault : (k : ℕ) (l : Lattice) (e : RecordFault) (yes : Bool) → leb (length l.cells) k ≡ yes → cond yes (Ok l) (Err CellsTooShort) ≡ Err e → (CellsTooShort ≡ e) × (k < length l.cells)
room_fault k l e true fits is = absurd (cc (is))
room_fault k l e false fits is = (cc (is), leb-false (length l.cells) k fits)

abbrev Parts : ℕ → List ℕ → RecordFault → Type 0
Parts k bs e = NextFault MapLineFault 1 bs e ⊎ (FaultyBoard bs e ⊎ FaultyScript k bs e)

-- three faults are of no line
no_part : (k : ℕ) (bs : List ℕ) (e : RecordFault) → IsWhole bs → ((i : ℕ) → e ≡ MissingLine i → ⊥) → ((fs : List (List ℕ)) → MapLineFault 1 fs e → ⊥) → ((below : List ℕ) → IsWhole below → BoardFault 2 below e → ⊥) → ((n : ℕ) (below : List ℕ) → IsWhole below → TextFault n below e → ⊥) → Parts k bs e → ⊥
no_part k bs e w not_missing no_map no_board no_script (inl f) = next_has_none MapLineFault 1 bs e not_missing no_map f
no_part k bs e w not_missing no_map no_board no_script (inr (inl f)) = no_board f.below (whole_below bs (map_line f.map) f.below f.text w) f.fault
no_part k bs e w not_missing no_map no_board no_script (inr (inr f)) =
    let below : IsWhole (board_text f.lattice ++ f.script) = whole_below bs (map_line f.board.map) (board_text f.lattice ++ f.script) f.board.text w in
    no_script (script_line f.lattice) f.script (whole_below (board_text f.lattice ++ f.script) (board_text f.lattice) f.script refl below) f.fault

not_open : (bs : List ℕ) → finished bs ≡ true → finished bs ≡ false → ⊥
not_open bs ends open-end = cc

placed : (k : ℕ) (bs : List ℕ) (e : RecordFault) → IsWhole bs → Parts k bs e → JobFault k bs e
unfolding JobFault
placed k bs TooLong w f = absurd (no_part k bs TooLong w (λ i x. cc) (λ fs x. x.1) (λ below v x. omega (arith, v.0, x)) (λ n below v x. omega (arith, v.0, x)) f)
placed k bs (Unfinished i) w f = absurd (no_part k bs (Unfinished i) w (λ j x. cc) (λ fs x. x.1) (λ below v x. not_open below v.1 x.1) (λ n below v x. not_open below v.1 x.1) f)
placed k bs CellsTooShort w f = absurd (no_part k bs CellsTooShort w (λ j x. cc) (λ fs x. x.1) (λ below v x. no_room 2 below x) (λ n below v x. x.1.fault) f)
placed k bs e w f = (w, f)

module _ (k : ℕ) (bs : List ℕ) (e : RecordFault) (w : IsWhole bs) (m : NamedMap) (below : List ℕ) (text : bs ≡ map_line m ++ below) where
  board_there : (l : Lattice) → board 2 below ≡ Ok l → HasBoard bs l (drop (length (board_text l)) below)
  board_there l is =
      let b : BeginsWith l below = found_begins 2 below l is in
      let left : drop (length (board_text l)) below ≡ b.more = ap (drop (length (board_text l))) b.text ∙ drop_at (board_text l) b.more (length (board_text l)) refl in
      record { map = m; within = b.within; whole = b.whole; text = text ∙ ap (λ x. map_line m ++ x) (b.text ∙ ap (λ x. board_text l ++ x) (sym left)) }

  board_wrong : board_in k below ≡ Err e → JobFault k bs e
  unfolding JobFault
  board_wrong is = elim (went_wrong (board 2 below) (if_room k) e is) [
    | inl wrong ↦ placed k bs e w (inr (inl (record { map = m; below = below; text = text; fault = board_fault 2 below e wrong })))
    | inr l ↦
        let r = room_fault k l.0 e (leb (length l.0.cells) k) refl l.2 in
        subst (JobFault k bs) r.0 (w, record { lattice = l.0; more = drop (length (board_text l.0)) below; board = board_there l.0 l.1; short = r.1 })
  ]

  script_wrong : (l : Lattice) → board_in k below ≡ Ok l → script (script_line l) (drop (length (board_text l)) below) ≡ Err e → JobFault k bs e
  script_wrong l is wrong =
      let b = went_on (board 2 below) (if_room k) l is in
      let r = passed (leb (length b.0.cells) k) (Ok b.0) CellsTooShort l b.2 in
      let same : b.0 ≡ l = cc (r.1) in
      let there : board 2 below ≡ Ok l = b.1 ∙ ap Ok same in
      placed k bs e w (inr (inr (record {
        lattice = l;
        script = drop (length (board_text l)) below;
        board = board_there l there;
        room = subst (λ (x : Lattice). length x.cells ≤ k) same (leb-true (length b.0.cells) k r.0);
        fault = fault (script_line l) (drop (length (board_text l)) below) e wrong;
      })))

  below_wrong : job_below k m below ≡ Err e → JobFault k bs e
  below_wrong is = elim (went_wrong (board_in k below) (λ l. script (script_line l) (drop (length (board_text l)) below) >>= λ rs. Ok (record { map = m; lattice = l; records = rs })) e is) [
    | inl wrong ↦ board_wrong wrong
    | inr l ↦ elim (went_wrong (script (script_line l.0) (drop (length (board_text l.0)) below)) (λ rs. Ok (record { map = m; lattice = l.0; records = rs })) e l.2) [
      | inl wrong ↦ script_wrong l.0 l.1 wrong
      | inr y ↦ absurd (cc (y.2))
    ]
  ]

pub job_fault : (k : ℕ) (bs : List ℕ) (e : RecordFault) → job k bs ≡ Err e → JobFault k bs e
job_fault k bs e is = elim (went_wrong (whole 1 bs) (λ u. on_first map_at 1 (lines bs) >>= λ m. job_below k m (below_first bs)) e is) [
  | inl wrong ↦ whole_fault k bs e wrong
  | inr u ↦
      let w : IsWhole bs = whole_accepted 1 bs u.1 in
      elim (went_wrong (on_first map_at 1 (lines bs)) (λ m. job_below k m (below_first bs)) e u.2) [
        | inl wrong ↦ placed k bs e w (inl (next_fault map_at MapLineFault 1 bs e (λ fs wrong-line. map_line_fault 1 fs e wrong-line) wrong))
        | inr m ↦ below_wrong k bs e w m.0 (below_first bs) (map_line_was bs m.0 w.1 m.1) m.2
      ]
]

-- the converse
by_parts : (k : ℕ) (bs : List ℕ) → IsWhole bs → job k bs ≡ (on_first map_at 1 (lines bs) >>= λ m. job_below k m (below_first bs))
by_parts k bs w = ap (λ a. a >>= λ u. on_first map_at 1 (lines bs) >>= λ m. job_below k m (below_first bs)) (whole_passes 1 bs w.0 w.1)

by_map : (k : ℕ) (bs : List ℕ) (m : NamedMap) (below : List ℕ) → IsWhole bs → bs ≡ map_line m ++ below → job k bs ≡ job_below k m below
by_map k bs m below w text =
    by_parts k bs w
    ∙ ap (λ a. a >>= λ n. job_below k n (below_first bs)) (ap (λ x. on_first map_at 1 (lines x)) text ∙ map_line_taken m below)
    ∙ ap (job_below k m) (ap below_first text ∙ below_map_line m below)

board_stands : (bs : List ℕ) (l : Lattice) (more : List ℕ) → IsWhole bs → HasBoard bs l more → board 2 (board_text l ++ more) ≡ Ok l
board_stands bs l more w b =
    let below : IsWhole (board_text l ++ more) = whole_below bs (map_line b.map) (board_text l ++ more) b.text w in
    written_board 2 (board_text l ++ more) l (record { within = b.within; whole = b.whole; more = more; text = refl; short = below.0; finished = below.1 })

not_found : (k : ℕ) (bs : List ℕ) (e : RecordFault) (m : NamedMap) (below : List ℕ) → IsWhole bs → bs ≡ map_line m ++ below → board_in k below ≡ Err e → job k bs ≡ Err e
not_found k bs e m below w text wrong = by_map k bs m below w text ∙ ap (λ a. a >>= λ l. script (script_line l) (drop (length (board_text l)) below) >>= λ rs. Ok (record { map = m; lattice = l; records = rs })) wrong

has_no_room : (k : ℕ) (bs : List ℕ) → IsWhole bs → NoRoom k bs → job k bs ≡ Err CellsTooShort
has_no_room k bs w f =
    let below : List ℕ = board_text f.lattice ++ f.more in
    let wrong : board_in k below ≡ Err CellsTooShort = ap (λ a. a >>= if_room k) (board_stands bs f.lattice f.more w f.board) ∙ rw (lt-leb (length f.lattice.cells) k f.short) refl in
    not_found k bs CellsTooShort f.board.map below w f.board.text wrong

has_script : (k : ℕ) (bs : List ℕ) (e : RecordFault) → IsWhole bs → FaultyScript k bs e → job k bs ≡ Err e
has_script k bs e w f =
    let l : Lattice = f.lattice in
    let below : List ℕ = board_text l ++ f.script in
    let there : board_in k below ≡ Ok l = ap (λ a. a >>= if_room k) (board_stands bs l f.script w f.board) ∙ rw (le-leb (length l.cells) k f.room) refl in
    let left : drop (length (board_text l)) below ≡ f.script = drop_at (board_text l) f.script (length (board_text l)) refl in
    by_map k bs f.board.map below w f.board.text
    ∙ ap (λ a. a >>= λ x. script (script_line x) (drop (length (board_text x)) below) >>= λ rs. Ok (record { map = f.board.map; lattice = x; records = rs })) there
    ∙ ap (λ a. a >>= λ rs. Ok (record { map = f.board.map; lattice = l; records = rs })) (ap (script (script_line l)) left ∙ script_refused (script_line l) f.script e f.fault)

has_part : (k : ℕ) (bs : List ℕ) (e : RecordFault) → IsWhole bs → Parts k bs e → job k bs ≡ Err e
has_part k bs e w (inl f) = by_parts k bs w ∙ ap (λ a. a >>= λ m. job_below k m (below_first bs)) (next_refused map_at MapLineFault 1 bs e (λ fs some wrong. map_line_refused 1 fs e some wrong) f)
has_part k bs e w (inr (inl f)) = not_found k bs e f.map f.below w f.text (ap (λ a. a >>= if_room k) (board_refused 2 f.below e f.fault))
has_part k bs e w (inr (inr f)) = has_script k bs e w f

pub job_refused : (k : ℕ) (bs : List ℕ) (e : RecordFault) → JobFault k bs e → job k bs ≡ Err e
unfolding JobFault
job_refused k bs TooLong f = ap (λ a. a >>= λ u. on_first map_at 1 (lines bs) >>= λ m. job_below k m (below_first bs)) (too_long 1 bs f)
job_refused k bs (Unfinished i) f = ap (λ a. a >>= λ u. on_first map_at 1 (lines bs) >>= λ m. job_below k m (below_first bs)) (unfinished 1 i bs f.0 f.1 f.2)
job_refused k bs CellsTooShort f = has_no_room k bs f.0 f.1
job_refused k bs e f = has_part k bs e f.0 f.1
