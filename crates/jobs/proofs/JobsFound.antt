-- A job part by part, as it is looked for. Assumes nothing.
use Rattle.std.proofs.Common.{ap₂, ◌≡◌, ℕ, ◌+◌, ◌≤◌, List, length, drop, Ok, Err, Result, arith, refl, sym, ◌∙◌, ap}
use Rattle.std.proofs.lemmas.List.{drop-drop, length-drop}
use Rattle.std.proofs.Math.Dec.{leb}
use Rattle.std.proofs.Math.Nat.{mul_comm}
use Rattle.boards.proofs.Found.{board_count}
use Rattle.faults.proofs.Joined.{went_on, passed}
use Rattle.faults.specs.declared.record.RecordFault.TheVariants.{CellsTooShort}
use Rattle.boards.specs.Answers.{BoardFound}
use Rattle.boards.specs.Boards.{board_text}
use Rattle.boards.specs.Reading.{on_first, board}
use Rattle.faults.specs.Results.{◌>>=◌}
use Rattle.faults.specs.declared.record.RecordFault.{RecordFault}
use Rattle.lattice.specs.Lattice.{Lattice, Whole}
use Rattle.lattice.specs.Starts.{height_of, StartOf}
use Rattle.lattice.specs.declared.start.Start.{Start}
use Rattle.named_maps.specs.declared.named.NamedMap.{NamedMap}
use Rattle.scripts.specs.Judgements.{script, count_of}
use Rattle.scripts.specs.declared.record.Record.{Record}
use Rattle.text.specs.Lines.{below_first, lines}
use Rattle.text.specs.Wholes.{whole}
use Rattle.jobs.specs.Jobs.{Job, map_at, if_room, board_in, script_line, job_below, job}
use Rattle.jobs.specs.declared.opening.Opening.{Opening}
use Rattle.jobs.specs.Steps.{MapFound, ScriptFound, BelowFound, JobFound}

in_room : (k : ℕ) (bs : List ℕ) (l : Lattice) → board_in k bs ≡ Ok l → board 2 bs ≡ Ok l
in_room k bs l is =
    let b = went_on (board 2 bs) (if_room k) l is in
    let r = passed (leb (length b.0.cells) k) (Ok b.0) CellsTooShort l b.2 in
    b.1 ∙ r.1

-- the lattice that was found
record FoundIn (k : ℕ) (bs : List ℕ) (x : Start × ℕ) : Type 0 where
  pub lattice : Lattice
  pub is : board_in k bs ≡ Ok lattice
  pub start : StartOf lattice x.0
  pub end : x.1 ≡ length (board_text lattice)

found_at : (k : ℕ) (bs : List ℕ) (x : Start × ℕ) (a : Result Lattice RecordFault) → board_in k bs ≡ a → BoardFound a (Ok x) → FoundIn k bs x
found_at k bs x (Ok l) is f = record { lattice = l; is = is; start = f.0; end = f.1 }
found_at k bs x (Err e) is f = absurd f

not_found_at : (k : ℕ) (bs : List ℕ) (e : RecordFault) (a : Result Lattice RecordFault) → board_in k bs ≡ a → BoardFound a (Err e) → board_in k bs ≡ Err e
not_found_at k bs e (Ok l) is f = absurd f
not_found_at k bs e (Err d) is f = is ∙ ap Err (sym f)

pub counted_fault : (a : Result (List Record) RecordFault) (e : RecordFault) → count_of a ≡ Err e → a ≡ Err e
counted_fault (Ok rs) e is = absurd cc
counted_fault (Err d) e is = let same : d ≡ e = cc (is) in ap Err same

pub counted : (a : Result (List Record) RecordFault) (n : ℕ) → count_of a ≡ Ok n → (rs : List Record) × (a ≡ Ok rs)
counted (Ok rs) n is = (rs, refl)
counted (Err e) n is = absurd cc

-- board and script, which come after the map line: from place p of the text on
module _ (k : ℕ) (m : NamedMap) (p : ℕ) (bs : List ℕ) where
  pub board_not_found : (e : RecordFault) → BoardFound (board_in k (drop p bs)) (Err e) → BelowFound k m p bs (Err e)
  board_not_found e f = ap (λ a. a >>= λ l. script (script_line l) (drop (length (board_text l)) (drop p bs)) >>= λ rs. Ok (record { map = m; lattice = l; records = rs })) (not_found_at k (drop p bs) e (board_in k (drop p bs)) refl f)

  module _ (s : Start) (len : ℕ) (there : BoardFound (board_in k (drop p bs)) (Ok (s, len))) where
    found : FoundIn k (drop p bs) (s, len)
    found = found_at k (drop p bs) (s, len) (board_in k (drop p bs)) refl there

    whole_there : Whole found.lattice
    whole_there = board_count 2 (drop p bs) found.lattice (in_room k (drop p bs) found.lattice found.is) ∙ mul_comm found.lattice.height found.lattice.width

    line_there : 3 + height_of s ≡ script_line found.lattice
    line_there = ap (λ (l : Lattice). script_line l) found.start

    text_there : drop (p + len) bs ≡ drop (length (board_text found.lattice)) (drop p bs)
    text_there = sym (drop-drop len p bs) ∙ ap (λ q. drop q (drop p bs)) found.end

    by_script : job_below k m (drop p bs) ≡ (script (3 + height_of s) (drop (p + len) bs) >>= λ rs. Ok (record { map = m; lattice = found.lattice; records = rs }))
    by_script =
        ap (λ a. a >>= λ l. script (script_line l) (drop (length (board_text l)) (drop p bs)) >>= λ rs. Ok (record { map = m; lattice = l; records = rs })) found.is
        ∙ ap (λ a. a >>= λ rs. Ok (record { map = m; lattice = found.lattice; records = rs })) (sym (ap₂ script line_there text_there))

    pub script_not_found : (e : RecordFault) → ScriptFound (height_of s) (drop (p + len) bs) (Err e) → BelowFound k m p bs (Err e)
    script_not_found e f = by_script ∙ ap (λ a. a >>= λ rs. Ok (record { map = m; lattice = found.lattice; records = rs })) f

    pub found_below : (n : ℕ) → ScriptFound (height_of s) (drop (p + len) bs) (Ok n) → p ≤ length bs → len ≤ length (drop p bs) → BelowFound k m p bs (Ok (record { map = m; start = s; script_at = p + len; script_line = n }))
    found_below n f begins ends =
        let inside : p + len ≤ length bs = omega (arith, begins, ends, length-drop p bs) in
        let j : Job = record { map = m; lattice = found.lattice; records = f.1.0 } in
        let read : script (3 + height_of s) (drop (p + len) bs) ≡ Ok f.1.0 = ap (λ i. script i (drop (p + len) bs)) (sym f.0) ∙ f.1.1 in
        let is : job_below k m (drop p bs) ≡ Ok j = by_script ∙ ap (λ a. a >>= λ x. Ok (record { map = m; lattice = found.lattice; records = x })) read in
        (j, is, record { map = refl; start = found.start; whole = whole_there; line = f.0 ∙ line_there; inside = inside; script = f.1.1 })

pub not_whole : (k : ℕ) (bs : List ℕ) (e : RecordFault) → whole 1 bs ≡ Err e → JobFound k bs (Err e)
not_whole k bs e is = ap (λ a. a >>= λ u. on_first map_at 1 (lines bs) >>= λ m. job_below k m (below_first bs)) is

module _ (k : ℕ) (bs : List ℕ) (good : whole 1 bs ≡ Ok tt) where
  by_lines : job k bs ≡ (on_first map_at 1 (lines bs) >>= λ m. job_below k m (below_first bs))
  by_lines = ap (λ a. a >>= λ u. on_first map_at 1 (lines bs) >>= λ m. job_below k m (below_first bs)) good

  pub map_not_found : (e : RecordFault) → MapFound bs (Err e) → JobFound k bs (Err e)
  map_not_found e f = by_lines ∙ ap (λ a. a >>= λ m. job_below k m (below_first bs)) f

  module _ (m : NamedMap) (p : ℕ) (named : MapFound bs (Ok (m, p))) where
    by_board : job k bs ≡ job_below k m (drop p bs)
    by_board = by_lines ∙ ap (λ a. a >>= λ n. job_below k n (below_first bs)) named.0 ∙ ap (job_below k m) (sym named.2)

    pub below_not_found : (e : RecordFault) → BelowFound k m p bs (Err e) → JobFound k bs (Err e)
    below_not_found e f = by_board ∙ f

    pub job_there : (o : Opening) → BelowFound k m p bs (Ok o) → JobFound k bs (Ok (o, p))
    job_there o f = ((f.0, by_board ∙ f.1, f.2), named.1, named.2)
