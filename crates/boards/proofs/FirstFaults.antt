-- Of the answers of `check_board` and `read_board`: a board that is found is, byte for byte, the beginning of the text, and a fault is the first
-- that there is. Assumes nothing.
use Rattle.std.proofs.Common.{◌≡◌, ◌↔◌, ℕ, ◌<◌, List, length, take, Ok, Err, Result, IfOk, arith, refl, sym, ◌∙◌, ap, subst}
use Rattle.std.proofs.Math.Nat.{mul_comm}
use Rattle.faults.specs.declared.record.RecordFault.{RecordFault}
use Rattle.faults.specs.declared.record.RecordFault.TheVariants.{CellsTooShort}
use Rattle.lattice.specs.Lattice.{Lattice}
use Rattle.lattice.specs.Starts.{held}
use Rattle.lattice.specs.declared.start.Start.{Start}
use Rattle.boards.proofs.BoardFaults.{board_fault, board_refused, lines_have_none}
use Rattle.boards.proofs.Found.{FoundBoard, board_there, board_count}
use Rattle.boards.proofs.RoundTrips.{board_bytes, board_begins, board_short, board_within, written_board}
use Rattle.boards.specs.Answers.{BoardFound, BoardRead, BeginsWith}
use Rattle.boards.specs.Boards.{board_text}
use Rattle.boards.specs.Laws.{BoardFault, ReadFault}
use Rattle.boards.specs.Reading.{board}

pub found_begins : (n : ℕ) (bs : List ℕ) (l : Lattice) → board n bs ≡ Ok l → BeginsWith l bs
found_begins n bs l is =
    let begins = board_begins n bs l is in
    let good = board_short n bs l is in
    record {
      within = board_within n bs l is;
      whole = board_count n bs l is ∙ mul_comm l.height l.width;
      more = begins.0;
      text = begins.1;
      short = good.0;
      finished = good.1;
    }

pub found_bytes : (n : ℕ) (bs : List ℕ) (r : Result (Start × ℕ) RecordFault) → BoardFound (board n bs) r → IfOk r (λ x. (cells : List ℕ) × BeginsWith (held x.0 cells) bs × (take x.1 bs ≡ board_text (held x.0 cells)))
found_bytes n bs (Err e) found = tt
found_bytes n bs (Ok x) found =
    let f : FoundBoard n bs x = board_there n bs x found in
    let begins : BeginsWith (held x.0 f.lattice.cells) bs = subst (λ (m : Lattice). BeginsWith m bs) (sym f.start) (found_begins n bs f.lattice f.is) in
    (f.lattice.cells, begins, ap (λ k. take k bs) f.end ∙ board_bytes n bs f.lattice f.is ∙ sym (ap board_text f.start))

-- an answer that is a fault
was_fault : (a : Result Lattice RecordFault) (e : RecordFault) → BoardFound a (Err e) → a ≡ Err e
was_fault (Ok l) e found = absurd found
was_fault (Err d) e found = ap Err (sym found)

is_fault : (e : RecordFault) (r : Result (Start × ℕ) RecordFault) → BoardFound (Err e) r → r ≡ Err e
is_fault e (Ok x) found = absurd found
is_fault e (Err d) found = ap Err found

pub found_first : (n : ℕ) (bs : List ℕ) (r : Result (Start × ℕ) RecordFault) (e : RecordFault) → BoardFound (board n bs) r → (r ≡ Err e) ↔ BoardFault n bs e
found_first n bs r e found = (
  λ is. board_fault n bs e (was_fault (board n bs) e (subst (BoardFound (board n bs)) is found)),
  λ f. is_fault e r (subst (λ (a : Result Lattice RecordFault). BoardFound a r) (board_refused n bs e f) found),
)

-- a memory that is too short
pub no_room : (n : ℕ) (bs : List ℕ) → BoardFault n bs CellsTooShort → ⊥
no_room n bs f = lines_have_none n bs CellsTooShort (λ i x. cc) (λ fs x. x.1) (λ w m fs x. x.1) f.2

kept : (n k : ℕ) (bs : List ℕ) (e : RecordFault) → BoardFault n bs e → ReadFault n k bs e
kept n k bs CellsTooShort f = absurd (no_room n bs f)
kept n k bs e f = f

read_fault : (n : ℕ) (bs old new : List ℕ) (e : RecordFault) (a : Result Lattice RecordFault) → board n bs ≡ a → BoardRead a old new (Err e) → ReadFault n (length old) bs e
read_fault n bs old new e (Ok l) is read = subst (ReadFault n (length old) bs) (sym read.1) (l, found_begins n bs l is, read.0)
read_fault n bs old new e (Err d) is read = kept n (length old) bs e (board_fault n bs e (is ∙ ap Err (sym read.0)))

too_short : (l : Lattice) (old new : List ℕ) (r : Result (Start × ℕ) RecordFault) → length old < length l.cells → BoardRead (Ok l) old new r → r ≡ Err CellsTooShort
too_short l old new (Ok x) few read = absurd (omega (arith, few, read.0))
too_short l old new (Err e) few read = ap Err read.1

is_read_fault : (e : RecordFault) (old new : List ℕ) (r : Result (Start × ℕ) RecordFault) → BoardRead (Err e) old new r → r ≡ Err e
is_read_fault e old new (Ok x) read = absurd read
is_read_fault e old new (Err d) read = ap Err read.0

read_refused : (n : ℕ) (bs old new : List ℕ) (r : Result (Start × ℕ) RecordFault) (e : RecordFault) → BoardRead (board n bs) old new r → ReadFault n (length old) bs e → r ≡ Err e
read_refused n bs old new r CellsTooShort read f = too_short f.0 old new r f.2 (subst (λ (a : Result Lattice RecordFault). BoardRead a old new r) (written_board n bs f.0 f.1) read)
read_refused n bs old new r e read f = is_read_fault e old new r (subst (λ (a : Result Lattice RecordFault). BoardRead a old new r) (board_refused n bs e f) read)

pub read_first : (n : ℕ) (bs old new : List ℕ) (r : Result (Start × ℕ) RecordFault) (e : RecordFault) → BoardRead (board n bs) old new r → (r ≡ Err e) ↔ ReadFault n (length old) bs e
read_first n bs old new r e read = (
  λ is. read_fault n bs old new e (board n bs) refl (subst (BoardRead (board n bs) old new) is read),
  λ f. read_refused n bs old new r e read f,
)
