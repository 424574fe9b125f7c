-- Whether the memory has room for the board of a job. Assumes nothing.
use Rattle.std.proofs.Common.{◌≡◌, ℕ, ◌*◌, ◌<◌, ◌≤◌, List, length, Ok, Err, Result, arith, refl, sym, ◌∙◌, ap, subst}
use Rattle.std.proofs.lemmas.Bool.{le-leb, lt-leb}
use Rattle.boards.proofs.Found.{FoundBoard, board_there, found_count}
use Rattle.boards.specs.Answers.{BoardFound}
use Rattle.boards.specs.Reading.{board}
use Rattle.faults.specs.Results.{◌>>=◌}
use Rattle.faults.specs.declared.record.RecordFault.{RecordFault}
use Rattle.faults.specs.declared.record.RecordFault.TheVariants.{CellsTooShort}
use Rattle.lattice.specs.Lattice.{Lattice}
use Rattle.lattice.specs.Starts.{width_of, height_of}
use Rattle.lattice.specs.declared.start.Start.{Start}
use Rattle.jobs.specs.Jobs.{if_room, board_in}

at_room : (k : ℕ) (bs : List ℕ) (l : Lattice) → board 2 bs ≡ Ok l → board_in k bs ≡ if_room k l
at_room k bs l is = ap (λ a. a >>= λ m. if_room k m) is

pub no_room : (k : ℕ) (bs : List ℕ) (x : Start × ℕ) → BoardFound (board 2 bs) (Ok x) → k < width_of x.0 * height_of x.0 → BoardFound (board_in k bs) (Err CellsTooShort)
no_room k bs x found short =
    let f : FoundBoard 2 bs x = board_there 2 bs x found in
    let few : k < length f.lattice.cells = omega (arith, short, found_count 2 bs x f) in
    let none : board_in k bs ≡ Err CellsTooShort = at_room k bs f.lattice f.is ∙ rw (lt-leb (length f.lattice.cells) k few) refl in
    subst (λ (a : Result Lattice RecordFault). BoardFound a (Err CellsTooShort)) (sym none) refl

pub board_fits : (k : ℕ) (bs : List ℕ) (x : Start × ℕ) → BoardFound (board 2 bs) (Ok x) → width_of x.0 * height_of x.0 ≤ k → BoardFound (board_in k bs) (Ok x)
board_fits k bs x found room =
    let f : FoundBoard 2 bs x = board_there 2 bs x found in
    let fits : length f.lattice.cells ≤ k = omega (arith, room, found_count 2 bs x f) in
    let is : board_in k bs ≡ Ok f.lattice = at_room k bs f.lattice f.is ∙ rw (le-leb (length f.lattice.cells) k fits) refl in
    subst (λ (a : Result Lattice RecordFault). BoardFound a (Ok x)) (sym is) (f.start, f.end)
