-- The promises of `write_board`: what is written is short enough, and is read as the lattice that it was written from. Assumes nothing.
use Rattle.std.proofs.Common.{◌≡◌, ℕ, suc, zero, ◌+◌, ◌*◌, ◌≤◌, List, [], ◌∷◌, ◌++◌, length, take, drop, map, flat_map, true, Ok, Err, Result, IfOk, arith, sym, ◌∙◌, ap}
use Rattle.std.proofs.Math.Nat.{mul_comm, suc-mul}
use Rattle.std.proofs.lemmas.List.{append-nil, take_at}
use Rattle.lattice.proofs.Starts.{held_within}
use Rattle.lattice.specs.Lattice.{Lattice, Bytes, Whole}
use Rattle.lattice.specs.Starts.{width_of, height_of, held}
use Rattle.lattice.specs.declared.start.Start.{Start}
use Rattle.text.proofs.EndedLines.{finished_joined}
use Rattle.text.specs.Lines.{ended}
use Rattle.text.specs.Wholes.{max_text, finished}
use Rattle.boards.proofs.BoardLaws.{start_content, row_content, rows_joined}
use Rattle.boards.proofs.BoardLengths.{board_short}
use Rattle.boards.proofs.RoundTrips.{written_board}
use Rattle.boards.specs.Boards.{rows, start_line, board_text}
use Rattle.boards.specs.Reading.{board}
use Rattle.boards.specs.Answers.{BoardWritten}
use Rattle.boards.specs.declared.refusal.BoardRefusal.{BoardRefusal}
use Rattle.boards.specs.declared.refusal.BoardRefusal.TheVariants.{Cells, MemoryTooShort}

board_finished : (l : Lattice) → finished (board_text l) ≡ true
board_finished l =
    let joined : board_text l ≡ flat_map ended (start_content l.width l.height l.phase ∷ map row_content (rows l.width l.height l.cells)) = ap (λ x. start_line l.width l.height l.phase ++ x) (rows_joined (rows l.width l.height l.cells)) in
    ap finished joined ∙ finished_joined (start_content l.width l.height l.phase ∷ map row_content (rows l.width l.height l.cells))

rows_counted : (w h : ℕ) → h * (2 * w + 5) ≡ 2 * (h * w) + 5 * h
rows_counted w zero = omega arith
rows_counted w (suc h) = omega (arith, suc-mul h (2 * w + 5), suc-mul h w, rows_counted w h)

rows_short : (w h : ℕ) → h ≤ 256 → w * h ≤ 16384 → h * (2 * w + 5) ≤ 34048
rows_short w h low area = omega (arith, rows_counted w h, mul_comm w h, low, area)

board_is_text : (s : Start) (cs : List ℕ) → Whole (held s cs) → length (board_text (held s cs)) ≤ max_text
board_is_text s cs whole = omega (arith, board_short s cs whole, rows_short (width_of s) (height_of s) s.high.1 s.area)

pub board_reads_back : (n : ℕ) (s : Start) (cs : List ℕ) → Whole (held s cs) → Bytes cs → board n (board_text (held s cs)) ≡ Ok (held s cs)
board_reads_back n s cs whole bytes = written_board n (board_text (held s cs)) (held s cs) (record {
  within = held_within s cs bytes;
  whole = whole;
  more = [];
  text = sym (append-nil (board_text (held s cs)));
  short = board_is_text s cs whole;
  finished = board_finished (held s cs);
})

pub written_reads_back : (s : Start) (cs old new : List ℕ) (r : Result ℕ BoardRefusal) → Bytes cs → BoardWritten s cs old new r → IfOk r (λ k. (n : ℕ) → board n (take k new) ≡ Ok (held s cs))
written_reads_back s cs old new (Err Cells) bytes w = tt
written_reads_back s cs old new (Err MemoryTooShort) bytes w = tt
written_reads_back s cs old new (Ok k) bytes w = λ n. ap (board n) (ap (take k) w.3 ∙ take_at (board_text (held s cs)) (drop k old) k (sym w.1)) ∙ board_reads_back n s cs w.0 bytes

pub written_is_short : (s : Start) (cs old new : List ℕ) (r : Result ℕ BoardRefusal) → BoardWritten s cs old new r → IfOk r (λ k. k ≤ 18 + height_of s * (2 * width_of s + 5))
written_is_short s cs old new (Err Cells) w = tt
written_is_short s cs old new (Err MemoryTooShort) w = tt
written_is_short s cs old new (Ok k) w = omega (arith, w.1, board_short s cs w.0)
