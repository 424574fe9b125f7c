use Rattle.std.proofs.Common.{◌≡◌, ◌+◌, ◌≤◌, length, rules}
use Rattle.std.specs.Fmt.{decimal}
use Rattle.lattice.specs.Starts.{width_of, height_of, phase_of}
use Rattle.boards.proofs.Puts.{start_put}
use Rattle.text.specs.Puts.{put_at}
use Rattle.boards.proofs.write.put_start.Goals as goal

pub returns : goal.returns
returns c =
    let s = c.args.start.now in
    let w : c.put_number-width_end.new.memory ≡ put_at c.put-width_at.new.memory c.put-width_at.result (decimal (width_of s)) = search rules in
    let b : c.put_number-width_end.result ≡ c.put-width_at.result + length (decimal (width_of s)) = search rules in
    let ws : length (decimal (width_of s)) ≤ 3 = search rules in
    let h : c.put_number-height_end.new.memory ≡ put_at c.put-height_at.new.memory c.put-height_at.result (decimal (height_of s)) = search rules in
    let d : c.put_number-height_end.result ≡ c.put-height_at.result + length (decimal (height_of s)) = search rules in
    let hs : length (decimal (height_of s)) ≤ 3 = search rules in
    let p : c.put_number-phase_end.new.memory ≡ put_at c.put-phase_at.new.memory c.put-phase_at.result (decimal (phase_of s)) = search rules in
    let f : c.put_number-phase_end.result ≡ c.put-phase_at.result + length (decimal (phase_of s)) = search rules in
    let ps : length (decimal (phase_of s)) ≤ 3 = search rules in
    let written = start_put c.args.line.now c.put-width_at.new.memory c.put_number-width_end.new.memory c.put-height_at.new.memory c.put_number-height_end.new.memory c.put-phase_at.new.memory c.put_number-phase_end.new.memory c.put.new.memory (width_of s) (height_of s) (phase_of s) c.put-width_at.result c.put_number-width_end.result c.put-height_at.result c.put_number-height_end.result c.put-phase_at.result c.put_number-phase_end.result c.put.result c.requires ws hs ps c.put-width_at.ensures.memory c.put-width_at.ensures.after w b c.put-height_at.ensures.memory c.put-height_at.ensures.after h d c.put-phase_at.ensures.memory c.put-phase_at.ensures.after p f c.put.ensures.memory c.put.ensures.after in
    record { memory = written.memory; after = written.after; short = search rules }
