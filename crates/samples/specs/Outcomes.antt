-- What a map makes of the sample cells.
--     sampled s          the lattice that s makes up with as many of the sample cells as it needs
--     IsDigest l d       d has the digest of l's cells, and l's phase
--     IsOutcome f g s o  o has the digests of the sampled lattice after one move f, after ten and after one move g; ten moves g after the ten f
--                        restore the sample, and o says so
use Rattle.std.specs.Prelude.{◌≡◌, ◌*◌, true, map, fold}
use Rattle.std.specs.List.{range_with_len}
use Rattle.lattice.specs.Lattice.{Lattice}
use Rattle.lattice.specs.Maps.{repeated}
use Rattle.lattice.specs.Starts.{width_of, height_of, held}
use Rattle.lattice.specs.declared.start.Start.{Start}
use Rattle.samples.specs.Cells.{sample, mixed_in}
use Rattle.samples.specs.declared.outcome.Digest.{Digest}
use Rattle.samples.specs.declared.outcome.Outcome.{Outcome}

abbrev pub sampled : Start → Lattice
sampled s = held s (map sample (range_with_len 0 (width_of s * height_of s)))

pub record IsDigest (l : Lattice) (d : Digest) : Type 0 where
  pub sum : d.sum ≡ fold mixed_in 0 l.cells
  pub phase : d.phase ≡ l.phase

pub record IsOutcome (f g : Lattice → Lattice) (s : Start) (o : Outcome) : Type 0 where
  pub one : IsDigest (f (sampled s)) o.one
  pub ten : IsDigest (repeated 10 f (sampled s)) o.ten
  pub back : IsDigest (g (sampled s)) o.back
  pub leads_home : repeated 10 g (repeated 10 f (sampled s)) ≡ sampled s
  pub home : o.home ≡ true
