-- What every start record keeps. Assumes nothing.
use Rattle.std.proofs.Common.{ℕ, ◌≤◌, List}
use Rattle.lattice.specs.Lattice.{Bytes, Within}
use Rattle.lattice.specs.Limits.{Side, max_phase}
use Rattle.lattice.specs.Starts.{width_of, height_of, phase_of, held}
use Rattle.lattice.specs.declared.start.Start.{Start}

pub start_wide : (s : Start) → Side (width_of s)
start_wide s = s.wide

pub start_high : (s : Start) → Side (height_of s)
start_high s = s.high

pub start_phased : (s : Start) → phase_of s ≤ max_phase
start_phased s = s.phased

pub held_within : (s : Start) (cs : List ℕ) → Bytes cs → Within (held s cs)
held_within s cs bytes = record { wide = s.wide; high = s.high; area = s.area; phased = s.phased; bytes = bytes }
