use Rattle.std.proofs.Common.{refl}
use Rattle.rules.proofs.Entries.{zeros_bits}
use Rattle.rules.proofs.table.zeros.Goals as goal

pub returns : goal.returns
returns c = record { entries = refl; bits = zeros_bits }
