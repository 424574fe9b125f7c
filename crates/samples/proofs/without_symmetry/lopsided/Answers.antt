use Rattle.std.proofs.Common.{refl}
use Rattle.tables.proofs.Fills.{permutation_fills}
use Rattle.tables.proofs.Tested.{inverted_by_test}
use Rattle.samples.specs.WithoutSymmetry.{lopsided_back}
use Rattle.samples.specs.declared.without_symmetry.TheConstants.{LOPSIDED}
use Rattle.samples.proofs.without_symmetry.lopsided.Goals as goal

pub unwrap-requires : goal.unwrap-requires
unwrap-requires c = permutation_fills 16 LOPSIDED lopsided_back _ _ c.fill.result refl (inverted_by_test 16 LOPSIDED lopsided_back refl) c.fill.ensures
