-- The edit of a session that has a flip. Assumes nothing.
use Rattle.std.proofs.Common.{◌≡◌, ◌<◌, List, [], ◌∷◌, length, refl, arith}
use Rattle.actions.specs.Actions.{Edit}
use Rattle.actions.specs.declared.flip.Flip.{Flip}
use Rattle.ledger.specs.Ledgers.{edit_of}

pub edit_is : (fs : List Flip) → 0 < length fs → edit_of fs ≡ Edit fs ∷ []
edit_is [] some = absurd (omega arith)
edit_is (f ∷ fs) some = refl
