-- What a bench does keeps the shape of its lattice. Assumes nothing.
use Rattle.std.proofs.Common.{ℕ, suc, pos, negsuc, List, [], ◌∷◌, refl}
use Rattle.std.proofs.lemmas.List.{length-set}
use Rattle.std.proofs.lemmas.List.Elements.{All-head, All-tail}
use Rattle.std.specs.List.{All}
use Rattle.actions.proofs.Home.{ByteMasks, made_within}
use Rattle.actions.specs.Actions.{Action, Step, Edit, made, all_made}
use Rattle.actions.specs.Flips.{flipped, all_flipped}
use Rattle.actions.specs.declared.flip.Flip.{Flip}
use Rattle.lattice.proofs.Repeats.{repeated_keeps}
use Rattle.lattice.proofs.Wholes.{same_shape, same_shape_trans}
use Rattle.lattice.specs.Lattice.{Lattice, Within, SameShape}
use Rattle.lattice.specs.Maps.{Reversible}
use Rattle.ledger.proofs.Held.{byte_masks}
use Rattle.ledger.proofs.Sound.{Sound}
use Rattle.ledger.specs.Effects.{standing_for}
use Rattle.ledger.specs.Ledgers.{Ledger}

all_flipped_shape : (fs : List Flip) (l : Lattice) → SameShape l (all_flipped fs l)
all_flipped_shape [] l = same_shape l
all_flipped_shape (f ∷ fs) l =
    let one : SameShape l (flipped f l) = record { width = refl; height = refl; count = length-set l.cells _ _ } in
    same_shape_trans l (flipped f l) (all_flipped fs (flipped f l)) one (all_flipped_shape fs (flipped f l))

module _ (f g : Lattice → Lattice) (laws : Reversible f g) where
  made_shape : (a : Action) (l : Lattice) → Within l → SameShape l (made f g a l)
  made_shape (Step (pos n)) l i = (repeated_keeps f laws.forward_keeps n).shape l i
  made_shape (Step (negsuc n)) l i = (repeated_keeps g laws.backward_keeps (suc n)).shape l i
  made_shape (Edit fs) l i = all_flipped_shape fs l

  all_made_shape : (acts : List Action) (l : Lattice) → All ByteMasks acts → Within l → SameShape l (all_made f g acts l)
  all_made_shape [] l on i = same_shape l
  all_made_shape (a ∷ acts) l on i =
      let next = made f g a l in
      same_shape_trans l next (all_made f g acts next) (made_shape a l i) (all_made_shape acts next (All-tail ByteMasks a acts on) (made_within f g laws a l (All-head ByteMasks a acts on) i))

  pub standing_shape : (w h : ℕ) (led : Ledger) (l : Lattice) → Sound w h led → Within l → SameShape l (standing_for f g led l)
  standing_shape w h led l s i =
      same_shape_trans l (all_made f g led.standing l) (standing_for f g led l) (all_made_shape led.standing l (byte_masks w h led.standing s.standing) i) (all_flipped_shape led.session (all_made f g led.standing l))
