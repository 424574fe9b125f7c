-- Actions, and what they do to a lattice. Here f and g are the two functions of a map.
--     Action           a step with its count, or an edit, whose flips are made together
--     moved f g z l    l moved by z: forward by a positive count, back by a negative one
--     made f g a l     l after the action a
--     reversed a       the action that takes a back
--     all_made f g acts l    l after the actions acts, in their order
--     action_of r      the action that r refers to
--     home_of acts     the actions that undo acts: each of them reversed, from the last to the first
use Rattle.std.specs.Prelude.{suc, List, map, reverse, fold, ℤ, pos, negsuc, neg_ℤ}
use Rattle.lattice.specs.Lattice.{Lattice}
use Rattle.lattice.specs.Maps.{repeated}
use Rattle.actions.specs.Flips.{all_flipped}
use Rattle.actions.specs.StepCounts.{count_of}
use Rattle.actions.specs.declared.action.ActionRef.{ActionRef}
use Rattle.actions.specs.declared.action.ActionRef.TheVariants.{Step as StepRef, Edit as EditRef}
use Rattle.actions.specs.declared.flip.Flip.{Flip}

pub data Action : Type 0 where
  Step : ℤ → Action
  Edit : List Flip → Action

abbrev pub moved : (Lattice → Lattice) → (Lattice → Lattice) → ℤ → Lattice → Lattice
moved f g (pos n) = repeated n f
moved f g (negsuc n) = repeated (suc n) g

abbrev pub made : (Lattice → Lattice) → (Lattice → Lattice) → Action → Lattice → Lattice
made f g (Step z) = moved f g z
made f g (Edit fs) = all_flipped fs

abbrev pub reversed : Action → Action
reversed (Step z) = Step (neg_ℤ z)
reversed (Edit fs) = Edit (reverse fs)

abbrev pub all_made : (Lattice → Lattice) → (Lattice → Lattice) → List Action → Lattice → Lattice
all_made f g acts l = fold (λ m a. made f g a m) l acts

abbrev pub home_of : List Action → List Action
home_of acts = map reversed (reverse acts)

abbrev pub action_of : ActionRef → Action
action_of (StepRef c) = Step (count_of c)
action_of (EditRef fs) = Edit fs.now
