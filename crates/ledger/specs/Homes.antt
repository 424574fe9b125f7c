-- The way back to the opening lattice, as records.
--     flip_record f         the record of the flip f
--     making a              the records that make the action a: one step, or a whole session for an edit
--     home_records acts     the records that undo the actions acts, the last one first
--     home_script acts      their text
use Rattle.std.specs.Prelude.{ℕ, List, [], ◌∷◌, ◌++◌, map, flat_map}
use Rattle.actions.specs.Actions.{Action, Step as StepAction, Edit as EditAction, home_of}
use Rattle.actions.specs.declared.flip.Flip.{Flip as CellFlip}
use Rattle.scripts.specs.Records.{script_of}
use Rattle.scripts.specs.declared.record.Record.{Record}
use Rattle.scripts.specs.declared.record.Record.TheVariants.{Step, Open, Flip, Close}

abbrev pub flip_record : CellFlip → Record
flip_record f = Flip f.col f.row f.mask

abbrev pub making : Action → List Record
making (StepAction z) = Step z ∷ []
making (EditAction fs) = Open ∷ (map flip_record fs ++ (Close ∷ []))

abbrev pub home_records : List Action → List Record
home_records acts = flat_map making (home_of acts)

abbrev pub home_script : List Action → List ℕ
home_script acts = script_of (home_records acts)
