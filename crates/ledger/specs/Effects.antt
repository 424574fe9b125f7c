-- What the calls do to a lattice. Here f and g are the two functions of a map.
--     effect f g c led l    l after the call c, if that is accepted
--     standing_for f g led l    what a bench with the ledger led holds, if it was opened on l: l after the actions that stand, the earliest first,
--                               and then after the flips pending in the session
use Rattle.std.specs.Prelude.{take, reverse}
use Rattle.actions.specs.Actions.{moved, all_made, home_of}
use Rattle.actions.specs.Flips.{flipped, all_flipped}
use Rattle.lattice.specs.Lattice.{Lattice}
use Rattle.ledger.specs.Ledgers.{Ledger, latest}
use Rattle.scripts.specs.declared.record.Record.{Record}
use Rattle.scripts.specs.declared.record.Record.TheVariants.{Step, Undo, Redo, Open, Flip, Clear, Close}

abbrev pub effect : (Lattice → Lattice) → (Lattice → Lattice) → Record → Ledger → Lattice → Lattice
effect f g (Step z) led l = moved f g z l
effect f g Undo led l = all_made f g (home_of (latest led)) l
effect f g Redo led l = all_made f g (take 1 led.undone) l
effect f g Open led l = l
effect f g (Flip c r m) led l = flipped (record { col = c; row = r; mask = m }) l
effect f g Clear led l = all_flipped (reverse led.session) l
effect f g Close led l = l

abbrev pub standing_for : (Lattice → Lattice) → (Lattice → Lattice) → Ledger → Lattice → Lattice
standing_for f g led l = all_flipped led.session (all_made f g led.standing l)
