-- The lift of a local rule f, a second-order rule: what becomes of one cell, and of a lattice.
--     rule_of m                    the rule that the map m is the lift of
--     lifted f w h cs x y          the cell of column x and row y after a move forward: its new present is its past XOR f of its neighbourhood, and
--                                  its new past is its present
--     unlifted f w h cs x y        the same cell after a move back: its new present is its past, and its new past is its present XOR f of the
--                                  neighbourhood that the pasts make up
--     lift_forward f               every cell lifted, if the lattice is whole
--     lift_backward f              every cell unlifted, if it is
use Rattle.std.specs.Prelude.{ℕ, List}
use Rattle.lattice.specs.Cells.{cell}
use Rattle.lattice.specs.EveryCell.{every_cell}
use Rattle.lattice.specs.Lattice.{Lattice}
use Rattle.lift.specs.Moments.{xored, exchanged, presents, pasts}
use Rattle.lift.specs.Neighbours.{around}
use Rattle.lift.specs.declared.map.Lift.{Lift}

abbrev pub rule_of : {R : Type 0} → Lift R → R
rule_of m = m.rule

abbrev pub lifted : (ℕ → ℕ) → ℕ → ℕ → List ℕ → ℕ → ℕ → ℕ
lifted f w h cs x y = exchanged (xored (cell w cs x y) (f (around w h (presents w cs) x y)))

abbrev pub unlifted : (ℕ → ℕ) → ℕ → ℕ → List ℕ → ℕ → ℕ → ℕ
unlifted f w h cs x y = xored (exchanged (cell w cs x y)) (f (around w h (pasts w cs) x y))

abbrev pub lift_forward : (ℕ → ℕ) → Lattice → Lattice
lift_forward f = every_cell (lifted f)

abbrev pub lift_backward : (ℕ → ℕ) → Lattice → Lattice
lift_backward f = every_cell (unlifted f)
