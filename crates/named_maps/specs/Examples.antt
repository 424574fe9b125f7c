-- Worked examples, in the order of docs/MAPS.md: those of the named maps, and then some that distinguish left from right, above from below, and
-- forward from back. Cells are given row after row.
--     square n p cs          the lattice of n by n cells at phase p
--     one_present            two by two cells, the first of them present; one_marked, the same with its upper free bits set
--     all_kinds              two by two cells with each kind of past and present
--     in_the_corner c        the cells of four by four that have c in the upper left two by two, and 0 elsewhere
--     one_below_another c d  the cells of four by four that have c at column 1 and row 1, d below it, and 0 elsewhere
--     first_and_others c d   the cells of four by four that have c first, and d elsewhere
--     complement_forward     the cell map of the table complement
--     wide p cs              the lattice of four by two cells at phase p
--     lopsided               a block table that is changed by each rotation and reflection of the square: entry v is 7 v + 3 modulo 16
--     cycle, cycle_back      the cell table that goes from each number to the next, and from the last to the first; and the one that goes back
--     seen_through f         f conjugated by the cell map of cycle
--     ExamplesComeOut        each example gives the result that was worked out by hand
--     stands_at q ds l       whether the lattice l is at phase q and has the cells ds
--     Lands f n p cs q ds r  r says whether f leads from the square with the cells cs at phase p to the cells ds at phase q; if the limits permit no
--                            such square, r says no. Cited by an inner function alone
use Rattle.std.specs.Prelude.{◌≡◌, ℕ, ◌+◌, ◌*◌, ◌%◌, Bool, false, ◌&&◌, List, [], ◌∷◌, map, None, ◌==◌, ◌≢◌}
use Rattle.std.specs.List.{range_with_len}
use Rattle.std.specs.Str.{bytes_eq}
use Rattle.lattice.specs.Lattice.{Lattice}
use Rattle.lattice.specs.Maps.{repeated}
use Rattle.lattice.specs.Refusals.{start_refusal}
use Rattle.tables.specs.Inverses.{InvertedBy}
use Rattle.tables.specs.Names.{complement}
use Rattle.block_map.specs.Maps.{block_forward}
use Rattle.cell_map.specs.Maps.{replaced, cell_moved}
use Rattle.rules.specs.Neighbourhoods.{bit}
use Rattle.lift.specs.Maps.{lift_forward}
use Rattle.lift.specs.Moments.{presents}
use Rattle.lift.specs.Neighbours.{around}
use Rattle.layers.specs.Layers.{between}
use Rattle.named_maps.specs.Named.{bbm_forward, bbm_backward, critters_forward, critters_backward, life2_forward, life2_backward}

abbrev pub square : ℕ → ℕ → List ℕ → Lattice
square n p cs = record { width = n; height = n; phase = p; cells = cs }

abbrev pub one_present : List ℕ
one_present = 1 ∷ 0 ∷ 0 ∷ 0 ∷ []

abbrev pub one_marked : List ℕ
one_marked = 241 ∷ 0 ∷ 0 ∷ 0 ∷ []

abbrev pub all_kinds : List ℕ
all_kinds = 2 ∷ 255 ∷ 0 ∷ 1 ∷ []

abbrev pub in_the_corner : ℕ → List ℕ
in_the_corner c = c ∷ c ∷ 0 ∷ 0 ∷ c ∷ c ∷ 0 ∷ 0 ∷ 0 ∷ 0 ∷ 0 ∷ 0 ∷ 0 ∷ 0 ∷ 0 ∷ 0 ∷ []

abbrev pub one_below_another : ℕ → ℕ → List ℕ
one_below_another c d = 0 ∷ 0 ∷ 0 ∷ 0 ∷ 0 ∷ c ∷ 0 ∷ 0 ∷ 0 ∷ d ∷ 0 ∷ 0 ∷ 0 ∷ 0 ∷ 0 ∷ 0 ∷ []

abbrev pub first_and_others : ℕ → ℕ → List ℕ
first_and_others c d = c ∷ d ∷ d ∷ d ∷ d ∷ d ∷ d ∷ d ∷ d ∷ d ∷ d ∷ d ∷ d ∷ d ∷ d ∷ d ∷ []

abbrev pub complement_forward : Lattice → Lattice
complement_forward = cell_moved complement

abbrev pub wide : ℕ → List ℕ → Lattice
wide p cs = record { width = 4; height = 2; phase = p; cells = cs }

abbrev pub lopsided : List ℕ
lopsided = map (λ v. (7 * v + 3) % 16) (range_with_len 0 16)

abbrev pub cycle : List ℕ
cycle = map (λ v. (v + 1) % 4) (range_with_len 0 4)

abbrev pub cycle_back : List ℕ
cycle_back = map (λ v. (v + 3) % 4) (range_with_len 0 4)

abbrev pub seen_through : (Lattice → Lattice) → Lattice → Lattice
seen_through f = between f (cell_moved cycle) (cell_moved cycle_back)

pub record ExamplesComeOut : Type 0 where
  pub bbm_crosses_its_block : bbm_forward (square 2 0 one_present) ≡ square 2 1 (0 ∷ 0 ∷ 0 ∷ 1 ∷ [])
  pub bbm_comes_round : repeated 2 bbm_forward (square 2 0 one_present) ≡ square 2 0 one_present
  pub bbm_leaves_the_free_bits : bbm_forward (square 2 0 one_marked) ≡ square 2 1 (240 ∷ 0 ∷ 0 ∷ 1 ∷ [])
  pub critters_steps_forward : critters_forward (square 2 0 one_present) ≡ square 2 1 (0 ∷ 1 ∷ 1 ∷ 1 ∷ [])
  pub critters_steps_back : critters_backward (square 2 0 one_present) ≡ square 2 1 (1 ∷ 1 ∷ 1 ∷ 0 ∷ [])
  pub life2_remembers_a_block : (p : ℕ) → life2_forward (square 4 p (in_the_corner 1)) ≡ square 4 p (in_the_corner 3)
  pub life2_forgets_its_present : (p : ℕ) → repeated 2 life2_forward (square 4 p (in_the_corner 1)) ≡ square 4 p (in_the_corner 2)
  pub life2_comes_round : (p : ℕ) → repeated 3 life2_forward (square 4 p (in_the_corner 1)) ≡ square 4 p (in_the_corner 1)
  pub complement_turns_an_absent : replaced complement 2 ≡ 3
  pub complement_turns_a_present : replaced complement 255 ≡ 254
  pub complement_turns_every_cell : (p : ℕ) → complement_forward (square 2 p all_kinds) ≡ square 2 p (3 ∷ 254 ∷ 1 ∷ 0 ∷ [])
  pub right_counts_two_and_below_four : block_forward lopsided (square 2 0 one_present) ≡ square 2 1 (0 ∷ 1 ∷ 0 ∷ 1 ∷ [])
  pub blocks_of_phase_1_reach_round_both_edges : bbm_forward (wide 1 (0 ∷ 0 ∷ 0 ∷ 0 ∷ 0 ∷ 0 ∷ 0 ∷ 1 ∷ [])) ≡ wide 0 (1 ∷ 0 ∷ 0 ∷ 0 ∷ 0 ∷ 0 ∷ 0 ∷ 0 ∷ [])
  pub back_rewrites_the_blocks_of_the_new_phase : bbm_backward (wide 0 (1 ∷ 0 ∷ 0 ∷ 0 ∷ 0 ∷ 0 ∷ 0 ∷ 0 ∷ [])) ≡ wide 1 (0 ∷ 0 ∷ 0 ∷ 0 ∷ 0 ∷ 0 ∷ 0 ∷ 1 ∷ [])
  pub west_is_the_column_before : (p : ℕ) → lift_forward (bit 3) (wide p (0 ∷ 1 ∷ 0 ∷ 0 ∷ 0 ∷ 0 ∷ 0 ∷ 0 ∷ [])) ≡ wide p (0 ∷ 2 ∷ 1 ∷ 0 ∷ 0 ∷ 0 ∷ 0 ∷ 0 ∷ [])
  pub north_is_the_row_above : (p : ℕ) → lift_forward (bit 1) (square 4 p (one_below_another 1 0)) ≡ square 4 p (one_below_another 2 1)
  pub a_neighbour_on_both_sides_counts_in_each : around 2 2 (presents 2 (0 ∷ 1 ∷ 0 ∷ 0 ∷ [])) 0 0 ≡ 40
  pub life2_goes_back : (p : ℕ) → life2_backward (square 4 p (in_the_corner 3)) ≡ square 4 p (in_the_corner 1)
  pub cycle_is_undone_by_its_inverse : InvertedBy 4 cycle cycle_back
  pub a_conjugation_goes_in_first : (p : ℕ) → seen_through life2_forward (square 4 p (first_and_others 1 0)) ≡ square 4 p (first_and_others 0 1)

abbrev pub stands_at : ℕ → List ℕ → Lattice → Bool
stands_at q ds l = l.phase == q && bytes_eq l.cells ds

abbrev pub Lands : (Lattice → Lattice) → ℕ → ℕ → List ℕ → ℕ → List ℕ → Bool → Type 0
Lands f n p cs q ds r = (start_refusal n n p ≡ None → r ≡ stands_at q ds (f (square n p cs))) × ((start_refusal n n p ≢ None) → r ≡ false)
