-- The worked examples, computed, and how they apply to a move of a map. Assumes nothing.
use Rattle.std.proofs.Common.{◌≡◌, ℕ, List, true, refl, ap, ◌∙◌}
use Rattle.lattice.specs.Lattice.{Lattice}
use Rattle.lattice.specs.Maps.{repeated}
use Rattle.lattice.specs.Starts.{width_of, height_of, phase_of, held}
use Rattle.lattice.specs.declared.start.Start.{Start}
use Rattle.tables.proofs.Tested.{inverted_by_test}
use Rattle.named_maps.specs.Examples.{ExamplesComeOut, square, cycle, cycle_back, stands_at}

pub worked_examples : ExamplesComeOut
worked_examples = record {
  bbm_crosses_its_block = refl;
  bbm_comes_round = refl;
  bbm_leaves_the_free_bits = refl;
  critters_steps_forward = refl;
  critters_steps_back = refl;
  life2_remembers_a_block = λ p. refl;
  life2_forgets_its_present = λ p. refl;
  life2_comes_round = λ p. refl;
  complement_turns_an_absent = refl;
  complement_turns_a_present = refl;
  complement_turns_every_cell = λ p. refl;
  right_counts_two_and_below_four = refl;
  blocks_of_phase_1_reach_round_both_edges = refl;
  back_rewrites_the_blocks_of_the_new_phase = refl;
  west_is_the_column_before = λ p. refl;
  north_is_the_row_above = λ p. refl;
  a_neighbour_on_both_sides_counts_in_each = refl;
  life2_goes_back = λ p. refl;
  cycle_is_undone_by_its_inverse = inverted_by_test 4 cycle cycle_back refl;
  a_conjugation_goes_in_first = λ p. refl;
}

-- s and cs make up the square that an example begins with, and a move leads to s' and cs'
pub landed : (f : Lattice → Lattice) (s s' : Start) (n p q : ℕ) (cs cs' ds : List ℕ) → width_of s ≡ n → height_of s ≡ n → phase_of s ≡ p
    → held s' cs' ≡ f (held s cs) → stands_at q ds (held s' cs') ≡ stands_at q ds (f (square n p cs))
landed f s s' n p q cs cs' ds ew eh ep moved =
    let begun : held s cs ≡ square n p cs = λ i. record { width = ew i; height = eh i; phase = ep i; cells = cs } in
    ap (stands_at q ds) (moved ∙ ap f begun)

-- a map that means g gives the result of an example if g does
pub means : (f g : Lattice → Lattice) → f ≡ g → (k n p q : ℕ) (cs ds : List ℕ) → repeated k g (square n p cs) ≡ square n q ds → stands_at q ds (square n q ds) ≡ true
    → stands_at q ds (repeated k f (square n p cs)) ≡ true
means f g e k n p q cs ds h out = ap (λ moves. stands_at q ds (repeated k moves (square n p cs))) e ∙ ap (stands_at q ds) h ∙ out
