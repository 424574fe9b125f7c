-- The block map's two functions undo each other, keep what a map has to keep, and leave the free bits of every cell. Assumes nothing.
use Rattle.std.specs.Prelude.{◌≡◌, ℕ, ◌/◌, ◌<◌, List, length, refl}
use Rattle.std.proofs.Common.{sym, ◌∙◌, ap, arith}
use Rattle.lattice.specs.Lattice.{Lattice, Whole, Within, SameShape, turned, with_cells}
use Rattle.lattice.specs.Cells.{cell, with_present, OnlyBelow}
use Rattle.lattice.specs.Maps.{UndoneBy, Keeps, Reversible}
use Rattle.lattice.proofs.FreeBits.{LeavesFreeBits, if_whole_free}
use Rattle.lattice.proofs.Places.{length_by_place, bytes_by_place, only_below_by_place}
use Rattle.lattice.proofs.Wholes.{if_whole_keeps, if_whole_undoes, turned_twice, turned_within}
use Rattle.tables.specs.Inverses.{InvertedBy}
use Rattle.block_map.specs.Block.{bit_below}
use Rattle.block_map.specs.Blocks.{offset, rewritten}
use Rattle.block_map.specs.Maps.{blocks_rewritten, block_forward, block_backward}
use Rattle.block_map.specs.Undone.{rewritten_below, blocks_undone}

module _ (t : List ℕ) where
  rewritten_count : (l : Lattice) → Whole l → length (blocks_rewritten t l).cells ≡ length l.cells
  rewritten_count l whole = length_by_place l.width l.height (rewritten t l.width l.height l.phase l.cells) ∙ sym whole

  rewritten_within : (l : Lattice) → Within l → Within (blocks_rewritten t l)
  rewritten_within l w = record {
    wide = w.wide;
    high = w.high;
    area = w.area;
    phased = w.phased;
    bytes = bytes_by_place l.width l.height (let s = w.wide in omega arith) (rewritten t l.width l.height l.phase l.cells)
        (λ x y _ _. rewritten_below t l.width l.height l.phase l.cells w.bytes x y);
  }

  forward_shape : (l : Lattice) → Within l → Whole l → SameShape l (turned (blocks_rewritten t l))
  forward_shape l w whole = record { width = refl; height = refl; count = rewritten_count l whole }

  backward_shape : (l : Lattice) → Within l → Whole l → SameShape l (blocks_rewritten t (turned l))
  backward_shape l w whole = record { width = refl; height = refl; count = rewritten_count (turned l) whole }

  pub keeps_forward : Keeps (block_forward t)
  keeps_forward = if_whole_keeps (λ l. turned (blocks_rewritten t l)) forward_shape
      (λ l w whole. turned_within (blocks_rewritten t l) (rewritten_within l w))

  pub keeps_backward : Keeps (block_backward t)
  keeps_backward = if_whole_keeps (λ l. blocks_rewritten t (turned l)) backward_shape
      (λ l w whole. rewritten_within (turned l) (turned_within l w))

  rewritten_free : (l : Lattice) → Within l → Whole l → OnlyBelow 4 l.cells (blocks_rewritten t l).cells
  rewritten_free l w whole = only_below_by_place l.width l.height (let s = w.wide in omega arith) 4 (rewritten t l.width l.height l.phase l.cells) l.cells whole
      (λ x y. present_alone (cell l.width l.cells x y) _ (bit_below (offset l.phase x) (offset l.phase y) _))
    where
      present_alone : (c b : ℕ) → b < 2 → with_present c b / 4 ≡ c / 4
      present_alone c b h = omega arith

module _ (t u : List ℕ) (undo : InvertedBy 16 t u) where
  rewritten_back : (l : Lattice) → Within l → Whole l → blocks_rewritten u (blocks_rewritten t l) ≡ l
  rewritten_back l w whole = ap (with_cells l) (blocks_undone t u undo l.width l.height l.phase w.wide w.high w.phased l.cells whole)

  pub forward_undone : UndoneBy (block_forward t) (block_backward u)
  forward_undone = if_whole_undoes (λ l. turned (blocks_rewritten t l)) (λ l. blocks_rewritten u (turned l)) (forward_shape t)
      (λ l w whole. ap (blocks_rewritten u) (turned_twice (blocks_rewritten t l) w.phased) ∙ rewritten_back l w whole)

  pub backward_undone : UndoneBy (block_backward t) (block_forward u)
  backward_undone = if_whole_undoes (λ l. blocks_rewritten t (turned l)) (λ l. turned (blocks_rewritten u l)) (backward_shape t)
      (λ l w whole. ap turned (rewritten_back (turned l) (turned_within l w) whole) ∙ turned_twice l w.phased)

-- forward by a table, and back by its inverse
pub block_laws : (t u : List ℕ) → InvertedBy 16 t u → InvertedBy 16 u t → Reversible (block_forward t) (block_backward u)
block_laws t u there home = record {
  back_undoes_forward = forward_undone t u there;
  forward_undoes_back = backward_undone u t home;
  forward_keeps = keeps_forward t;
  backward_keeps = keeps_backward u;
}

pub block_free : (t u : List ℕ) → LeavesFreeBits (block_forward t) (block_backward u)
block_free t u = record {
  forward = if_whole_free (λ l. turned (blocks_rewritten t l)) (rewritten_free t);
  backward = if_whole_free (λ l. blocks_rewritten u (turned l)) (λ l w whole. rewritten_free u (turned l) (turned_within l w) whole);
}
