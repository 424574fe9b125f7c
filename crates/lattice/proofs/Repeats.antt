-- A function applied again and again. Assumes nothing.
use Rattle.std.proofs.Common.{◌≡◌, ℕ, zero, suc, ◌+◌, List, sym, refl, ap, ◌∙◌, add-one}
use Rattle.lattice.specs.Lattice.{Lattice, Whole, Within, SameShape}
use Rattle.lattice.specs.Maps.{UndoneBy, Keeps, repeated}
use Rattle.lattice.specs.Overlays.{laid_over}
use Rattle.lattice.specs.Starts.{held, StartOf}
use Rattle.lattice.specs.declared.start.Start.{Start}
use Rattle.lattice.proofs.Wholes.{same_shape, same_shape_trans}

-- an iteration of a loop that makes one move in each iteration
pub one_more : (f : Lattice → Lattice) (n : ℕ) (first here next : Lattice) → here ≡ repeated n f first → next ≡ f here → next ≡ repeated (n + 1) f first
one_more f n first here next reached moved = moved ∙ ap f reached ∙ rw add-one refl

-- the extra move may be the last or the first
repeated_tail : (f : Lattice → Lattice) (n : ℕ) (l : Lattice) → repeated (suc n) f l ≡ repeated n f (f l)
repeated_tail f zero l = refl
repeated_tail f (suc n) l = ap f (repeated_tail f n l)

pub repeated_within : (f : Lattice → Lattice) → Keeps f → (n : ℕ) (l : Lattice) → Within l → Within (repeated n f l)
repeated_within f keeps zero l w = w
repeated_within f keeps (suc n) l w = keeps.within (repeated n f l) (repeated_within f keeps n l w)

pub repeated_keeps : (f : Lattice → Lattice) → Keeps f → (n : ℕ) → Keeps (repeated n f)
repeated_keeps f k n = record {
  shape = λ l w. shape n l w;
  within = λ l w. repeated_within f k n l w;
  partial = λ l w part. partial n l w part;
}
  where
    shape : (n : ℕ) (l : Lattice) → Within l → SameShape l (repeated n f l)
    shape zero l w = same_shape l
    shape (suc n) l w = same_shape_trans l (repeated n f l) (f (repeated n f l)) (shape n l w) (k.shape (repeated n f l) (repeated_within f k n l w))

    partial : (n : ℕ) (l : Lattice) → Within l → (Whole l → ⊥) → repeated n f l ≡ l
    partial zero l w part = refl
    partial (suc n) l w part = ap f (partial n l w part) ∙ k.partial l w part

-- as many moves back as were made forward restore the lattice
pub repeated_undone : (f g : Lattice → Lattice) → Keeps f → UndoneBy f g → (n : ℕ) (l : Lattice) → Within l → repeated n g (repeated n f l) ≡ l
repeated_undone f g keeps undoes zero l w = refl
repeated_undone f g keeps undoes (suc n) l w =
    repeated_tail g n (f (repeated n f l))
    ∙ ap (repeated n g) (undoes (repeated n f l) (repeated_within f keeps n l w))
    ∙ repeated_undone f g keeps undoes n l w

pub home_again : (f g : Lattice → Lattice) → Keeps f → UndoneBy f g → (n : ℕ) (first far last : Lattice) → Within first → far ≡ repeated n f first → last ≡ repeated n g far → last ≡ first
home_again f g keeps undoes n first far last w out back = back ∙ ap (repeated n g) out ∙ repeated_undone f g keeps undoes n first w

-- what is known after the moves forward, when the start record s and the cells cs make up `far`
pub far_start : (far : Lattice) (s : Start) (cs : List ℕ) → held s cs ≡ far → StartOf far s
far_start far s cs e = ap (λ l. held s l.cells) (sym e) ∙ e

pub far_cells : (far : Lattice) (s : Start) (cs old new : List ℕ) → held s cs ≡ far → new ≡ laid_over cs old → new ≡ laid_over far.cells old
far_cells far s cs old new e laid = laid ∙ ap (λ l. laid_over l.cells old) e
