-- Bytes that are copied over others. Assumes nothing.
use Rattle.std.proofs.Common.{◌≡◌, ℕ, ◌-◌, ◌<◌, ◌≤◌, min, List, ◌++◌, length, take, drop, sym, refl, ◌∙◌, ap₂, ⊎_elim, arith}
use Rattle.std.proofs.lemmas.List.{take_all, drop_all}
use Rattle.std.proofs.lemmas.Bool.{cases_lt}
use Rattle.lattice.specs.Overlays.{laid_over}

-- a copy between the first n bytes of two slices
pub laid_parts : (xs ys : List ℕ) (n : ℕ) → n ≡ min (length xs) (length ys) → take (n - 0) xs ++ drop (n - 0) ys ≡ laid_over xs ys
laid_parts xs ys n least = ⊎_elim short long (cases_lt (length xs) (length ys))
  where
    short : length xs < length ys → take (n - 0) xs ++ drop (n - 0) ys ≡ laid_over xs ys
    short l =
        let all : n - 0 ≡ length xs = omega arith in
        rw all (ap₂ ◌++◌ (take_all (length xs) xs (omega arith) ∙ sym (take_all (length ys) xs (omega arith))) refl)

    long : length ys ≤ length xs → take (n - 0) xs ++ drop (n - 0) ys ≡ laid_over xs ys
    long l =
        let all : n - 0 ≡ length ys = omega arith in
        rw all (ap₂ ◌++◌ refl (drop_all (length ys) ys (omega arith) ∙ sym (drop_all (length xs) ys (omega arith))))
