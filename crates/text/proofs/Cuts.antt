-- A list is cut at the first of its elements that passes a test. Assumes nothing.
use Rattle.std.proofs.Common.{◌≡◌, ℕ, ◌+◌, List, [], ◌∷◌, ◌++◌, drop, true, false, Bool, arith, refl, ◌∙◌, ap, suc}
use Rattle.std.specs.List.{AllByRecursion, position_or_len, before_first, after_first, slice_split}

-- no element of xs passes
abbrev pub Free : (ℕ → Bool) → List ℕ → Type 0
Free p xs = AllByRecursion (λ x. p x ≡ false) xs

pub position_yes : (p : ℕ → Bool) (x : ℕ) (xs : List ℕ) → p x ≡ true → position_or_len p (x ∷ xs) ≡ 0
position_yes p x xs e = rw e refl

pub position_no : (p : ℕ → Bool) (x : ℕ) (xs : List ℕ) → p x ≡ false → position_or_len p (x ∷ xs) ≡ suc (position_or_len p xs)
position_no p x xs e = rw e (omega arith)

pub before_yes : (p : ℕ → Bool) (x : ℕ) (xs : List ℕ) → p x ≡ true → before_first p (x ∷ xs) ≡ []
before_yes p x xs e = rw (position_yes p x xs e) refl

pub before_no : (p : ℕ → Bool) (x : ℕ) (xs : List ℕ) → p x ≡ false → before_first p (x ∷ xs) ≡ x ∷ before_first p xs
before_no p x xs e = rw (position_no p x xs e) refl

pub after_yes : (p : ℕ → Bool) (x : ℕ) (xs : List ℕ) → p x ≡ true → after_first p (x ∷ xs) ≡ xs
after_yes p x xs e = rw (position_yes p x xs e) refl

pub after_no : (p : ℕ → Bool) (x : ℕ) (xs : List ℕ) → p x ≡ false → after_first p (x ∷ xs) ≡ after_first p xs
after_no p x xs e =
    let far : position_or_len p (x ∷ xs) + 1 ≡ suc (position_or_len p xs + 1) = omega (arith, position_no p x xs e) in
    ap (λ n. drop n (x ∷ xs)) far

pub before_front : (p : ℕ → Bool) (xs ys : List ℕ) → Free p xs → before_first p (xs ++ ys) ≡ xs ++ before_first p ys
before_front p [] ys free = refl
before_front p (x ∷ xs) ys free = before_no p x (xs ++ ys) free.0 ∙ ap (λ r. x ∷ r) (before_front p xs ys free.1)

pub after_front : (p : ℕ → Bool) (xs ys : List ℕ) → Free p xs → after_first p (xs ++ ys) ≡ after_first p ys
after_front p [] ys free = refl
after_front p (x ∷ xs) ys free = after_no p x (xs ++ ys) free.0 ∙ after_front p xs ys free.1

free_before_at : (p : ℕ → Bool) (x : ℕ) (xs : List ℕ) (b : Bool) → p x ≡ b → Free p (before_first p xs) → Free p (before_first p (x ∷ xs))
free_before_at p x xs true e free = rw (before_yes p x xs e) tt
free_before_at p x xs false e free = rw (before_no p x xs e) (e, free)

pub free_before : (p : ℕ → Bool) (xs : List ℕ) → Free p (before_first p xs)
free_before p [] = tt
free_before p (x ∷ xs) = free_before_at p x xs (p x) refl (free_before p xs)

pub split_free : (p : ℕ → Bool) (xs : List ℕ) → Free p xs → slice_split p xs ≡ xs ∷ []
split_free p [] free = refl
split_free p (x ∷ xs) free = rw (free.0, split_free p xs free.1) refl

pub split_front : (p : ℕ → Bool) (xs : List ℕ) (y : ℕ) (ys : List ℕ) → Free p xs → p y ≡ true → slice_split p (xs ++ (y ∷ ys)) ≡ xs ∷ slice_split p ys
split_front p [] y ys free here = rw here refl
split_front p (x ∷ xs) y ys free here = rw (free.0, split_front p xs y ys free.1 here) refl
