-- The cells that the digits of a row are, two more digits at a time. Assumes nothing.
use Rattle.std.proofs.Common.{◌≡◌, ℕ, suc, zero, ◌+◌, ◌*◌, ◌<◌, List, [], ◌∷◌, ◌++◌, length, take, get_or, set, arith, refl, sym, ◌∙◌, ap}
use Rattle.std.proofs.lemmas.List.{length-take-le, take_more, take_more_set, take_all, append_assoc}
use Rattle.std.specs.Char.{digit_value}
use Rattle.boards.specs.Reading.{cells_of}

pub cells_append : (n : ℕ) (xs ys : List ℕ) → length xs ≡ 2 * n → cells_of (xs ++ ys) ≡ cells_of xs ++ cells_of ys
cells_append n [] ys e = refl
cells_append n (a ∷ []) ys e = absurd (omega arith)
cells_append zero (a ∷ b ∷ xs) ys e = absurd (omega arith)
cells_append (suc n) (a ∷ b ∷ xs) ys e = ap (λ cs. (16 * digit_value a + digit_value b) ∷ cs) (cells_append n xs ys (omega arith))

-- two more digits
pub cells_more : (ds : List ℕ) (c : ℕ) → 2 * c + 1 < length ds → cells_of (take (2 * (c + 1)) ds) ≡ cells_of (take (2 * c) ds) ++ ((16 * digit_value (get_or ds (2 * c) 0) + digit_value (get_or ds (2 * c + 1) 0)) ∷ [])
cells_more ds c inside =
    let one : take (2 * c + 1) ds ≡ take (2 * c) ds ++ (get_or ds (2 * c) 0 ∷ []) = take_more ds (2 * c) 0 (omega arith) in
    let two : take (2 * c + 1 + 1) ds ≡ take (2 * c + 1) ds ++ (get_or ds (2 * c + 1) 0 ∷ []) = take_more ds (2 * c + 1) 0 inside in
    let n : 2 * (c + 1) ≡ 2 * c + 1 + 1 = omega arith in
    let len : length (take (2 * c) ds) ≡ 2 * c = length-take-le (2 * c) ds (omega arith) in
    let all : take (2 * (c + 1)) ds ≡ take (2 * c) ds ++ (get_or ds (2 * c) 0 ∷ get_or ds (2 * c + 1) 0 ∷ []) = ap (λ k. take k ds) n ∙ two ∙ ap (λ x. x ++ (get_or ds (2 * c + 1) 0 ∷ [])) one ∙ append_assoc (take (2 * c) ds) (get_or ds (2 * c) 0 ∷ []) (get_or ds (2 * c + 1) 0 ∷ []) in
    ap cells_of all ∙ cells_append c (take (2 * c) ds) (get_or ds (2 * c) 0 ∷ get_or ds (2 * c + 1) 0 ∷ []) len

pub row_more : (ds row : List ℕ) (c v : ℕ) → 2 * c + 1 < length ds → c < length row → take c row ≡ cells_of (take (2 * c) ds) → v ≡ 16 * digit_value (get_or ds (2 * c) 0) + digit_value (get_or ds (2 * c + 1) 0) → take (c + 1) (set row c v) ≡ cells_of (take (2 * (c + 1)) ds)
row_more ds row c v inside in-row before is = take_more_set row c v in-row ∙ ap (λ x. x ++ (v ∷ [])) before ∙ ap (λ y. cells_of (take (2 * c) ds) ++ (y ∷ [])) is ∙ sym (cells_more ds c inside)

pub row_all : (ds row : List ℕ) (c : ℕ) → c ≡ length row → length ds ≡ 2 * length row → take c row ≡ cells_of (take (2 * c) ds) → row ≡ cells_of ds
row_all ds row c e len done =
    let whole : take c row ≡ row = take_all c row (omega arith) in
    let all : take (2 * c) ds ≡ ds = take_all (2 * c) ds (omega arith) in
    sym whole ∙ done ∙ ap cells_of all
