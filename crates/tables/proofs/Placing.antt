-- Writing at place e where the entry e stands. Assumes nothing.
use Rattle.std.proofs.Common.{◌≡◌, ℕ, zero, suc, ◌+◌, ◌<◌, ◌≤◌, cond, leb, List, length, get_or, set, replicate, sum_by, sym, refl, ap, ◌∙◌, ⊎_elim, arith}
use Rattle.std.proofs.lemmas.List.{get_or-set_same, get_or-set_other, length-set, length-replicate, get_or-replicate}
use Rattle.std.proofs.lemmas.List.Sums.{sum_by-cons, sum_by-set, get_or-le-sum_by}
use Rattle.std.proofs.lemmas.Bool.{le-leb, lt-leb, cases_eq, cases_lt, cond-true, cond-false}
use Rattle.tables.specs.Inverses.{InvertedBy}
use Rattle.tables.specs.Refusals.{Below, Apart, RepeatIn}

-- a place is free as long as it does not hold a number below n, and then counts 1
abbrev pub weight : ℕ → ℕ → ℕ
weight n p = cond (leb n p) 1 0

abbrev pub free : ℕ → List ℕ → ℕ
free n ps = sum_by (weight n) ps

weight_free : (n p : ℕ) → n ≤ p → weight n p ≡ 1
weight_free n p h = cond-true (leb n p) 1 0 (le-leb n p h)

weight_taken : (n p : ℕ) → p < n → weight n p ≡ 0
weight_taken n p h = cond-false (leb n p) 1 0 (lt-leb n p h)

-- the first i entries of es are placed in ps, which has n places
pub record Placed (n : ℕ) (es ps : List ℕ) (i : ℕ) : Type 0 where
  pub long : length ps ≡ n
  pub found : (k : ℕ) → k < i → get_or ps (get_or es k 0) 0 ≡ k
  pub taken : (w : ℕ) → w < n → get_or ps w 0 < n → (get_or ps w 0 < i) × (get_or es (get_or ps w 0) 0 ≡ w)
  pub left : free n ps + i ≡ n

all_free : (m n : ℕ) → free n (replicate m n) ≡ m
all_free zero n = refl
all_free (suc m) n =
    let one = weight_free n n (omega arith) in
    let rest = all_free m n in
    sum_by-cons (weight n) n (replicate m n) ∙ omega arith

pub placed_none : (n : ℕ) (es : List ℕ) → Placed n es (replicate n n) 0
placed_none n es = record {
  long = length-replicate n n;
  found = λ k h. absurd (omega arith);
  taken = λ w h t. absurd (let e = get_or-replicate n w n 0 h in omega arith);
  left = let e = all_free n n in omega arith;
}

-- the place of an entry is one of the places
pub placed_inside : (es ps : List ℕ) (i : ℕ) → Placed (length es) es ps i → Below (length es) es → i < length es → get_or es i 0 < length ps
placed_inside es ps i p small i< = let long = p.long in let s = small i i< in omega arith

-- one more entry e, whose place is free
module _ (n : ℕ) (es ps : List ℕ) (i e : ℕ) (p : Placed n es ps i) (i< : i < n) (e< : e < n) (is : e ≡ get_or es i 0) (gap : n ≤ get_or ps e 0) where
  within : e < length ps
  within = let l = p.long in omega arith

  here : get_or (set ps e i) e 0 ≡ i
  here = get_or-set_same ps e i 0 within

  found_more : (k : ℕ) → k < i + 1 → get_or (set ps e i) (get_or es k 0) 0 ≡ k
  found_more k h = ⊎_elim older newer (cases_lt k i)
    where
      older : k < i → get_or (set ps e i) (get_or es k 0) 0 ≡ k
      older l =
          let f = p.found k l in
          get_or-set_other ps e (get_or es k 0) i 0 (λ q. let f' = ap (λ w. get_or ps w 0) (sym q) ∙ f in omega arith) ∙ f

      newer : i ≤ k → get_or (set ps e i) (get_or es k 0) 0 ≡ k
      newer l =
          let same : k ≡ i = omega arith in
          let at : get_or es k 0 ≡ e = ap (λ j. get_or es j 0) same ∙ sym is in
          ap (λ w. get_or (set ps e i) w 0) at ∙ here ∙ sym same

  taken_more : (w : ℕ) → w < n → get_or (set ps e i) w 0 < n → (get_or (set ps e i) w 0 < i + 1) × (get_or es (get_or (set ps e i) w 0) 0 ≡ w)
  taken_more w h t = ⊎_elim mine other (cases_eq w e)
    where
      mine : w ≡ e → (get_or (set ps e i) w 0 < i + 1) × (get_or es (get_or (set ps e i) w 0) 0 ≡ w)
      mine q =
          let v : get_or (set ps e i) w 0 ≡ i = ap (λ x. get_or (set ps e i) x 0) q ∙ here in
          (omega arith, ap (λ x. get_or es x 0) v ∙ sym is ∙ sym q)

      other : (w ≡ e → ⊥) → (get_or (set ps e i) w 0 < i + 1) × (get_or es (get_or (set ps e i) w 0) 0 ≡ w)
      other q =
          let v = get_or-set_other ps e w i 0 q in
          let old = p.taken w h (omega arith) in
          (omega arith, ap (λ x. get_or es x 0) v ∙ old.1)

  left_more : free n (set ps e i) + (i + 1) ≡ n
  left_more =
      let sums = sum_by-set (weight n) ps e i 0 within in
      let was = weight_free n (get_or ps e 0) gap in
      let now = weight_taken n i i< in
      let l = p.left in
      omega arith

  pub placed_more : Placed n es (set ps e i) (i + 1)
  placed_more = record { long = length-set ps e i ∙ p.long; found = found_more; taken = taken_more; left = left_more }

-- an entry whose place is taken has come before
pub placed_again : (n : ℕ) (es ps : List ℕ) (i e : ℕ) → Placed n es ps i → i < length es → e < n → e ≡ get_or es i 0 → get_or ps e 0 < n → RepeatIn es
placed_again n es ps i e p i< e< is t = let old = p.taken e e< t in (get_or ps e 0, i, old.0, i<, old.1 ∙ is)

-- once all are placed, no place is free
module _ (es ps : List ℕ) (p : Placed (length es) es ps (length es)) (small : Below (length es) es) where
  full : (w : ℕ) → w < length es → get_or ps w 0 < length es
  full w h = ⊎_elim (λ l. l) none (cases_lt (get_or ps w 0) (length es))
    where
      none : length es ≤ get_or ps w 0 → get_or ps w 0 < length es
      none l =
          let long = p.long in
          let one = weight_free (length es) (get_or ps w 0) l in
          let most = get_or-le-sum_by (weight (length es)) ps w 0 (omega arith) in
          let left = p.left in
          omega arith

  pub placed_all : Apart es × InvertedBy (length es) es ps × InvertedBy (length es) ps es
  placed_all = (
    (λ j k h l q.
        let a = p.found j (omega arith) in
        let b = p.found k l in
        let c = ap (λ x. get_or ps x 0) q in
        omega arith),
    (λ v h. (small v h, p.found v h)),
    (λ w h. (full w h, (p.taken w h (full w h)).1)),
  )
