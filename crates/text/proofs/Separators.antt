-- The first separator of a text: it is a tab, or else a newline. Assumes nothing.
use Rattle.std.proofs.Common.{◌≡◌, ◌≢◌, ℕ, ◌<◌, ◌≤◌, List, length, get_or, take, drop, ◌-◌, true, false, Some, slice_get, arith, sym, refl, ◌∙◌}
use Rattle.std.proofs.lemmas.List.Sums.{passes_at_first, position_or_len_is}
use Rattle.std.proofs.lemmas.List.{drop_more, take_rest, length-take-le}
use Rattle.std.specs.List.{position_or_len, before_first}
use Rattle.text.specs.Lines.{is_separator}

pub separator_at : (b : ℕ) → is_separator b ≡ true → b ≢ 9 → b ≡ 10
separator_at b e tab = grind arith

pub newline_behind : (bs : List ℕ) → position_or_len is_separator bs < length bs → get_or bs (position_or_len is_separator bs) 0 ≢ 9 → slice_get (drop (position_or_len is_separator bs) bs) 0 ≡ Some 10
newline_behind bs inside tab =
    let at = separator_at _ (passes_at_first is_separator bs 0 inside) tab in
    rw (drop_more bs (position_or_len is_separator bs) 0 inside, at) refl

-- a loop that found no separator up to the end
pub no_separator : (bs : List ℕ) (n : ℕ) → n ≡ length bs → ((k : ℕ) → k < n → is_separator (get_or bs k 0) ≡ false) → length bs ≡ position_or_len is_separator bs
no_separator bs n e none =
    let all : position_or_len is_separator bs ≡ n = position_or_len_is is_separator bs n 0 (omega arith) none (λ (l : n < length bs). absurd (omega arith)) in
    sym (all ∙ e)

-- the bytes before the first separator of the part that is borrowed from i on
pub before_in_part : (xs : List ℕ) (i n : ℕ) → n ≡ position_or_len is_separator (take (length xs - i) (drop i xs)) → take n (take (length xs - i) (drop i xs)) ≡ before_first is_separator (drop i xs)
before_in_part xs i n at =
    let e : take (length xs - i) (drop i xs) ≡ drop i xs = take_rest xs i in
    let at' : n ≡ position_or_len is_separator (drop i xs) = rw e at at in
    rw (e, at') refl

-- in such a part, a separator that follows n bytes and is not a tab is a newline
pub newline_in_part : (xs : List ℕ) (i n : ℕ) → n ≡ position_or_len is_separator (take (length xs - i) (drop i xs)) → n ≤ length (take (length xs - i) (drop i xs)) → (n ≡ length (take (length xs - i) (drop i xs)) → ⊥) → get_or (take (length xs - i) (drop i xs)) n 0 ≢ 9 → slice_get (drop (length (take n (take (length xs - i) (drop i xs)))) (drop i xs)) 0 ≡ Some 10
newline_in_part xs i n at within inside tab =
    let e : take (length xs - i) (drop i xs) ≡ drop i xs = take_rest xs i in
    let at' : n ≡ position_or_len is_separator (drop i xs) = rw e at at in
    let within' : n ≤ length (drop i xs) = rw e at within in
    let inside' : n ≢ length (drop i xs) = rw e at inside in
    let tab' : get_or (drop i xs) n 0 ≢ 9 = rw e at tab in
    let there : length (take n (drop i xs)) ≡ n = length-take-le n (drop i xs) within' in
    rw (e, there, at') (newline_behind (drop i xs) (omega (arith, at', within', inside')) (rw (← at') tab'))
