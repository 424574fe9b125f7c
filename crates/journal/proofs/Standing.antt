-- The actions that stand and those that were undone, read from the entries before and after the boundary between them. Assumes nothing.
use Rattle.std.proofs.Common.{◌≡◌, ℕ, suc, ◌+◌, ◌-◌, ◌<◌, ◌≤◌, List, [], ◌∷◌, ◌++◌, length, take, drop, get_or, sym, ap, ap₂, ◌∙◌, arith, drop-cons}
use Rattle.std.proofs.lemmas.List.{length-take-le, length-drop, take-take, drop-take, take_more, take-append-drop, drop-append-le, drop-drop, append-nil}
use Rattle.std.proofs.lemmas.List.Sums.{sum_by-append}
use Rattle.std.proofs.Math.Seq.{drop-append_seam, take-add}
use Rattle.actions.specs.Actions.{Action, Step, Edit}
use Rattle.actions.specs.StepCounts.{count_of}
use Rattle.actions.specs.declared.flip.Flip.{Flip}
use Rattle.actions.specs.declared.step_count.StepCount.{StepCount}
use Rattle.journal.proofs.Entries.{length_read_all, read_all_append, take_read_all, drop_read_all}
use Rattle.journal.specs.Views.{places, all_places, read, read_all}
use Rattle.journal.specs.declared.entry.Entry.{Entry}
use Rattle.journal.specs.declared.entry.Entry.TheVariants.{Step as StepEntry, Edit as EditEntry}

-- the last of n entries, taken by itself
pub places_more : (es : List Entry) (k : ℕ) (d : Entry) → k < length es → all_places (take (k + 1) es) ≡ all_places (take k es) + places (get_or es k d)
places_more es k d k< = ap all_places (take_more es k d k<) ∙ sum_by-append places (take k es) (get_or es k d ∷ []) ∙ omega arith

pub read_more : (es : List Entry) (fs : List Flip) (k : ℕ) (d : Entry) → k < length es → read_all (take (k + 1) es) fs ≡ read_all (take k es) fs ++ (read (get_or es k d) (drop (all_places (take k es)) fs) ∷ [])
read_more es fs k d k< = ap (λ x. read_all x fs) (take_more es k d k<) ∙ read_all_append (take k es) (get_or es k d ∷ []) fs

pub last_read : (es : List Entry) (fs : List Flip) (k : ℕ) (d : Entry) → k < length es → drop k (read_all (take (k + 1) es) fs) ≡ read (get_or es k d) (drop (all_places (take k es)) fs) ∷ []
last_read es fs k d k< =
    let front = read_all (take k es) fs in
    let len : length front ≡ k = length_read_all (take k es) fs ∙ length-take-le k es (omega arith) in
    ap (drop k) (read_more es fs k d k<)
    ∙ ap (λ n. drop n (front ++ (read (get_or es k d) (drop (all_places (take k es)) fs) ∷ []))) (sym len)
    ∙ drop-append_seam front (read (get_or es k d) (drop (all_places (take k es)) fs) ∷ [])

module _ (es : List Entry) (fs : List Flip) (s u : ℕ) (inside : s + u ≤ length es) where
  pub standing_read : take s (read_all (take (s + u) es) fs) ≡ read_all (take s es) fs
  standing_read = take_read_all s (take (s + u) es) fs ∙ ap (λ x. read_all x fs) (take-take s (s + u) es (omega arith))

  pub undone_read : drop s (read_all (take (s + u) es) fs) ≡ read_all (take u (drop s es)) (drop (all_places (take s es)) fs)
  undone_read =
      drop_read_all s (take (s + u) es) fs
      ∙ ap₂ (λ x y. read_all x (drop (all_places y) fs)) (drop-take s u es) (take-take s (s + u) es (omega arith))

  pub count_standing : length (take s (read_all (take (s + u) es) fs)) ≡ s
  count_standing = ap length standing_read ∙ length_read_all (take s es) fs ∙ length-take-le s es (omega arith)

  pub count_undone : length (drop s (read_all (take (s + u) es) fs)) ≡ u
  count_undone =
      let behind = length-drop s es in
      ap length undone_read ∙ length_read_all (take u (drop s es)) (drop (all_places (take s es)) fs) ∙ length-take-le u (drop s es) (omega arith)

  -- the first c of the actions that stand
  module _ (c : ℕ) (within : c ≤ s) where
    pub first_read : take c (take s (read_all (take (s + u) es) fs)) ≡ read_all (take c es) fs
    first_read = ap (take c) standing_read ∙ take_read_all c (take s es) fs ∙ ap (λ x. read_all x fs) (take-take c s es within)

    pub count_first : length (take c (take s (read_all (take (s + u) es) fs))) ≡ c
    count_first = ap length first_read ∙ length_read_all (take c es) fs ∙ length-take-le c es (omega arith)

    pub but_last : take (c - 1) (take s (read_all (take (s + u) es) fs)) ≡ take (length (take c (take s (read_all (take (s + u) es) fs))) - 1) (take c (take s (read_all (take (s + u) es) fs)))
    but_last = sym (ap (λ n. take (n - 1) (take c (take s (read_all (take (s + u) es) fs)))) count_first ∙ take-take (c - 1) c (take s (read_all (take (s + u) es) fs)) (omega arith))

    pub last_of_first : (d : Entry) → 0 < c → drop (length (take c (take s (read_all (take (s + u) es) fs))) - 1) (take c (take s (read_all (take (s + u) es) fs)))
        ≡ read (get_or es (c - 1) d) (drop (all_places (take (c - 1) es)) fs) ∷ []
    last_of_first d some =
        let one : c ≡ (c - 1) + 1 = omega arith in
        ap₂ (λ n x. drop (n - 1) x) count_first first_read
        ∙ ap (λ n. drop (c - 1) (read_all (take n es) fs)) one
        ∙ last_read es fs (c - 1) d (omega arith)

  -- the action that a redo makes
  pub next_read : (d : Entry) → 0 < u → take 1 (drop s (read_all (take (s + u) es) fs)) ≡ read (get_or es s d) (drop (all_places (take s es)) fs) ∷ []
  next_read d some =
      let first : take u (drop s es) ≡ get_or es s d ∷ take (u - 1) (drop (suc s) es) =
      ap₂ take one (drop-cons es s d (omega arith))
      in
      ap (take 1) undone_read ∙ ap (λ x. take 1 (read_all x (drop (all_places (take s es)) fs))) first
    where
      one : u ≡ suc (u - 1)
      one = omega arith

  pub none_undone : u ≡ 0 → [] ≡ take 1 (drop s (read_all (take (s + u) es) fs))
  none_undone none =
      sym (ap (take 1) (undone_read ∙ ap (λ n. read_all (take n (drop s es)) (drop (all_places (take s es)) fs)) none))

-- reading an entry that is known
pub read_step : (e : Entry) (c : StepCount) (fs : List Flip) → e ≡ StepEntry c → read e fs ≡ Step (count_of c)
read_step e c fs is = ap (λ x. read x fs) is

pub read_edit : (e : Entry) (n : ℕ) (fs : List Flip) → e ≡ EditEntry n → read e fs ≡ Edit (take n fs)
read_edit e n fs is = ap (λ x. read x fs) is

-- the places before those of the last of n entries
pub places_before : (es : List Entry) (n m : ℕ) (d : Entry) → 0 < n → n ≤ length es → get_or es (n - 1) d ≡ EditEntry m → all_places (take (n - 1) es) + m ≡ all_places (take n es)
places_before es n m d some inside is =
    let one : (n - 1) + 1 ≡ n = omega arith in
    sym (ap (λ k. all_places (take k es)) (sym one) ∙ places_more es (n - 1) d (omega arith) ∙ ap (λ e. all_places (take (n - 1) es) + places e) is)

-- the places that are lent
pub part_before : (fs : List Flip) (a b m n : ℕ) → m ≡ n → a + n ≡ b → Edit (take (b - (b - m)) (drop (b - m) fs)) ≡ Edit (take n (drop a fs))
part_before fs a b m n same ends =
    let from : b - m ≡ a = omega arith in
    let count : b - (b - m) ≡ n = omega arith in
    ap₂ (λ k i. Edit (take k (drop i fs))) count from

pub part_behind : (fs : List Flip) (a m n : ℕ) → m ≡ n → Edit (take (a + m - a) (drop a fs)) ≡ Edit (take n (drop a fs))
part_behind fs a m n same = let count : a + m - a ≡ n = omega arith in ap (λ k. Edit (take k (drop a fs))) count

-- the boundary between what stands and what was undone, moved by one action either way
module _ (es : List Entry) (fs : List Flip) (s u : ℕ) (inside : s + u ≤ length es) where
  abbrev all : List Action
  all = read_all (take (s + u) es) fs

  pub back_standing : 0 < s → take (s - 1) (read_all (take (s - 1 + (u + 1)) es) fs) ≡ take (length (take s all) - 1) (take s all)
  back_standing some =
      let same : s - 1 + (u + 1) ≡ s + u = omega arith in
      ap (λ n. take (s - 1) (read_all (take n es) fs)) same
      ∙ sym (ap (λ n. take (n - 1) (take s all)) (count_standing es fs s u inside) ∙ take-take (s - 1) s all (omega arith))

  pub back_undone : 0 < s → drop (s - 1) (read_all (take (s - 1 + (u + 1)) es) fs) ≡ drop (length (take s all) - 1) (take s all) ++ drop s all
  back_undone some =
      let same : s - 1 + (u + 1) ≡ s + u = omega arith in
      let count = count_standing es fs s u inside in
      ap (λ n. drop (s - 1) (read_all (take n es) fs)) same
      ∙ ap (drop (s - 1)) (sym (take-append-drop s all))
      ∙ drop-append-le (s - 1) (take s all) (drop s all) (omega arith)
      ∙ ap (λ n. drop (n - 1) (take s all) ++ drop s all) (sym count)

  pub on_standing : 0 < u → take (s + 1) (read_all (take (s + 1 + (u - 1)) es) fs) ≡ take s all ++ take 1 (drop s all)
  on_standing some =
      let same : s + 1 + (u - 1) ≡ s + u = omega arith in
      ap (λ n. take (s + 1) (read_all (take n es) fs)) same ∙ take-add s 1 all

  pub on_undone : 0 < u → drop (s + 1) (read_all (take (s + 1 + (u - 1)) es) fs) ≡ drop 1 (drop s all)
  on_undone some =
      let same : s + 1 + (u - 1) ≡ s + u = omega arith in
      ap (λ n. drop (s + 1) (read_all (take n es) fs)) same ∙ sym (drop-drop 1 s all)

  pub stays_standing : u ≡ 0 → take s all ≡ take s all ++ take 1 (drop s all)
  stays_standing none = sym (ap (λ x. take s all ++ x) (sym (none_undone es fs s u inside none)) ∙ append-nil (take s all))

  pub stays_undone : u ≡ 0 → drop s all ≡ drop 1 (drop s all)
  stays_undone none =
      let empty : drop s all ≡ [] = undone_read es fs s u inside ∙ ap (λ n. read_all (take n (drop s es)) (drop (all_places (take s es)) fs)) none in
      empty ∙ sym (ap (drop 1) empty)
