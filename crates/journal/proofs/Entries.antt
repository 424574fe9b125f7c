-- Actions as they are read from entries and places. Assumes nothing.
use Rattle.std.proofs.Common.{◌≡◌, ℕ, zero, suc, ◌+◌, ◌-◌, ◌≤◌, List, [], ◌∷◌, ◌++◌, length, take, drop, set, refl, sym, ap, ap₂, ◌∙◌, zero-add, arith}
use Rattle.std.proofs.lemmas.List.{length-drop, length-take-le, drop-drop, take-set-le, drop-set-add}
use Rattle.std.proofs.lemmas.List.Sums.{sum_by-append, sum_by-cons}
use Rattle.actions.specs.Actions.{Edit}
use Rattle.actions.specs.declared.flip.Flip.{Flip}
use Rattle.journal.specs.Views.{places, all_places, read, read_all}
use Rattle.journal.specs.declared.entry.Entry.{Entry}
use Rattle.journal.specs.declared.entry.Entry.TheVariants.{Step as StepEntry, Edit as EditEntry}
use Rattle.ledger.specs.Ledgers.{size, entries}

pub length_read_all : (es : List Entry) (fs : List Flip) → length (read_all es fs) ≡ length es
length_read_all [] fs = refl
length_read_all (e ∷ es) fs = ap suc (length_read_all es (drop (places e) fs))

pub places_cons : (e : Entry) (es : List Entry) → all_places (e ∷ es) ≡ places e + all_places es
places_cons e es = sum_by-append places (e ∷ []) es ∙ ap (λ k. k + all_places es) (zero-add (places e))

pub read_all_append : (es ds : List Entry) (fs : List Flip) → read_all (es ++ ds) fs ≡ read_all es fs ++ read_all ds (drop (all_places es) fs)
read_all_append [] ds fs = refl
read_all_append (e ∷ es) ds fs =
    ap (λ x. read e fs ∷ x) (read_all_append es ds (drop (places e) fs)
    ∙ ap (λ r. read_all es (drop (places e) fs) ++ read_all ds r) (drop-drop (all_places es) (places e) fs ∙ ap (λ k. drop k fs) (sym (places_cons e es))))

pub take_read_all : (k : ℕ) (es : List Entry) (fs : List Flip) → take k (read_all es fs) ≡ read_all (take k es) fs
take_read_all zero es fs = refl
take_read_all (suc k) [] fs = refl
take_read_all (suc k) (e ∷ es) fs = ap (λ x. read e fs ∷ x) (take_read_all k es (drop (places e) fs))

pub drop_read_all : (k : ℕ) (es : List Entry) (fs : List Flip) → drop k (read_all es fs) ≡ read_all (drop k es) (drop (all_places (take k es)) fs)
drop_read_all zero es fs = refl
drop_read_all (suc k) [] fs = refl
drop_read_all (suc k) (e ∷ es) fs =
    drop_read_all k es (drop (places e) fs)
    ∙ ap (read_all (drop k es)) (drop-drop (all_places (take k es)) (places e) fs ∙ ap (λ n. drop n fs) (sym (places_cons e (take k es))))

-- a place after those of the actions belongs to none of them
pub read_all_set : (es : List Entry) (fs : List Flip) (k : ℕ) (x : Flip) → all_places es ≤ k → read_all es (set fs k x) ≡ read_all es fs
read_all_set [] fs k x behind = refl
read_all_set (e ∷ es) fs k x behind =
    let split = places_cons e es in
    let first : places e ≤ k = omega arith in
    let there : k ≡ places e + (k - places e) = omega arith in
    let rest : all_places es ≤ k - places e = omega arith in
    ap₂ ◌∷◌ (read_set e fs k x first)
    (ap (λ j. read_all es (drop (places e) (set fs j x))) there
    ∙ ap (read_all es) (drop-set-add (places e) fs (k - places e) x)
    ∙ read_all_set es (drop (places e) fs) (k - places e) x rest)
  where
    read_set : (e : Entry) (fs : List Flip) (k : ℕ) (x : Flip) → places e ≤ k → read e (set fs k x) ≡ read e fs
    read_set (StepEntry z) fs k x behind = refl
    read_set (EditEntry n) fs k x behind = ap Edit (take-set-le n fs k x behind)

-- as many entries as there are places
pub entries_read : (es : List Entry) (fs : List Flip) → all_places es ≤ length fs → entries (read_all es fs) ≡ all_places es
entries_read [] fs room = refl
entries_read (e ∷ es) fs room =
    let split = places_cons e es in
    let len = length-drop (places e) fs in
    let rest : all_places es ≤ length (drop (places e) fs) = omega arith in
    let first : places e ≤ length fs = omega arith in
    sum_by-cons size (read e fs) (read_all es (drop (places e) fs))
    ∙ ap₂ ◌+◌ (size_read e fs first) (entries_read es (drop (places e) fs) rest)
    ∙ sym split
  where
    size_read : (e : Entry) (fs : List Flip) → places e ≤ length fs → size (read e fs) ≡ places e
    size_read (StepEntry z) fs room = refl
    size_read (EditEntry n) fs room = length-take-le n fs room
