-- Booking an action after those that stand. Assumes nothing.
use Rattle.std.proofs.Common.{◌≡◌, ℕ, ◌+◌, ◌<◌, ◌≤◌, List, [], ◌∷◌, ◌++◌, length, take, drop, set, sym, ap, ◌∙◌, arith, subst}
use Rattle.std.proofs.lemmas.Grind.{take-set_at}
use Rattle.std.proofs.lemmas.List.{length-take-le, length-drop, drop-set-add, take_more_set, length-append, take-take, take_all, drop_all}
use Rattle.std.proofs.lemmas.List.Elements.{All-head, All-tail, All-push, All-take}
use Rattle.std.proofs.lemmas.List.Sums.{sum_by-append, sum_by-take-le}
use Rattle.std.specs.List.{All}
use Rattle.actions.specs.declared.flip.Flip.{Flip}
use Rattle.journal.proofs.Entries.{places_cons, read_all_set, read_all_append, length_read_all, entries_read}
use Rattle.journal.proofs.Standing.{standing_read, count_standing, count_undone}
use Rattle.journal.specs.Views.{places, all_places, read, read_all, IsEntry}
use Rattle.journal.specs.declared.entry.Entry.{Entry}
use Rattle.ledger.specs.Ledgers.{entries}

at_least : (es : List Entry) → All IsEntry es → length es ≤ all_places es
at_least [] valid = omega arith
at_least (e ∷ es) valid =
    let split = places_cons e es in
    let first : 0 < places e = All-head IsEntry e es valid in
    let rest = at_least es (All-tail IsEntry e es valid) in
    omega arith

module _ (es : List Entry) (fs : List Flip) (s u : ℕ) (inside : s + u ≤ length es) (valid : All IsEntry (take (s + u) es)) where
  front : All IsEntry (take s es)
  front = subst (All IsEntry) (take-take s (s + u) es (omega arith)) (All-take IsEntry s (take (s + u) es) valid)

  -- each action takes at least one place
  pub fewer_than_places : s ≤ all_places (take s es)
  fewer_than_places = let len = length-take-le s es (omega arith) in omega (arith, at_least (take s es) front)

  -- the entries in use
  pub entries_standing : all_places (take s es) ≤ length fs → entries (take s (read_all (take (s + u) es) fs)) ≡ all_places (take s es)
  entries_standing room = ap entries (standing_read es fs s u inside) ∙ entries_read (take s es) fs room

  -- e is written after the actions that stand
  module _ (e : Entry) (some : s < length es) where
    new_front : (n : ℕ) → n ≡ s + 1 → take n (set es s e) ≡ take s es ++ (e ∷ [])
    new_front n is = take-set_at es s n e is some

    pub new_valid : (n : ℕ) → n ≡ s + 1 → IsEntry e → All IsEntry (take n (set es s e))
    new_valid n is v = subst (All IsEntry) (sym (new_front n is)) (All-push IsEntry (take s es) e front v)

    pub new_places : (n : ℕ) → n ≡ s + 1 → all_places (take n (set es s e)) ≡ all_places (take s es) + places e
    new_places n is = ap all_places (new_front n is) ∙ sum_by-append places (take s es) (e ∷ []) ∙ omega arith

    new_all : (n : ℕ) → n ≡ s + 1 → read_all (take n (set es s e)) fs ≡ take s (read_all (take (s + u) es) fs) ++ (read e (drop (all_places (take s es)) fs) ∷ [])
    new_all n is =
        ap (λ x. read_all x fs) (new_front n is) ∙ read_all_append (take s es) (e ∷ []) fs
        ∙ ap (λ x. x ++ (read e (drop (all_places (take s es)) fs) ∷ [])) (sym (standing_read es fs s u inside))

    new_length : (n : ℕ) → n ≡ s + 1 → length (read_all (take n (set es s e)) fs) ≡ s + 1
    new_length n is =
        let count = count_standing es fs s u inside in
        ap length (new_all n is) ∙ length-append (take s (read_all (take (s + u) es) fs)) (read e (drop (all_places (take s es)) fs) ∷ []) ∙ omega arith

    pub new_standing : (n : ℕ) → n ≡ s + 1 → take (s + 1) (read_all (take n (set es s e)) fs) ≡ take s (read_all (take (s + u) es) fs) ++ (read e (drop (all_places (take s es)) fs) ∷ [])
    new_standing n is =
        let len = new_length n is in
        take_all (s + 1) _ (omega arith) ∙ new_all n is

    pub new_undone : (n : ℕ) → n ≡ s + 1 → drop (s + 1) (read_all (take n (set es s e)) fs) ≡ []
    new_undone n is = let len = new_length n is in drop_all (s + 1) _ (omega arith)

-- the actions that stand take no more places than all of them together
pub standing_places : (es : List Entry) (fs : List Flip) (s u : ℕ) → s + u ≤ length es → all_places (take s es) ≤ all_places (take (s + u) es)
standing_places es fs s u inside =
    let fewer = sum_by-take-le places (take (s + u) es) s in
    let same = ap all_places (take-take s (s + u) es (omega arith)) in
    omega arith

-- forgetting the actions that were undone
module _ (es : List Entry) (fs : List Flip) (s u : ℕ) (inside : s + u ≤ length es) where
  pub forgotten_valid : All IsEntry (take (s + u) es) → All IsEntry (take (s + 0) es)
  forgotten_valid valid = subst (All IsEntry) (take-take (s + 0) (s + u) es (omega arith)) (All-take IsEntry (s + 0) (take (s + u) es) valid)

  pub forgotten_places : all_places (take (s + u) es) ≤ 256 → all_places (take (s + 0) es) ≤ 256
  forgotten_places room =
      let fewer = sum_by-take-le places (take (s + u) es) (s + 0) in
      let same = ap all_places (take-take (s + 0) (s + u) es (omega arith)) in
      omega arith

  pub forgotten_standing : take s (read_all (take (s + 0) es) fs) ≡ take s (read_all (take (s + u) es) fs)
  forgotten_standing = standing_read es fs s 0 (omega arith) ∙ sym (standing_read es fs s u inside)

  pub forgotten_undone : drop s (read_all (take (s + 0) es) fs) ≡ []
  forgotten_undone = let len = length_read_all (take (s + 0) es) fs in let count = length-take-le (s + 0) es (omega arith) in drop_all s _ (omega arith)

-- writing a flip after the places of what stands, where nothing is undone
module _ (es : List Entry) (fs : List Flip) (s u k : ℕ) (x : Flip) (inside : s + u ≤ length es) (behind : all_places (take s es) ≤ k) where
  pub put_all : drop s (read_all (take (s + u) es) fs) ≡ [] → read_all (take (s + u) es) (set fs k x) ≡ read_all (take (s + u) es) fs
  put_all none =
      let count = count_undone es fs s u inside in
      let empty = ap length none in
      let same : s + u ≡ s = omega arith in
      ap (λ n. read_all (take n es) (set fs k x)) same ∙ read_all_set (take s es) fs k x behind ∙ ap (λ n. read_all (take n es) fs) (sym same)

pub put_place : (fs : List Flip) (used at : ℕ) (x : Flip) → used + at < length fs → take (at + 1) (drop used (set fs (used + at) x)) ≡ take at (drop used fs) ++ (x ∷ [])
put_place fs used at x inside =
    let len = length-drop used fs in
    ap (take (at + 1)) (drop-set-add used fs at x) ∙ take_more_set (drop used fs) at x (omega arith)
