-- Recording one more event. Assumes nothing.
use Rattle.std.proofs.Common.{◌≡◌, ℕ, zero, suc, ◌+◌, ◌<◌, ◌≤◌, List, [], ◌∷◌, ◌++◌, length, take, set, get_or, Some, refl, sym, ap, ap₂, ◌∙◌, arith, ⊎_elim}
use Rattle.std.proofs.lemmas.Bool.{cases_lt, cases_eq}
use Rattle.std.proofs.lemmas.List.{length-append, length-set, get_or-set_same, get_or-set_other, take-append-le, take_all}
use Rattle.std.proofs.lemmas.Option.{slice_get_past}
use Rattle.std.specs.Prelude.{slice_get}
use Rattle.lattice.specs.Lattice.{Lattice}
use Rattle.lives.specs.Lives.{seen_after}
use Rattle.lives.specs.Seen.{Recorded}
use Rattle.lives.specs.declared.event.Event.{Event}
use Rattle.lives.specs.declared.event.Seen.{Seen}

-- the events before the last one, and the last one
get_before : (es : List Event) (e : Event) (k : ℕ) → k < length es → slice_get (es ++ (e ∷ [])) k ≡ slice_get es k
get_before [] e k k< = absurd (omega arith)
get_before (x ∷ es) e zero k< = refl
get_before (x ∷ es) e (suc k) k< = get_before es e k (omega arith)

get_last : (es : List Event) (e : Event) → slice_get (es ++ (e ∷ [])) (length es) ≡ Some e
get_last [] e = refl
get_last (x ∷ es) e = get_last es e

module _ (f g : Lattice → Lattice) (l : Lattice) (n : ℕ) where
  pub none_recorded : (old : List Seen) → Recorded f g l n [] old old
  none_recorded old = record { count = refl; replies = λ k e s k< is. absurd cc; others = λ k s past. refl }

  module _ (es : List Event) (e : Event) (old now : List Seen) (so_far : Recorded f g l n es old now) where
    len : length (es ++ (e ∷ [])) ≡ length es + 1
    len = length-append es (e ∷ [])

    -- there is no place left
    pub recorded_past : length now ≤ length es → Recorded f g l n (es ++ (e ∷ [])) old now
    recorded_past past = record {
      count = so_far.count;
      replies = λ k x s k< is.
          let count = so_far.count in
          let before : k < length es = omega arith in
          so_far.replies k x s k< (sym (get_before es e k before) ∙ is) ∙ ap (λ t. seen_after f g l n t x) (sym (take-append-le k es (e ∷ []) (omega arith)));
      others = λ k s behind. let a = len in so_far.others k s (omega arith);
    }

    -- the report is in its place
    pub recorded_here : length es < length now → Recorded f g l n (es ++ (e ∷ [])) old (set now (length es) (seen_after f g l n es e))
    recorded_here here = record {
      count = length-set now (length es) (seen_after f g l n es e) ∙ so_far.count;
      replies = λ k x s k< is. ⊎_elim (before k x s k< is) (at k x s k< is) (cases_lt k (length es));
      others = λ k s behind.
          let a = len in
          get_or-set_other now (length es) k (seen_after f g l n es e) s (λ same. let b = ap (λ i. i) same in omega arith) ∙ so_far.others k s (omega arith);
    }
      where
        before : (k : ℕ) (x : Event) (s : Seen) → k < length old → slice_get (es ++ (e ∷ [])) k ≡ Some x → k < length es → get_or (set now (length es) (seen_after f g l n es e)) k s ≡ seen_after f g l n (take k (es ++ (e ∷ []))) x
        before k x s k< is b =
            get_or-set_other now (length es) k (seen_after f g l n es e) s (λ same. let c = ap (λ i. i) same in omega arith)
            ∙ so_far.replies k x s k< (sym (get_before es e k b) ∙ is) ∙ ap (λ t. seen_after f g l n t x) (sym (take-append-le k es (e ∷ []) (omega arith)))

        at : (k : ℕ) (x : Event) (s : Seen) → k < length old → slice_get (es ++ (e ∷ [])) k ≡ Some x → length es ≤ k → get_or (set now (length es) (seen_after f g l n es e)) k s ≡ seen_after f g l n (take k (es ++ (e ∷ []))) x
        at k x s k< is b = ⊎_elim last past (cases_eq k (length es))
          where
            past : (k ≡ length es → ⊥) → get_or (set now (length es) (seen_after f g l n es e)) k s ≡ seen_after f g l n (take k (es ++ (e ∷ []))) x
            past other = let c = slice_get_past (es ++ (e ∷ [])) k (omega (arith, len)) in absurd cc

            last : k ≡ length es → get_or (set now (length es) (seen_after f g l n es e)) k s ≡ seen_after f g l n (take k (es ++ (e ∷ []))) x
            last same =
                let mine : Some e ≡ Some x = sym (get_last es e) ∙ ap (slice_get (es ++ (e ∷ []))) (sym same) ∙ is in
                let eq : e ≡ x = cc in
                let front : take k (es ++ (e ∷ [])) ≡ es = take-append-le k es (e ∷ []) (omega arith) ∙ take_all k es (omega arith) in
                ap (λ j. get_or (set now (length es) (seen_after f g l n es e)) j s) same
                ∙ get_or-set_same now (length es) (seen_after f g l n es e) s here
                ∙ ap₂ (seen_after f g l n) (sym front) eq
