-- There is one undoing action for each action that is undone, and their clock is the opposite. Assumes nothing.
use Rattle.std.proofs.Common.{◌≡◌, ℕ, ℤ, pos, neg_ℤ, List, [], ◌∷◌, length, reverse, fold, refl, sym, ap, ap₂, ◌∙◌, subst, arith}
use Rattle.std.proofs.Math.IntN.{neg_ℤ-+ℤ, +ℤ_assoc, +ℤ_comm, +ℤ_idl, +ℤ_idr}
use Rattle.std.specs.Prelude.{◌+ℤ◌}
use Rattle.std.proofs.lemmas.List.{length-map, length-reverse, reverse-append}
use Rattle.std.proofs.lemmas.List.Elements.{All-nil, All-head, All-tail, All-push}
use Rattle.std.proofs.lemmas.List.Sums.{fold-append, sum_by-append, sum_by-cons}
use Rattle.std.specs.List.{All}
use Rattle.actions.proofs.Home.{home_cons}
use Rattle.actions.specs.Actions.{Action, Step, Edit, reversed, home_of}
use Rattle.actions.specs.declared.flip.Flip.{Flip}
use Rattle.ledger.proofs.Mirrored.{abs_neg}
use Rattle.ledger.proofs.Sound.{ActionOn, FlipOn}
use Rattle.ledger.specs.Ledgers.{size, entries, ticks, clock_of}

pub home_length : (acts : List Action) → length (home_of acts) ≡ length acts
home_length acts = length-map (reverse acts) reversed ∙ length-reverse acts

same_size : (a : Action) → size (reversed a) ≡ size a
same_size (Step z) = refl
same_size (Edit fs) = length-reverse fs

pub home_entries : (acts : List Action) → entries (home_of acts) ≡ entries acts
home_entries [] = refl
home_entries (a ∷ acts) =
    let there = sum_by-append size (home_of acts) (reversed a ∷ []) in
    let here = sum_by-cons size a acts in
    let one = same_size a in
    let rest = home_entries acts in
    ap entries (home_cons a acts) ∙ there ∙ omega arith

-- the clock can be added up from any start
sum_from : (t : ℤ) (acts : List Action) → fold (λ s a. s +ℤ ticks a) t acts ≡ t +ℤ clock_of acts
sum_from t [] = sym (+ℤ_idr t)
sum_from t (a ∷ acts) =
    sum_from (t +ℤ ticks a) acts
    ∙ +ℤ_assoc t (ticks a) (clock_of acts)
    ∙ ap (λ s. t +ℤ s) (ap (λ s. s +ℤ clock_of acts) (sym (+ℤ_idl (ticks a))) ∙ sym (sum_from (pos 0 +ℤ ticks a) acts))

neg_ticks : (a : Action) → ticks (reversed a) ≡ neg_ℤ (ticks a)
neg_ticks (Step z) = refl
neg_ticks (Edit fs) = refl

pub home_clock : (acts : List Action) → clock_of (home_of acts) ≡ neg_ℤ (clock_of acts)
home_clock [] = refl
home_clock (a ∷ acts) =
    ap clock_of (home_cons a acts)
    ∙ fold-append (λ s x. s +ℤ ticks x) (pos 0) (home_of acts) (reversed a ∷ [])
    ∙ ap₂ ◌+ℤ◌ (home_clock acts) (neg_ticks a)
    ∙ +ℤ_comm (neg_ℤ (clock_of acts)) (neg_ℤ (ticks a))
    ∙ sym (neg_ℤ-+ℤ (ticks a) (clock_of acts))
    ∙ ap neg_ℤ (ap (λ s. s +ℤ clock_of acts) (sym (+ℤ_idl (ticks a))) ∙ sym (sum_from (pos 0 +ℤ ticks a) acts))

reversed_flips_on : (w h : ℕ) (fs : List Flip) → All (FlipOn w h) fs → All (FlipOn w h) (reverse fs)
reversed_flips_on w h [] on = All-nil (FlipOn w h)
reversed_flips_on w h (f ∷ fs) on = subst (All (FlipOn w h)) (sym (reverse-append (f ∷ []) fs)) (All-push (FlipOn w h) (reverse fs) f (reversed_flips_on w h fs (All-tail (FlipOn w h) f fs on)) (All-head (FlipOn w h) f fs on))

reversed_on : (w h : ℕ) (a : Action) → ActionOn w h a → ActionOn w h (reversed a)
reversed_on w h (Step z) on = let same = abs_neg z in (omega (arith, on.0), omega (arith, on.1))
reversed_on w h (Edit fs) on = let len = length-reverse fs in (reversed_flips_on w h fs on.0, omega (arith, on.1))

pub home_on : (w h : ℕ) (acts : List Action) → All (ActionOn w h) acts → All (ActionOn w h) (home_of acts)
home_on w h [] on = All-nil (ActionOn w h)
home_on w h (a ∷ acts) on =
    subst (All (ActionOn w h)) (sym (home_cons a acts)) (All-push (ActionOn w h) (home_of acts) (reversed a) (home_on w h acts (All-tail (ActionOn w h) a acts on)) (reversed_on w h a (All-head (ActionOn w h) a acts on)))
