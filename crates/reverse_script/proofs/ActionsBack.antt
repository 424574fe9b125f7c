-- Writing actions, the last one first. Assumes nothing.
use Rattle.std.proofs.Common.{◌≡◌, ℕ, ◌+◌, ◌-◌, ◌<◌, ◌≤◌, List, [], ◌∷◌, ◌++◌, length, take, drop, flat_map, refl, sym, ap, ◌∙◌, subst, arith}
use Rattle.std.proofs.lemmas.Grind.{flat_map-append}
use Rattle.std.proofs.lemmas.List.{length-append, length-take-le, length-drop, append-nil, append_assoc, take-append-drop, take-take, drop_at}
use Rattle.std.proofs.lemmas.List.Elements.{All-head, All-take, All-drop}
use Rattle.std.proofs.lemmas.List.Sums.{sum_by-append}
use Rattle.std.specs.List.{All}
use Rattle.actions.proofs.Home.{home_cons}
use Rattle.actions.specs.Actions.{Action, reversed, home_of}
use Rattle.journal.specs.Kept.{IsKept}
use Rattle.ledger.specs.Homes.{making, home_records, home_script}
use Rattle.ledger.specs.Ledgers.{size, entries}
use Rattle.scripts.specs.Records.{script_of, written}
use Rattle.text.proofs.Puts.{put_next}
use Rattle.text.specs.Puts.{put_at}

home_text : (a : Action) (acts : List Action) → home_script (a ∷ acts) ≡ home_script acts ++ script_of (making (reversed a))
home_text a acts =
    ap (λ x. script_of (flat_map making x)) (home_cons a acts)
    ∙ ap script_of (flat_map-append making (home_of acts) (reversed a ∷ []) ∙ ap (λ x. home_records acts ++ x) (append-nil (making (reversed a))))
    ∙ flat_map-append written (home_records acts) (making (reversed a))

-- `left` is the first part of all actions, and a is the last of that part
module _ (all left : List Action) (a : Action) (front : left ≡ take (length left) all) (fewer : length left ≤ length all) (last : a ∷ [] ≡ drop (length left - 1) left) where
  some : 0 < length left
  some = let len = length-drop (length left - 1) left in let one = ap length last in omega arith

  split : left ≡ take (length left - 1) left ++ (a ∷ [])
  split = sym (ap (λ x. take (length left - 1) left ++ x) last ∙ take-append-drop (length left - 1) left)

  pub count : length (take (length left - 1) left) ≡ length left - 1
  count = length-take-le (length left - 1) left (omega arith)

  pub still_front : take (length left - 1) left ≡ take (length (take (length left - 1) left)) all
  still_front = ap (take (length left - 1)) front ∙ take-take (length left - 1) (length left) all (omega arith) ∙ ap (λ n. take n all) (sym count)

  pub shorter : length (take (length left - 1) left) < length left
  shorter = let c = count in let s = some in omega arith

  back : drop (length (take (length left - 1) left)) all ≡ a ∷ drop (length left) all
  back =
      ap (drop (length (take (length left - 1) left))) (sym (take-append-drop (length left) all) ∙ ap (λ x. x ++ drop (length left) all) (sym front ∙ split) ∙ append_assoc (take (length left - 1) left) (a ∷ []) (drop (length left) all))
      ∙ drop_at (take (length left - 1) left) (a ∷ drop (length left) all) (length (take (length left - 1) left)) refl

  pub entries_split : entries left ≡ entries (take (length left - 1) left) + size a
  entries_split = ap entries split ∙ sum_by-append size (take (length left - 1) left) (a ∷ []) ∙ omega arith

  pub kept : All IsKept all → IsKept a
  kept valid =
      let front_kept : All IsKept left = subst (All IsKept) (sym front) (All-take IsKept (length left) all valid) in
      All-head IsKept a [] (subst (All IsKept) (sym last) (All-drop IsKept (length left - 1) left front_kept))

  more : home_script (drop (length (take (length left - 1) left)) all) ≡ home_script (drop (length left) all) ++ script_of (making (reversed a))
  more = ap home_script back ∙ home_text a (drop (length left) all)

  module _ (m now new : List ℕ) (end after : ℕ) (so_far : now ≡ put_at m 0 (home_script (drop (length left) all))) (place : end ≡ length (home_script (drop (length left) all)))
      (here : new ≡ put_at now end (script_of (making (reversed a)))) (next : after ≡ end + length (script_of (making (reversed a)))) where
    pub action_after : after ≡ length (home_script (drop (length (take (length left - 1) left)) all))
    action_after =
        let len = ap length more in
        let sum = length-append (home_script (drop (length left) all)) (script_of (making (reversed a))) in
        omega arith

    pub action_put : after ≤ length m → new ≡ put_at m 0 (home_script (drop (length (take (length left - 1) left)) all))
    action_put room =
        put_next m 0 (home_script (drop (length left) all)) (script_of (making (reversed a))) now new end so_far (omega (arith, place)) here (omega arith) ∙ ap (put_at m 0) (sym more)
