-- A pass over all cells that replaces each by f of it. Assumes nothing.
use Rattle.std.proofs.Common.{◌≡◌, ℕ, ◌+◌, ◌<◌, ◌≤◌, List, ◌++◌, map, length, get_or, take, drop, set, ap, ◌∙◌}
use Rattle.std.proofs.lemmas.List.Edits.{map_over_more}
use Rattle.std.proofs.lemmas.List.{get_or_default, take_all, drop_all, append-nil}

module _ (f : ℕ → ℕ) (old : List ℕ) where
  -- the cells before place i are replaced
  abbrev pub PassedTo : ℕ → List ℕ → Type 0
  PassedTo i cs = cs ≡ map f (take i old) ++ drop i old

  pub pass_more : (i v : ℕ) (cs : List ℕ) → i < length old → i < length cs → PassedTo i cs → v ≡ f (get_or cs i 0) → PassedTo (i + 1) (set cs i v)
  pass_more i v cs old< cs< so_far is = ap (set cs i) is ∙ map_over_more f old cs i (get_or cs i 0) old< so_far (get_or_default cs i 0 (get_or cs i 0) cs<)

  pub pass_all : (i : ℕ) (cs : List ℕ) → length old ≤ i → PassedTo i cs → cs ≡ map f old
  pass_all i cs all so_far =
      let front = take_all i old all in
      let rest = drop_all i old all in
      so_far ∙ simp (front, rest, append-nil)
