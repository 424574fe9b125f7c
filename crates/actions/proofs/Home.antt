-- An action that is made and then taken back leaves the lattice as it was. Assumes nothing.
--     ByteMask f     the mask of f is a byte
--     ByteMasks a    so are the masks of all flips of the action a
use Rattle.std.proofs.Common.{◌≡◌, ℕ, zero, suc, ◌+◌, ◌*◌, ◌^◌, ◌<◌, ◌≤◌, ℤ, pos, negsuc, neg_ℤ, List, [], ◌∷◌, ◌++◌, length, reverse, map, set, get_or, bit_xor, refl, ap, ◌∙◌, ⊎_elim}
use Rattle.std.proofs.lemmas.Bool.{cases_lt, cases_eq}
use Rattle.std.proofs.lemmas.List.{get_or-set_same, get_or-set_other, set-set, set-get_or, set_past, reverse-append, map-append}
use Rattle.std.proofs.lemmas.List.Sums.{fold-append}
use Rattle.std.proofs.lemmas.Nat.{xor_lt}
use Rattle.std.specs.Int.Bits.{xor_assoc, xor_self, xor_zero_r}
use Rattle.std.specs.Bool.{⊤}
use Rattle.std.specs.List.{All}
use Rattle.std.proofs.lemmas.List.Elements.{All-head, All-tail}
use Rattle.lattice.specs.Lattice.{Lattice, Within, Bytes, with_cells}
use Rattle.lattice.specs.Maps.{Reversible}
use Rattle.lattice.proofs.Repeats.{repeated_within, repeated_undone}
use Rattle.actions.specs.Actions.{Action, Step, Edit, moved, made, reversed, all_made, home_of}
use Rattle.actions.specs.Flips.{flipped, all_flipped}
use Rattle.actions.specs.declared.flip.Flip.{Flip}

xor_twice : (c m : ℕ) → bit_xor (bit_xor c m) m ≡ c
xor_twice c m = xor_assoc c m m ∙ ap (bit_xor c) (xor_self m) ∙ xor_zero_r c

set_twice : (cs : List ℕ) (k m : ℕ) → set (set cs k (bit_xor (get_or cs k 0) m)) k (bit_xor (get_or (set cs k (bit_xor (get_or cs k 0) m)) k 0) m) ≡ cs
set_twice cs k m = ⊎_elim inside outside (cases_lt k (length cs))
  where
    inside : k < length cs → set (set cs k (bit_xor (get_or cs k 0) m)) k (bit_xor (get_or (set cs k (bit_xor (get_or cs k 0) m)) k 0) m) ≡ cs
    inside l =
        set-set cs k _ _
        ∙ ap (λ c. set cs k (bit_xor c m)) (get_or-set_same cs k (bit_xor (get_or cs k 0) m) 0 l)
        ∙ ap (set cs k) (xor_twice (get_or cs k 0) m)
        ∙ set-get_or cs k 0

    outside : length cs ≤ k → set (set cs k (bit_xor (get_or cs k 0) m)) k (bit_xor (get_or (set cs k (bit_xor (get_or cs k 0) m)) k 0) m) ≡ cs
    outside l =
        let once = set_past cs k (bit_xor (get_or cs k 0) m) l in
        set-set cs k _ _ ∙ set_past cs k _ l

pub flipped_twice : (f : Flip) (l : Lattice) → flipped f (flipped f l) ≡ l
flipped_twice f l = ap (with_cells l) (set_twice l.cells (f.row * l.width + f.col) f.mask)

pub all_flipped_back : (fs : List Flip) (l : Lattice) → all_flipped (reverse fs) (all_flipped fs l) ≡ l
all_flipped_back [] l = refl
all_flipped_back (f ∷ fs) l =
    ap (λ r. all_flipped r (all_flipped fs (flipped f l))) (reverse-append (f ∷ []) fs)
    ∙ fold-append (λ m x. flipped x m) (all_flipped fs (flipped f l)) (reverse fs) (f ∷ [])
    ∙ ap (flipped f) (all_flipped_back fs (flipped f l))
    ∙ flipped_twice f l

abbrev pub ByteMask : Flip → Type 0
ByteMask f = f.mask < 256

abbrev pub ByteMasks : Action → Type 0
ByteMasks (Step z) = ⊤
ByteMasks (Edit fs) = All ByteMask fs

flipped_bytes : (cs : List ℕ) (p m : ℕ) → m < 256 → Bytes cs → Bytes (set cs p (bit_xor (get_or cs p 0) m))
flipped_bytes cs p m small bytes k = ⊎_elim inside outside (cases_lt p (length cs))
  where
    outside : length cs ≤ p → get_or (set cs p (bit_xor (get_or cs p 0) m)) k 0 < 256
    outside l = rw (set_past cs p (bit_xor (get_or cs p 0) m) l) (bytes k)

    inside : p < length cs → get_or (set cs p (bit_xor (get_or cs p 0) m)) k 0 < 256
    inside l = ⊎_elim here (λ far. rw (get_or-set_other cs p k (bit_xor (get_or cs p 0) m) 0 far) (bytes k)) (cases_eq k p)
      where
        here : k ≡ p → get_or (set cs p (bit_xor (get_or cs p 0) m)) k 0 < 256
        here e =
            let b : get_or cs p 0 < 2 ^ 8 = bytes p in
            rw (e, get_or-set_same cs p (bit_xor (get_or cs p 0) m) 0 l) (xor_lt 8 (get_or cs p 0) m b small)

pub flipped_within : (f : Flip) (l : Lattice) → ByteMask f → Within l → Within (flipped f l)
flipped_within f l small w = record { wide = w.wide; high = w.high; area = w.area; phased = w.phased; bytes = flipped_bytes l.cells (f.row * l.width + f.col) f.mask small w.bytes }

pub all_flipped_within : (fs : List Flip) (l : Lattice) → All ByteMask fs → Within l → Within (all_flipped fs l)
all_flipped_within [] l sound w = w
all_flipped_within (f ∷ fs) l sound w = all_flipped_within fs (flipped f l) (All-tail ByteMask f fs sound) (flipped_within f l (All-head ByteMask f fs sound) w)

pub home_cons : (a : Action) (acts : List Action) → home_of (a ∷ acts) ≡ home_of acts ++ (reversed a ∷ [])
home_cons a acts = ap (map reversed) (reverse-append (a ∷ []) acts) ∙ map-append reversed (reverse acts) (a ∷ [])

module _ (f g : Lattice → Lattice) (laws : Reversible f g) where
  pub moved_within : (z : ℤ) (l : Lattice) → Within l → Within (moved f g z l)
  moved_within (pos n) l w = repeated_within f laws.forward_keeps n l w
  moved_within (negsuc n) l w = repeated_within g laws.backward_keeps (suc n) l w

  pub made_within : (a : Action) (l : Lattice) → ByteMasks a → Within l → Within (made f g a l)
  made_within (Step z) l sound w = moved_within z l w
  made_within (Edit fs) l sound w = all_flipped_within fs l sound w

  pub all_made_within : (acts : List Action) (l : Lattice) → All ByteMasks acts → Within l → Within (all_made f g acts l)
  all_made_within [] l sound w = w
  all_made_within (a ∷ acts) l sound w = all_made_within acts (made f g a l) (All-tail ByteMasks a acts sound) (made_within a l (All-head ByteMasks a acts sound) w)

  moved_back : (z : ℤ) (l : Lattice) → Within l → moved f g (neg_ℤ z) (moved f g z l) ≡ l
  moved_back (pos zero) l w = refl
  moved_back (pos (suc n)) l w = repeated_undone f g laws.forward_keeps laws.back_undoes_forward (suc n) l w
  moved_back (negsuc n) l w = repeated_undone g f laws.backward_keeps laws.forward_undoes_back (suc n) l w

  -- one action
  pub made_back : (a : Action) (l : Lattice) → Within l → made f g (reversed a) (made f g a l) ≡ l
  made_back (Step z) l w = moved_back z l w
  made_back (Edit fs) l w = all_flipped_back fs l

  -- several actions, of which the last is taken back first
  pub all_made_back : (acts : List Action) (l : Lattice) → All ByteMasks acts → Within l → all_made f g (home_of acts) (all_made f g acts l) ≡ l
  all_made_back [] l sound w = refl
  all_made_back (a ∷ acts) l sound w =
      let after = made f g a l in
      ap (λ h. all_made f g h (all_made f g acts after)) (home_cons a acts)
      ∙ fold-append (λ m x. made f g x m) (all_made f g acts after) (home_of acts) (reversed a ∷ [])
      ∙ ap (made f g (reversed a)) (all_made_back acts after (All-tail ByteMasks a acts sound) (made_within a l (All-head ByteMasks a acts sound) w))
      ∙ made_back a l w
