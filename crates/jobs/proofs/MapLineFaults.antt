-- What is wrong with a map line: the answer is the first cause, and the first cause is the answer. Assumes nothing.
use Rattle.std.proofs.Common.{◌≡◌, ℕ, ◌<◌, List, [], ◌∷◌, length, codes, slice_index_or, None, Some, Option, Ok, Err, Result, refl, sym, ◌∙◌, ap, subst}
use Rattle.boards.proofs.LineFaults.{line_fault, line_refused}
use Rattle.faults.specs.declared.record.RecordFault.{RecordFault}
use Rattle.faults.specs.declared.record.RecordFault.TheVariants.{UnknownMap}
use Rattle.named_maps.specs.Choice.{name_of, map_named}
use Rattle.named_maps.specs.declared.named.NamedMap.{NamedMap}
use Rattle.named_maps.specs.declared.named.NamedMap.TheVariants.{Bbm, Critters, Tron, Life2, Mixed}
use Rattle.text.proofs.Arguments.{one_arg}
use Rattle.jobs.proofs.MapLineLaws.{name_was}
use Rattle.jobs.specs.Faults.{NameFault, MapLineFault}
use Rattle.jobs.specs.Jobs.{named_at, map_at}

name_taken : (m : NamedMap) → map_named (name_of m) ≡ Some m
name_taken Bbm = refl
name_taken Critters = refl
name_taken Tron = refl
name_taken Life2 = refl
name_taken Mixed = refl

name_fault_at : (n : ℕ) (v bs : List ℕ) (e : RecordFault) (o : Option NamedMap) → map_named bs ≡ o → named_at n bs ≡ Err e → NameFault n (v ∷ bs ∷ []) e
name_fault_at n v bs e None none is =
    let is' : named_at n bs ≡ Err (UnknownMap n) = rw none refl in
    let same : UnknownMap n ≡ e = cc (is, is') in
    subst (NameFault n (v ∷ bs ∷ [])) same (refl, λ m name. let some : map_named bs ≡ Some m = ap map_named name ∙ name_taken m in absurd cc)
name_fault_at n v bs e (Some m) some is = let is' : named_at n bs ≡ Ok m = rw some refl in absurd (cc (is, is'))

name_fault : (n : ℕ) (v bs : List ℕ) (e : RecordFault) → named_at n bs ≡ Err e → NameFault n (v ∷ bs ∷ []) e
name_fault n v bs e is = name_fault_at n v bs e (map_named bs) refl is

no_name_at : (n : ℕ) (bs : List ℕ) (o : Option NamedMap) → map_named bs ≡ o → ((m : NamedMap) → bs ≡ name_of m → ⊥) → named_at n bs ≡ Err (UnknownMap n)
no_name_at n bs None is none = rw is refl
no_name_at n bs (Some m) is none = absurd (none m (name_was bs m is))

name_refused : (n : ℕ) (v bs : List ℕ) (e : RecordFault) → NameFault n (v ∷ bs ∷ []) e → named_at n bs ≡ Err e
name_refused n v bs (UnknownMap i) f = no_name_at n bs (map_named bs) refl f.1 ∙ ap (λ j. Err (UnknownMap j)) (sym f.0)
name_refused n v bs e f = absurd f

abbrev by_name : ℕ → List (List ℕ) → Result NamedMap RecordFault
by_name n args = named_at n (slice_index_or args 0 [])

one_fault : (n : ℕ) (v : List ℕ) (args : List (List ℕ)) (e : RecordFault) → length args ≡ 1 → by_name n args ≡ Err e → NameFault n (v ∷ args) e
one_fault n v args e len = let t = one_arg args len in subst (λ (xs : List (List ℕ)). by_name n xs ≡ Err e → NameFault n (v ∷ xs) e) (sym t.1) (name_fault n v t.0 e)

one_refused : (n : ℕ) (v : List ℕ) (args : List (List ℕ)) (e : RecordFault) → length args ≡ 1 → NameFault n (v ∷ args) e → by_name n args ≡ Err e
one_refused n v args e len = let t = one_arg args len in subst (λ (xs : List (List ℕ)). NameFault n (v ∷ xs) e → by_name n xs ≡ Err e) (sym t.1) (name_refused n v t.0 e)

pub map_line_fault : (n : ℕ) (fs : List (List ℕ)) (e : RecordFault) → map_at n fs ≡ Err e → MapLineFault n fs e
map_line_fault n fs e is = line_fault (codes "map") 1 NameFault n (by_name n) fs e (λ x. absurd cc) (λ gs i f. f) (λ gs i f. f) (λ v args len wrong. one_fault n v args e len wrong) is

pub map_line_refused : (n : ℕ) (fs : List (List ℕ)) (e : RecordFault) → 0 < length fs → MapLineFault n fs e → map_at n fs ≡ Err e
map_line_refused n fs e some f = line_refused (codes "map") 1 NameFault n (by_name n) fs e some (λ v args len wrong. one_refused n v args e len wrong) f
