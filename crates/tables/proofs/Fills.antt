-- A fill with a permutation is not refused. Assumes nothing.
use Rattle.std.proofs.Common.{◌≡◌, ℕ, List, length, get_or, refl, ap, arith}
use Rattle.std.specs.Prelude.{Result, Ok, Err, IsOk}
use Rattle.tables.specs.Inverses.{InvertedBy}
use Rattle.tables.specs.Refusals.{Filled}
use Rattle.tables.specs.declared.refusal.TableRefusal.{TableRefusal}
use Rattle.tables.specs.declared.refusal.TableRefusal.TheVariants.{Entries, TooLarge, Repeated, UnknownName}

pub permutation_fills : (n : ℕ) (es back new : List ℕ) (same : Type 0) (r : Result Unit TableRefusal) → length es ≡ n → InvertedBy n es back → Filled n es new same r → IsOk r
permutation_fills n es back new same (Ok _) long inverted f = refl
permutation_fills n es back new same (Err Entries) long inverted f = absurd (f.0 long)
permutation_fills n es back new same (Err TooLarge) long inverted f = absurd (let large = f.0.1 in let small = inverted large.0 (omega arith) in omega arith)
permutation_fills n es back new same (Err Repeated) long inverted f =
    let again = f.0.2 in
    let first = inverted again.0 (omega arith) in
    let second = inverted again.1 (omega arith) in
    absurd (let e = ap (λ v. get_or back v 0) again.4 in omega arith)
permutation_fills n es back new same (Err UnknownName) long inverted f = absurd f.0
