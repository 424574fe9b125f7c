-- Tables of a rule's values. Assumes nothing.
use Rattle.std.proofs.Common.{◌≡◌, ℕ, ◌<◌, List, map, get_or, replicate, ap, ◌∙◌, zero-add, arith}
use mathlib.Core.Path.{subst⁻¹}
use Rattle.std.proofs.lemmas.List.FromFn.{get_or-map-range_with_len}
use Rattle.std.proofs.lemmas.List.{get_or-replicate}
use Rattle.std.specs.List.{range_with_len}
use Rattle.rules.specs.Bits.{AllBits}
use Rattle.rules.specs.Limits.{neighbourhoods}
use Rattle.rules.specs.Rules.{Binary, count_answer, entry_of, life, SameAnswers}

-- a table that was computed to be that of f, entry by entry, has the values of f
pub entries_answer : (f : ℕ → ℕ) (es : List ℕ) → es ≡ map f (range_with_len 0 neighbourhoods) → SameAnswers (λ n. get_or es n 0) f
entries_answer f es all n h = ap (λ t. get_or t n 0) all ∙ get_or-map-range_with_len f 0 neighbourhoods n n 0 h (zero-add n)

count_binary : (b s : ℕ) → Binary (count_answer b s)
count_binary b s n h = omega arith

-- a table with the values of a rule has bits alone
pub entries_bits : (f : ℕ → ℕ) (es : List ℕ) → Binary f → SameAnswers (entry_of es) f → AllBits es
entries_bits f es binary same n h = let e = same n h in let b = binary n h in omega arith

pub life_bits : (es : List ℕ) → SameAnswers (entry_of es) life → AllBits es
life_bits es = entries_bits life es (count_binary 8 12)

pub zeros_bits : AllBits (replicate neighbourhoods 0)
zeros_bits n h = subst⁻¹ (λ (e : ℕ). e < 2) (get_or-replicate neighbourhoods n 0 0 h) (omega arith)
