-- What an output gains while a text is written to it in parts. Assumes nothing.
use Rattle.std.proofs.Common.{◌≡◌, ℕ, ◌-◌, ◌<◌, List, ◌++◌, length, take, drop, Option, arith, sym, ◌∙◌, ap, subst, append_assoc, take-append-drop, length-append}
use Rattle.std.proofs.KnownBytes.{Appends-trans, Appends-kept}
use Rattle.std.proofs.lemmas.List.{take_rest}
use Rattle.std.specs.Io.KnownBytes.{Appends, Keeps}
use Rattle.job_texts.specs.Outputs.{AppendsProperPrefix}
use lib.Seq.{take-append_seam}

-- the text is written as far as what is left of it
pub record IsWrittenUpTo (old new : Option (List ℕ)) (text rest : List ℕ) : Type 0 where
  pub front : List ℕ
  pub whole : text ≡ front ++ rest
  pub gained : Appends old new front

pub one_part_more : (old mid new : Option (List ℕ)) (text rest : List ℕ) (n : ℕ) → IsWrittenUpTo old mid text rest → Appends mid new (take n rest) → IsWrittenUpTo old new text (take (length rest - n) (drop n rest))
one_part_more old mid new text rest n w taken = record {
  front = w.front ++ take n rest;
  whole = w.whole ∙ ap (λ l. w.front ++ l) (sym (take-append-drop n rest)) ∙ sym (append_assoc w.front (take n rest) (drop n rest)) ∙ ap (λ l. (w.front ++ take n rest) ++ l) (sym (take_rest rest n));
  gained = Appends-trans old mid new w.front (take n rest) w.gained taken;
}

pub not_all_written : (old mid new : Option (List ℕ)) (text rest : List ℕ) → 0 < length rest → IsWrittenUpTo old mid text rest → Keeps mid new → AppendsProperPrefix old new text
not_all_written old mid new text rest left w kept =
    let front : take (length w.front) text ≡ w.front = ap (take (length w.front)) w.whole ∙ take-append_seam w.front rest in
    (length w.front, omega (arith, left, ap length w.whole, length-append w.front rest), subst (Appends old new) (sym front) (Appends-kept old mid new w.front w.gained kept))
