-- Of a job that is too long, the bytes after the first one beyond the limit do not matter. Assumes nothing.
use Rattle.std.proofs.Common.{◌≡◌, ℕ, ◌+◌, ◌≤◌, ◌<◌, Bool, true, false, List, [], ◌++◌, length, take, leb, Some, None, Option, Err, IfSome, arith, refl, sym, ◌∙◌, ap, ap₂, subst}
use Rattle.std.proofs.lemmas.Bool.{leb-true, leb-false, lt-leb}
use Rattle.std.proofs.lemmas.List.{take_all, length-take-le}
use Rattle.std.specs.Io.Take.{take_limit, take_inner, take_remaining}
use Rattle.std.specs.Option.{option_map}
use Rattle.std.specs.declared.io.traits.Take.{Take}
use Rattle.faults.specs.declared.record.RecordFault.TheVariants.{TooLong}
use Rattle.jobs.specs.Jobs.{job}
use Rattle.lattice.specs.Limits.{max_area}
use Rattle.text.specs.Wholes.{max_text}
use Rattle.job_texts.specs.Texts.{printed_by, lab_text}

too_long : (k : ℕ) (bs : List ℕ) → max_text < length bs → job k bs ≡ Err TooLong
too_long k bs long = rw (lt-leb (length bs) max_text long) refl

cut_at : (k : ℕ) (bs : List ℕ) (short : Bool) → leb (length bs) max_text ≡ short → job k (take (max_text + 1) bs) ≡ job k bs
cut_at k bs true is = let room : length bs ≤ max_text + 1 = omega (arith, leb-true (length bs) max_text is) in ap (job k) (take_all (max_text + 1) bs room)
cut_at k bs false is =
    let long : max_text < length bs = leb-false (length bs) max_text is in
    let len : length (take (max_text + 1) bs) ≡ max_text + 1 = length-take-le (max_text + 1) bs (omega (arith, long)) in
    too_long k (take (max_text + 1) bs) (omega (arith, len)) ∙ sym (too_long k bs long)

pub cut : (bs : List ℕ) → lab_text (take (max_text + 1) bs) ≡ lab_text bs
cut bs = ap printed_by (cut_at max_area bs (leb (length bs) max_text) refl)

-- what holds of the text that is printed for what is read of a job, holds of the text for all of the job
pub printed_for_all : (P : List ℕ → Type 0) (input : Option (List ℕ)) (v text : List ℕ) → IfSome input (λ bs. v ≡ take (max_text + 1) bs) → text ≡ lab_text v → P text → IfSome input (λ bs. P (lab_text bs))
printed_for_all P None v text read made holds = tt
printed_for_all P (Some bs) v text read made holds = subst P (made ∙ ap lab_text read ∙ cut bs) holds

-- what is read, up to a limit, of the bytes that are left
limited : (left : Option (List ℕ)) (s v : List ℕ) (m n : ℕ) → s ≡ [] → m ≡ n → IfSome (option_map (take m) left) (λ xs. v ≡ s ++ xs) → IfSome left (λ bs. v ≡ take n bs)
limited None s v m n empty limit read = tt
limited (Some bs) s v m n empty limit read = read ∙ ap₂ (λ l k. l ++ take k bs) empty limit

pub read_up_to : {R : Type 0} (left : R → Option (List ℕ)) (input : R) (n : ℕ) (t : Take R) (s v : List ℕ) → s ≡ [] → take_limit t ≡ n → take_inner t ≡ input → IfSome (take_remaining left t) (λ xs. v ≡ s ++ xs) → IfSome (left input) (λ bs. v ≡ take n bs)
read_up_to left input n t s v empty limit inner read = subst (λ i. IfSome (left i) (λ bs. v ≡ take n bs)) inner (limited (left (take_inner t)) s v (take_limit t) n empty limit read)
