-- The first line of a board, by its four fields. Assumes nothing.
use Rattle.std.proofs.Common.{◌≡◌, ℕ, List, [], ◌∷◌, true, Result, refl, sym, subst, codes}
use Rattle.std.specs.Str.{bytes_eq}
use Rattle.faults.specs.declared.record.RecordFault.{RecordFault}
use Rattle.lattice.specs.Lattice.{Lattice}
use Rattle.lattice.specs.declared.start.Start.{Start}
use Rattle.text.specs.Fields.{bytes_of}
use Rattle.text.specs.FieldsOfLines.{Stands, HasFields, StandsFrom}
use Rattle.text.specs.declared.field.Field.{Field}
use Rattle.text.specs.declared.line.Line.{Line}
use Rattle.text.specs.declared.line.Line.TheVariants.{Four}
use Rattle.boards.specs.Reading.{numbers_at, start_at}
use Rattle.boards.specs.Steps.{StartIs}

pub start_of_four : (l : Line) (a b c d : Field) (n : ℕ) (fs : List (List ℕ)) (r : Result Start RecordFault) → l ≡ Four a b c d → HasFields l fs → StandsFrom l n 1 → bytes_eq (bytes_of a) (codes "board") ≡ true → ((m : ℕ) → Stands b m 2 → Stands c m 3 → Stands d m 4 → StartIs (numbers_at m (bytes_of b) (bytes_of c) (bytes_of d)) r) → StartIs (start_at n fs) r
start_of_four l a b c d n fs r is has stands word made =
    let has' : HasFields (Four a b c d) fs = subst (λ (k : Line). HasFields k fs) is has in
    let stands' : StandsFrom (Four a b c d) n 1 = subst (λ (k : Line). StandsFrom k n 1) is stands in
    let at : start_at n (bytes_of a ∷ bytes_of b ∷ bytes_of c ∷ bytes_of d ∷ []) ≡ numbers_at n (bytes_of b) (bytes_of c) (bytes_of d) = rw word refl in
    subst (λ (gs : List (List ℕ)). StartIs (start_at n gs) r) (sym has') (subst (λ (x : Result Lattice RecordFault). StartIs x r) (sym at) (made n stands'.1 stands'.2 stands'.3))
