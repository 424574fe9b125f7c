-- What an output holds after an error.
--     AppendsProperPrefix old new text   the bytes of an output, if they are known, grow by a proper prefix of the text, perhaps an empty one
--     OutputAfter e input old new        what the output holds after the error e, whether or not the input's bytes are known
use Rattle.std.specs.Prelude.{ℕ, ◌<◌, List, length, take, Option, IfSome}
use Rattle.std.specs.Io.KnownBytes.{Appends, Keeps}
use Rattle.job_texts.specs.Texts.{lab_text}
use Rattle.job_texts.specs.declared.carry.CarryError.{CarryError}
use Rattle.job_texts.specs.declared.carry.CarryError.TheVariants.{Read, OutOfMemory, Write}

abbrev pub AppendsProperPrefix : Option (List ℕ) → Option (List ℕ) → List ℕ → Type 0
AppendsProperPrefix old new text = (n : ℕ) × (n < length text) × Appends old new (take n text)

abbrev pub OutputAfter : CarryError → Option (List ℕ) → Option (List ℕ) → Option (List ℕ) → Type 0
OutputAfter (Read e) input old new = Keeps old new
OutputAfter OutOfMemory input old new = Keeps old new
OutputAfter (Write e) input old new = IfSome input (λ job. AppendsProperPrefix old new (lab_text job))
