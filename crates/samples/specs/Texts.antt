-- What is printed: numbers in decimal, separated by spaces.
--     spaced a b        a, a space, and b
--     digest_text d     the sum and the phase of the digest d
--     outcome_text o    the three digests of the outcome o, and `home` or `lost`
--     line_text l       the line l: kind, name, columns, rows and phase of the opening, and the outcome
use Rattle.std.specs.Prelude.{ℕ, List, ◌++◌, if◌then◌else◌, codes}
use Rattle.std.specs.Fmt.{decimal}
use Rattle.lattice.specs.Starts.{width_of, height_of, phase_of}
use Rattle.samples.specs.declared.outcome.Digest.{Digest}
use Rattle.samples.specs.declared.outcome.Outcome.{Outcome}
use Rattle.samples.specs.declared.line.Line.{Line}

abbrev pub spaced : List ℕ → List ℕ → List ℕ
spaced a b = a ++ codes " " ++ b

abbrev pub digest_text : Digest → List ℕ
digest_text d = spaced (decimal d.sum) (decimal d.phase)

abbrev pub outcome_text : Outcome → List ℕ
outcome_text o = spaced (digest_text o.one) (spaced (digest_text o.ten) (spaced (digest_text o.back) (if o.home then codes "home" else codes "lost")))

abbrev pub line_text : Line → List ℕ
line_text l =
    spaced l.kind.now (spaced l.name.now (spaced (decimal (width_of l.opening)) (spaced (decimal (height_of l.opening)) (spaced (decimal (phase_of l.opening)) (outcome_text l.outcome)))))
