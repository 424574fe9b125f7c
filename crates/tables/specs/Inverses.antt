-- A list that is undone by another.
--     InvertedBy n t u     for each v below n, entry v of t is some e below n, and entry e of u is v
use Rattle.std.specs.Prelude.{◌≡◌, ℕ, ◌<◌, List, slice_index}

abbrev pub InvertedBy : ℕ → List ℕ → List ℕ → Type 0
InvertedBy n t u = (v : ℕ) → v < n → (slice_index t v < n) × (slice_index u (slice_index t v) ≡ v)
