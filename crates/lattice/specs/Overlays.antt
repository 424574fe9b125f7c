-- Bytes that are copied over others.
--     laid_over xs ys     ys after xs is copied over its beginning, as much of it as fits
use Rattle.std.specs.Prelude.{ℕ, List, ◌++◌, length, take, drop}

abbrev pub laid_over : List ℕ → List ℕ → List ℕ
laid_over xs ys = take (length ys) xs ++ drop (length xs) ys
