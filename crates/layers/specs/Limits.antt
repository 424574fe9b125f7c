-- The limit on the layer `Times`.
--     max_count    the most moves that one move can be made of
use Rattle.std.specs.Prelude.{ℕ}

abbrev pub max_count : ℕ
max_count = 1000
