-- The limits on local rules.
--     neighbourhoods    how many there are: nine presents, each 0 or 1
--     max_mask          the largest mask: a bit for each count from 0 to 8
use Rattle.std.specs.Prelude.{ℕ}

abbrev pub neighbourhoods : ℕ
neighbourhoods = 512

abbrev pub max_mask : ℕ
max_mask = 511
