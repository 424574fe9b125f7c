-- The cells that a journey begins with.
--     scene_cell s x y     the cell of column x and row y in the scene s
use Rattle.std.specs.Prelude.{ℕ, ◌+◌, ◌*◌, ◌%◌, cond, ◌&&◌, ◌==◌, nat_le, nat_lt}
use Rattle.there_and_back.specs.declared.scene.Scene.{Scene}
use Rattle.there_and_back.specs.declared.scene.Scene.TheVariants.{Soup, Gas}

abbrev pub scene_cell : Scene → ℕ → ℕ → ℕ
scene_cell Soup x y = cond (nat_le 16 x && nat_lt x 32 && nat_le 4 y && nat_lt y 20 && nat_lt ((x * x + 3 * y * y + x * y) % 7) 3) 1 0
scene_cell Gas x y = cond (nat_lt x 24 && (5 * x + 3 * y * y + x * y) % 7 == 0) 1 0
