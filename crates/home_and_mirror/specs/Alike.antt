-- What is printed for the comparisons.
--     yes_or_no b                          b as a word
--     home_lines board clock               whether the way back ends on the opening board, and whether with the opposite clock
--     mirror_lines cells phase counts clock     whether the mirror has the bench's cells, phase and counts of actions, and the opposite clock
use Rattle.std.specs.Prelude.{List, ℕ, ◌++◌, Bool, codes, if◌then◌else◌}

abbrev pub yes_or_no : Bool → List ℕ
yes_or_no b = if b then codes "yes" else codes "no"

abbrev pub home_lines : Bool → Bool → List ℕ
home_lines board clock = codes "the opening board\t" ++ yes_or_no board ++ codes "\nthe clock negated\t" ++ yes_or_no clock

abbrev pub mirror_lines : Bool → Bool → Bool → Bool → List ℕ
mirror_lines cells phase counts clock =
    codes "the same cells\t" ++ yes_or_no cells ++ codes "\nthe same phase\t" ++ yes_or_no phase ++ codes "\nthe same counts\t" ++ yes_or_no counts ++ codes "\nthe clock negated\t" ++ yes_or_no clock
