-- A drawn line is text: each sign is one byte. Assumes nothing.
use Rattle.std.proofs.Common.{◌≡◌, ℕ, ◌<◌, List, [], ◌∷◌, map, arith}
use Rattle.std.specs.Prelude.{encode_utf8_all, IsAscii}
use Rattle.std.proofs.lemmas.Bool.Decides.{nat_tests}
use Rattle.std.proofs.lemmas.Str.{encodes-IsAscii}
use Rattle.std.proofs.lemmas.Str.Ascii.{IsAscii-nil, IsAscii-cons}
use Rattle.there_and_back.specs.Drawings.{sign}

sign_ascii : (c : ℕ) → sign c < 128
sign_ascii c = grind (arith, nat_tests)

signs_ascii : (row : List ℕ) → IsAscii (map sign row)
signs_ascii [] = IsAscii-nil
signs_ascii (c ∷ cs) = IsAscii-cons (sign c) (map sign cs) (sign_ascii c) (signs_ascii cs)

pub signs_encoded : (row : List ℕ) → encode_utf8_all (map sign row) ≡ map sign row
signs_encoded row = encodes-IsAscii (map sign row) (signs_ascii row)
