-- If there is no latest action, no action stands. Assumes nothing.
use Rattle.std.proofs.Common.{◌≡◌, ◌-◌, List, [], length, drop, ap, arith}
use Rattle.std.proofs.lemmas.List.{length-drop}

pub none_latest : {A : Type 0} → (xs : List A) → [] ≡ drop (length xs - 1) xs → length xs ≡ 0
none_latest xs none = let len = length-drop (length xs - 1) xs in let empty = ap length none in omega arith
