-- Ten moves forward and ten back. Assumes nothing.
use Rattle.std.proofs.Common.{◌≡◌, List, ℕ, ap, ◌∙◌}
use Rattle.lattice.specs.Lattice.{Lattice, Bytes}
use Rattle.lattice.specs.Maps.{Reversible, repeated}
use Rattle.lattice.specs.Starts.{held}
use Rattle.lattice.specs.declared.start.Start.{Start}
use Rattle.lattice.proofs.Repeats.{home_again, repeated_undone}
use Rattle.lattice.proofs.Starts.{held_within}

pub ten_home : (f g : Lattice → Lattice) → Reversible f g → (s : Start) (cs : List ℕ) (l : Lattice) → Bytes cs → held s cs ≡ l → repeated 10 g (repeated 10 f l) ≡ l
ten_home f g laws s cs l bytes is = rw (← is) (repeated_undone f g laws.forward_keeps laws.back_undoes_forward 10 (held s cs) (held_within s cs bytes))

-- one move forward and nine more, and then ten back
pub home_of_ten : (f g : Lattice → Lattice) → Reversible f g → (s : Start) (cs : List ℕ) (one ten last : Lattice) → Bytes cs
    → one ≡ f (held s cs) → ten ≡ repeated 9 f one → last ≡ repeated 10 g ten → last ≡ held s cs
home_of_ten f g laws s cs one ten last bytes first nine back =
    home_again f g laws.forward_keeps laws.back_undoes_forward 10 (held s cs) ten last (held_within s cs bytes) (nine ∙ ap (repeated 9 f) first) back
