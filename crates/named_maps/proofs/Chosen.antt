-- A move by the map that is chosen. Assumes nothing.
use Rattle.std.proofs.Common.{◌≡◌, sym, ap, ◌∙◌}
use Rattle.lattice.specs.Lattice.{Lattice}
use Rattle.named_maps.specs.declared.named.NamedMap.{NamedMap}

-- the choice n is n', the map at hand means the function of n', and it has led from l to m; F has the functions of all choices
pub chosen : (F : NamedMap → Lattice → Lattice) (n n' : NamedMap) → n ≡ n' → (f : Lattice → Lattice) → f ≡ F n' → (l m : Lattice) → m ≡ f l → m ≡ F n l
chosen F n n' is f e l m moved = moved ∙ ap (λ g. g l) e ∙ ap (λ k. F k l) (sym is)
