-- The named maps: their names, and what each means.
--     all_maps                        all five
--     name_of n                       the bytes of the name of the map n
--     map_named bs                    the map with the name bs, if there is one
--     forward_of n, backward_of n     the two functions of the map n
use Rattle.std.specs.Prelude.{ℕ, List, [], ◌∷◌, Option, codes}
use Rattle.std.specs.List.{find}
use Rattle.std.specs.Str.{bytes_eq}
use Rattle.lattice.specs.Lattice.{Lattice}
use Rattle.named_maps.specs.Named.{bbm_forward, bbm_backward, critters_forward, critters_backward, tron_forward, tron_backward, life2_forward, life2_backward, mixed_forward, mixed_backward}
use Rattle.named_maps.specs.declared.named.NamedMap.{NamedMap}
use Rattle.named_maps.specs.declared.named.NamedMap.TheVariants.{Bbm, Critters, Tron, Life2, Mixed}

abbrev pub all_maps : List NamedMap
all_maps = Bbm ∷ Critters ∷ Tron ∷ Life2 ∷ Mixed ∷ []

abbrev pub name_of : NamedMap → List ℕ
name_of Bbm = codes "bbm"
name_of Critters = codes "critters"
name_of Tron = codes "tron"
name_of Life2 = codes "life2"
name_of Mixed = codes "mixed"

abbrev pub map_named : List ℕ → Option NamedMap
map_named bs = find (λ n. bytes_eq bs (name_of n)) all_maps

abbrev pub forward_of : NamedMap → Lattice → Lattice
forward_of Bbm = bbm_forward
forward_of Critters = critters_forward
forward_of Tron = tron_forward
forward_of Life2 = life2_forward
forward_of Mixed = mixed_forward

abbrev pub backward_of : NamedMap → Lattice → Lattice
backward_of Bbm = bbm_backward
backward_of Critters = critters_backward
backward_of Tron = tron_backward
backward_of Life2 = life2_backward
backward_of Mixed = mixed_backward
