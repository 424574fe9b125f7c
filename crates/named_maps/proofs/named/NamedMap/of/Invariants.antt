-- The map that is looked for is among those not yet compared.
use Rattle.std.proofs.Common.{◌≡◌, drop}
use Rattle.std.specs.List.{find}
use Rattle.std.specs.Str.{bytes_eq}
use Rattle.named_maps.specs.Choice.{all_maps, name_of, map_named}
use Rattle.named_maps.proofs.named.NamedMap.of.Given as goal

abbrev pub invariant-loop-map : goal.invariant-loop-map
invariant-loop-map l = map_named l.fn.name ≡ find (λ n. bytes_eq l.fn.name (name_of n)) (drop l.map-index all_maps)
