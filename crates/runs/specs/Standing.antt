-- What a bench holds by its life. It was opened on the lattice l; f and g are the two functions of the map.
--     opened l            what it holds then: no action stands, and the lattice is l
--     HasLived f g l s    s is what it holds after some calls, each of which was handed the cells that were held
--     RestsOn f g l s     s is at rest, on the lattice that comes of l by the standing actions, the oldest first
use Rattle.std.specs.Prelude.{◌≡◌, List, []}
use Rattle.actions.specs.Actions.{all_made}
use Rattle.any_bench.specs.Scenes.{Scene, after_calls}
use Rattle.lattice.specs.Lattice.{Lattice}
use Rattle.ledger.specs.Ledgers.{at_opening}
use Rattle.scripts.specs.declared.record.Record.{Record}
use Rattle.scripts.specs.declared.state.State.TheVariants.{Rest}

abbrev pub opened : Lattice → Scene
opened l = record { ledger = at_opening; lattice = l }

pub record HasLived (f g : Lattice → Lattice) (l : Lattice) (s : Scene) : Type 0 where
  pub calls : List Record
  pub scene : s ≡ after_calls f g (opened l) calls

pub record RestsOn (f g : Lattice → Lattice) (l : Lattice) (s : Scene) : Type 0 where
  pub rests : s.ledger.state ≡ Rest
  pub no_flips : s.ledger.session ≡ []
  pub held : s.lattice ≡ all_made f g s.ledger.standing l
