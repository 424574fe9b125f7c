use Rattle.std.proofs.Common.{arith}
use Rattle.lattice.specs.Starts.{width_of, height_of}
use Rattle.lattice.specs.Torus.{after, before}
use Rattle.lattice.proofs.Places.{place_inside}
use Rattle.lattice.proofs.Starts.{start_high}
use Rattle.lattice.proofs.Torus.{after_inside, before_inside}
use Rattle.lift.proofs.band.Band.column.Goals as goal

pub bounds-cells-self : goal.bounds-cells-self
bounds-cells-self c =
    let b = c.args.self.now in
    let h = height_of b.start in
    omega (arith, place_inside (width_of b.start) h c.args.x (before h b.y) c.requires.inside (before_inside h (start_high b.start) b.y b.inside))

pub bounds-cells-self-3 : goal.bounds-cells-self-3
bounds-cells-self-3 c =
    let b = c.args.self.now in
    let h = height_of b.start in
    omega (arith, place_inside (width_of b.start) h c.args.x (after h b.y) c.requires.inside (after_inside h (start_high b.start) b.y b.inside))
