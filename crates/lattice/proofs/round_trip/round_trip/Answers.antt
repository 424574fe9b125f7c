use Rattle.std.proofs.Common.{ℕ, get_or, w8, Fits, rules}
use Rattle.lattice.proofs.Repeats.{home_again, far_start, far_cells}
use Rattle.lattice.proofs.Starts.{held_within}
use Rattle.lattice.proofs.round_trip.round_trip.Goals as goal

pub returns : goal.returns
returns g c =
    let m = c.args.map.now in
    let laws = g.met.M.Map.laws m in
    let bytes : (k : ℕ) → Fits w8 (get_or c.args.cells.now k 0) = λ k. search rules in
    record {
      home =
          home_again (g.M.Map.forward m) (g.M.Map.backward m) laws.forward_keeps laws.back_undoes_forward c.args.count _ _ _
          (held_within c.args.start.now c.args.cells.now (λ k. (bytes k).fits)) c.advance_by.ensures c.retreat_by.ensures;
      turning = far_start _ c.advance_by.new.start c.advance_by.new.cells c.advance_by.ensures;
      far = far_cells _ c.advance_by.new.start c.advance_by.new.cells c.args.far.now _ c.advance_by.ensures c.lay_over.ensures;
    }
