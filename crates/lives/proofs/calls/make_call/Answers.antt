use Rattle.std.proofs.Common.{◌≡◌, ◌*◌, ◌≤◌, ◌∙◌, length, take, eqb, false, sym, ap, arith}
use Rattle.std.proofs.lemmas.Bool.{eqb-false}
use Rattle.std.proofs.lemmas.List.{length-take-le}
use Rattle.any_bench.specs.AnyBenches.{any_map, any_start, any_ledger, any_handed}
use Rattle.lattice.specs.Starts.{width_of, height_of}
use Rattle.lives.proofs.Elsewhere.{event_elsewhere, part_lent}
use Rattle.lives.proofs.calls.make_call.Goals as goal

pub returns-clause-cells : goal.returns-clause-cells
returns-clause-cells g c =
    let b = c.args.bench in
    let s = any_start b in
    let m = any_map b in
    let end = c.min-end.result in
    let second = c.args.second.now in
    let inside : end ≤ length second = omega (arith, c.min-end.ensures) in
    let not_whole : eqb (length (take end second)) (width_of s * height_of s) ≡ false = ap (λ t. eqb (length (take end second)) (width_of t * height_of t)) (sym c.start.ensures) ∙ sym c.is_whole.ensures ∙ c.if-is_whole.false in
    let other = part_lent (width_of s) (height_of s) (length second) c.in-Part.len (length (take end second)) c.args.event c.in-Part.is (length-take-le end second inside ∙ c.min-end.ensures) (eqb-false (length (take end second)) (width_of s * height_of s) not_whole) in
    c.call_elsewhere.ensures.held c.args.cells.now
    ∙ sym (event_elsewhere (g.M.Map.forward m) (g.M.Map.backward m) (length second) c.args.event (any_ledger b) (any_handed b c.args.cells.now) (sym c.needs_cells.ensures ∙ c.if-not-needs_cells.false) other)
