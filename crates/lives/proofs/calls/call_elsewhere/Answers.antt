use Rattle.std.proofs.Common.{◌≡◌, ap, ◌∙◌}
use Rattle.any_bench.specs.AnyBenches.{any_map, any_start, any_ledger, any_handed}
use Rattle.lives.proofs.Elsewhere.{ledger_stays, lattice_stays, same_held}
use Rattle.lives.proofs.calls.call_elsewhere.Given.{Over}
use Rattle.lives.proofs.calls.call_elsewhere.Goals as goal

pub returns-clause-ledger : goal.returns-clause-ledger
returns-clause-ledger g c = c.call.ensures.ledger ∙ ledger_stays (any_handed c.args.bench c.args.part.now) c.args.call (any_ledger c.args.bench) c.requires.takes c.requires.other

stays : (g : Over) (c : goal.After-slice_known-2-1 g) → any_handed c.call.result.0 c.call.new.cells ≡ any_handed c.args.bench c.args.part.now
stays g c =
    let m = any_map c.args.bench in
    c.call.ensures.cells ∙ lattice_stays (any_handed c.args.bench c.args.part.now) c.args.call (any_ledger c.args.bench) c.requires.takes c.requires.other (g.M.Map.forward m) (g.M.Map.backward m)

pub returns-clause-held : goal.returns-clause-held
returns-clause-held g c cs = same_held (any_start c.call.result.0) (any_start c.args.bench) c.call.new.cells c.args.part.now (stays g c) cs

pub returns-clause-part : goal.returns-clause-part
returns-clause-part g c = ap (λ l. l.cells) (stays g c)
