use Rattle.std.proofs.Common.{◌≡◌, ℕ, true, ◌&&◌, get_or, w8, Fits, ap, rules}
use Rattle.std.proofs.lemmas.Slice.Eq.{slice_eq-Decides}
use Rattle.std.proofs.lemmas.Bool.Decides.{Decides-eqb}
use Rattle.lattice.specs.Starts.{held}
use Rattle.samples.proofs.Home.{home_of_ten, ten_home}
use Rattle.samples.proofs.outcome.Outcome.within.Goals as goal

pub returns : goal.returns
returns g c =
    let m = c.args.map.now in
    let bytes : (k : ℕ) → Fits w8 (get_or c.args.first.now k 0) = λ k. search rules in
    let moved : held c.advance.new.start c.advance.new.cells ≡ g.M.Map.forward m (held c.args.opening c.args.first.now) = search rules in
    let home = home_of_ten _ _ (g.met.M.Map.laws m) c.args.opening c.args.first.now _ _ _ (λ k. (bytes k).fits) moved c.advance_by.ensures c.retreat_by.ensures in
    let w = ap (λ l. l.width) home in
    let h = ap (λ l. l.height) home in
    let p = ap (λ l. l.phase) home in
    let same_start : c.eq.result ≡ true = search rules in
    let same_cells = (slice_eq-Decides Decides-eqb c.retreat_by.new.cells c.args.first.now c.eq-2.result c.eq-2.ensures).1 (ap (λ l. l.cells) home) in
    let leads_home = ten_home _ _ (g.met.M.Map.laws m) c.args.opening c.args.first.now _ (λ k. (bytes k).fits) c.requires.first in
    record { one = search rules; ten = search rules; back = search rules; leads_home = leads_home; home = λ i. same_start i && same_cells i }
