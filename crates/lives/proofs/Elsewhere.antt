-- A call whose memory is too long or too short changes nothing. Assumes nothing.
use Rattle.std.proofs.Common.{◌≡◌, ℕ, ◌*◌, min, Bool, true, false, cond, List, length, Some, refl, sym, ap, ◌∙◌}
use Rattle.std.proofs.lemmas.Bool.{ne_eqb}
use Rattle.any_bench.specs.Calls.{booked_if, made_if}
use Rattle.faults.specs.declared.run.BenchRefusal.TheVariants.{Cells}
use Rattle.lattice.specs.Lattice.{Lattice, with_cells}
use Rattle.lattice.specs.Starts.{held}
use Rattle.lattice.specs.declared.start.Start.{Start}
use Rattle.ledger.specs.Effects.{effect}
use Rattle.ledger.specs.Ledgers.{Ledger, booked}
use Rattle.ledger.specs.Refusals.{takes_cells, refusal, if_accepted}
use Rattle.lives.specs.Events.{lent_count, lent_cells, is_call, event_made}
use Rattle.lives.specs.declared.event.Event.{Event}
use Rattle.lives.specs.declared.event.Lent.TheVariants.{Part}
use Rattle.scripts.specs.Records.{kind_of}
use Rattle.scripts.specs.States.{permits}
use Rattle.scripts.specs.declared.record.Record.{Record}

pub refused_cells : (w h n : ℕ) (c : Record) (led : Ledger) → takes_cells c ≡ true → (n ≡ w * h → ⊥) → refusal w h n c led ≡ Some Cells
refused_cells w h n c led takes other = rw (takes, ne_eqb n (w * h) other) refl

same : {A : Type 0} (b : Bool) (x : A) → cond b x x ≡ x
same true x = refl
same false x = refl

module _ (l : Lattice) (c : Record) (led : Ledger) (takes : takes_cells c ≡ true) (other : length l.cells ≡ l.width * l.height → ⊥) where
  pub ledger_stays : booked_if l c led ≡ led
  ledger_stays =
      ap (λ e. cond (permits led.state (kind_of c)) (if_accepted e (booked c led) led) led) (refused_cells l.width l.height (length l.cells) c led takes other)
      ∙ same (permits led.state (kind_of c)) led

  pub lattice_stays : (f g : Lattice → Lattice) → made_if f g c led l ≡ l
  lattice_stays f g =
      ap (λ e. cond (permits led.state (kind_of c)) (if_accepted e (effect f g c led l) l) l) (refused_cells l.width l.height (length l.cells) c led takes other)
      ∙ same (permits led.state (kind_of c)) l

-- two start records that make the same lattice of some cells do so of all
pub same_held : (s t : Start) (cs ds : List ℕ) → held s cs ≡ held t ds → (es : List ℕ) → held s es ≡ held t es
same_held s t cs ds is es = ap (λ l. with_cells l es) is

-- nor does an event with such a memory
pub event_elsewhere : (f g : Lattice → Lattice) (n : ℕ) (e : Event) (led : Ledger) (l : Lattice) → takes_cells e.call ≡ true → (lent_cells l.width l.height n e ≡ l.width * l.height → ⊥) → event_made f g n e led l ≡ l
event_elsewhere f g n e led l takes other =
    ap (λ d. cond (is_call l.width l.height n e led) (if_accepted d (effect f g e.call led l) l) l) (refused_cells l.width l.height (lent_cells l.width l.height n e) e.call led takes other)
    ∙ same (is_call l.width l.height n e led) l

pub part_lent : (w h n k m : ℕ) (e : Event) → e.lent ≡ Part k → m ≡ min k n → (m ≡ w * h → ⊥) → lent_cells w h n e ≡ w * h → ⊥
part_lent w h n k m e is end other whole = other (end ∙ sym (ap (lent_count (w * h) n) is) ∙ whole)
