-- A bench that is opened on what is held and runs the reverse script then holds the opening lattice. Assumes nothing.
use Rattle.std.proofs.Common.{◌≡◌, ℕ, ◌*◌, ◌≤◌, eqb, ℤ, neg_ℤ, List, [], length, Ok, Err, Result, sym, ap, ap₂, ◌∙◌, subst, arith}
use Rattle.std.proofs.lemmas.Bool.{cond-true, eq-eqb}
use Rattle.std.specs.List.{All}
use Rattle.actions.proofs.Home.{all_made_back}
use Rattle.actions.specs.Actions.{Action, all_made, home_of}
use Rattle.actions.specs.Flips.{all_flipped}
use Rattle.any_bench.specs.Scenes.{Scene, after_calls}
use Rattle.faults.specs.Results.{◌>>=◌}
use Rattle.faults.specs.declared.run.BenchRefusal.TheVariants.{Cells}
use Rattle.faults.specs.declared.run.RunFault.{RunFault}
use Rattle.faults.specs.declared.run.RunFault.TheVariants.{Bench}
use Rattle.lattice.proofs.Wholes.{same_shape_whole}
use Rattle.lattice.specs.Lattice.{Lattice, Whole, Within, SameShape}
use Rattle.lattice.specs.Maps.{Reversible}
use Rattle.ledger.proofs.Held.{byte_masks, standing_within}
use Rattle.ledger.proofs.HomeLaws.{home_on, home_length, home_entries, home_clock}
use Rattle.ledger.proofs.HomeScripts.{home_is_script}
use Rattle.ledger.proofs.Shapes.{standing_shape}
use Rattle.ledger.proofs.Sound.{Sound, ActionOn, sound_at_opening}
use Rattle.ledger.specs.Effects.{standing_for}
use Rattle.ledger.specs.Homes.{home_records, home_script}
use Rattle.ledger.specs.Ledgers.{Ledger, at_opening, entries, clock_of, counts}
use Rattle.lives.specs.WaysBack.{begun, ComesHome, LeadsHome}
use Rattle.runs.proofs.AllAccepted.{Goes}
use Rattle.runs.proofs.HomeRuns.{resting, actions_go}
use Rattle.runs.specs.Runs.{first_refused, made_of, answer_of, at_rest, asked, run_answer, run_of, run_scene}
use Rattle.scripts.proofs.ScriptLaws.{taken}
use Rattle.scripts.proofs.ScriptLines.{newlines_of_script}
use Rattle.scripts.specs.Judgements.{script}
use Rattle.scripts.specs.Laws.{IsScript}
use Rattle.scripts.specs.Runs.{risen}
use Rattle.scripts.specs.declared.state.State.TheVariants.{Rest}

counts_home : (acts : List Action) (p : ℕ) → counts (record { standing = home_of acts; undone = []; session = []; state = Rest }) p ≡ (length acts, 0, neg_ℤ (clock_of acts), p)
counts_home acts p =
    let n = home_length acts in
    let c = home_clock acts in
    λ i. (n i, 0, c i, p)

module _ (f g : Lattice → Lattice) (laws : Reversible f g) (l : Lattice) (inside : Within l) (whole : Whole l) (led : Ledger) (s : Sound l.width l.height led) (rest : led.state ≡ Rest) where
  -- what is held
  abbrev here : Lattice
  here = standing_for f g led l

  shape : SameShape l here
  shape = standing_shape f g laws l.width l.height led l s inside

  few : entries led.standing ≤ 256
  few = let room = s.room in omega arith

  on : All (ActionOn here.width here.height) led.standing
  on = let P : ℕ → ℕ → Type 0 = λ w h. All (ActionOn w h) led.standing in subst (λ w. P w here.height) (sym shape.width) (subst (P l.width) (sym shape.height) s.standing)

  here_within : Within here
  here_within = standing_within f g laws l.width l.height led l s inside

  here_whole : Whole here
  here_whole = same_shape_whole l here shape whole

  is_script : IsScript (home_records led.standing) (home_script led.standing)
  is_script =
      let wide = here_within.wide in
      let high = here_within.high in
      home_is_script here.width here.height wide.1 high.1 led.standing on few

  home_read : (n : ℕ) → asked here n (home_script led.standing) ≡ Ok (home_records led.standing)
  home_read n =
      let is = taken n (home_script led.standing) (home_records led.standing) is_script in
      cond-true (eqb (length here.cells) (here.width * here.height)) (risen (script n (home_script led.standing))) (Err (Bench Cells 0)) (eq-eqb (length here.cells) (here.width * here.height) here_whole)
      ∙ ap risen is

  abbrev home : Scene
  home = record { ledger = resting f g laws here here_within here_whole (home_of led.standing); lattice = standing_for f g (resting f g laws here here_within here_whole (home_of led.standing)) here }

  all_go : Goes f g (begun f g l led) (home_records led.standing) home
  all_go = actions_go f g laws here here_within here_whole (home_of led.standing) [] (home_on here.width here.height led.standing on) (sound_at_opening here.width here.height) (omega (arith, home_entries led.standing, few))

  -- the run makes all records
  home_answer : (n : ℕ) → run_answer f g (begun f g l led) n (home_script led.standing) ≡ Ok (length (home_records led.standing))
  home_answer n =
      ap (λ a. a >>= λ rs. answer_of n (first_refused f g (begun f g l led) rs) rs) (home_read n)
      ∙ ap (λ d. answer_of n d (home_records led.standing)) all_go.none

  -- and then holds the opening lattice
  no_flips : here ≡ all_made f g led.standing l
  no_flips = ap (λ q. all_flipped q (all_made f g led.standing l)) (s.at_rest rest)

  home_lattice : all_made f g (home_of led.standing) here ≡ l
  home_lattice = ap (all_made f g (home_of led.standing)) no_flips ∙ all_made_back f g laws led.standing l (byte_masks l.width l.height led.standing s.standing) inside

  home_scene : (n : ℕ) → run_scene f g (begun f g l led) n (home_script led.standing) ≡ record { ledger = record { standing = home_of led.standing; undone = []; session = []; state = Rest }; lattice = l }
  home_scene n =
      ap (run_of f g (begun f g l led)) (home_read n)
      ∙ ap (λ d. at_rest f g (after_calls f g (begun f g l led) (made_of d (home_records led.standing)))) all_go.none
      ∙ ap (at_rest f g) all_go.scene
      ∙ ap (λ m. record { ledger = record { standing = home_of led.standing; undone = []; session = []; state = Rest }; lattice = m }) home_lattice

  pub leads_home : LeadsHome f g l led
  leads_home =
      let went = home_scene 1 in
      let lines = newlines_of_script (home_records led.standing) is_script.reads.writable in
      record {
        comes = record {
          answer = home_answer 1;
          lines = home_answer 1 ∙ ap Ok (sym lines);
          opening = ap (λ t. t.lattice) went;
          counts = ap (λ t. counts t.ledger t.lattice.phase) went ∙ counts_home led.standing l.phase;
        };
        rests = ap (λ t. t.ledger.state) went;
        no_flips = ap (λ t. t.ledger.session) went;
      }

-- the same for an equal result, lattice and counts
pub comes_alike : (l : Lattice) (led : Ledger) (a a' : Result ℕ RunFault) (m m' : Lattice) (c c' : ℕ × ℕ × ℤ × ℕ) → a' ≡ a → m' ≡ m → c' ≡ c → ComesHome l led a m c → ComesHome l led a' m' c'
comes_alike l led a a' m m' c c' x y z home = record { answer = x ∙ home.answer; lines = x ∙ home.lines; opening = y ∙ home.opening; counts = z ∙ home.counts }

-- the third bench begins with what is held
pub begins : (x : Ledger) (h h' : Lattice) → x ≡ at_opening → h ≡ h' → ◌≡◌ {A = Scene} (record { ledger = x; lattice = h }) (record { ledger = at_opening; lattice = h' })
begins x h h' a b = ap₂ (λ y m. record { ledger = y; lattice = m }) a b
