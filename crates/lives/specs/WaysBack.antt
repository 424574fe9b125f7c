-- The way back from where a life has led. It began with the lattice l, and its ledger is led; f and g are the two functions of the map.
--     begun f g l led                                    a third bench, just opened on the lattice that is held
--     gone f g l led                                     what it holds after the reverse script was run on it
--     ComesHome l led a m c                              a run of the reverse script that returns a and ends on the lattice m with the counts c has made all its records, one
--                                                        for each line; m is the opening lattice, and the clock is the opposite one
--     LeadsHome f g l led                                the run on the third bench does so; that bench is at rest afterwards, and no flip is pending
--     Home f g l led old new cells j                     j is the way back; the memory of the script goes from `old` to `new`, and the third bench holds `cells` afterwards
--     GoesBack f g l led script script' home home' w     w is the way back, or why there is none: the memory of the script goes from `script` to script', and the cells
--                                                        memory of the third bench from `home` to home'
use Rattle.std.specs.Prelude.{◌≡◌, ℕ, ◌<◌, ◌≤◌, ℤ, List, [], ◌++◌, length, drop, neg_ℤ, Ok, Result}
use Rattle.std.specs.List.{count_by}
use Rattle.any_bench.specs.Scenes.{Scene}
use Rattle.faults.specs.declared.run.RunFault.{RunFault}
use Rattle.lattice.specs.Lattice.{Lattice}
use Rattle.lattice.specs.Starts.{held}
use Rattle.ledger.specs.Effects.{standing_for}
use Rattle.ledger.specs.Homes.{home_records, home_script}
use Rattle.ledger.specs.Ledgers.{Ledger, at_opening, clock_of, counts}
use Rattle.lives.specs.declared.outcome.WayBack.{WayBack}
use Rattle.lives.specs.declared.outcome.WayBack.TheVariants.{InSession, Refused, Gone}
use Rattle.lives.specs.declared.outcome.Journey.{Journey}
use Rattle.reverse_script.specs.declared.refusal.ScriptRefusal.TheVariants.{MemoryTooShort}
use Rattle.runs.specs.Runs.{run_answer, run_scene}
use Rattle.scripts.specs.declared.state.State.TheVariants.{Rest, Session}
use Rattle.text.specs.Lines.{is_newline}

-- a bench that is opened on what is held
abbrev pub begun : (Lattice → Lattice) → (Lattice → Lattice) → Lattice → Ledger → Scene
begun f g l led = record { ledger = at_opening; lattice = standing_for f g led l }

abbrev pub gone : (Lattice → Lattice) → (Lattice → Lattice) → Lattice → Ledger → Scene
gone f g l led = run_scene f g (begun f g l led) 1 (home_script led.standing)

pub record ComesHome (l : Lattice) (led : Ledger) (a : Result ℕ RunFault) (m : Lattice) (c : ℕ × ℕ × ℤ × ℕ) : Type 0 where
  pub answer : a ≡ Ok (length (home_records led.standing))
  pub lines : a ≡ Ok (count_by is_newline (home_script led.standing))
  pub opening : m ≡ l
  pub counts : c ≡ (length led.standing, 0, neg_ℤ (clock_of led.standing), l.phase)

pub record LeadsHome (f g : Lattice → Lattice) (l : Lattice) (led : Ledger) : Type 0 where
  pub comes : ComesHome l led (run_answer f g (begun f g l led) 1 (home_script led.standing)) (gone f g l led).lattice (counts (gone f g l led).ledger (gone f g l led).lattice.phase)
  pub rests : (gone f g l led).ledger.state ≡ Rest
  pub no_flips : (gone f g l led).ledger.session ≡ []

-- the script is that of the actions that stand. It is run on the third bench, which holds the opening lattice afterwards
pub record Home (f g : Lattice → Lattice) (l : Lattice) (led : Ledger) (old new cells : List ℕ) (j : Journey) : Type 0 where
  pub rests : led.state ≡ Rest
  pub len : j.script_len ≡ length (home_script led.standing)
  pub room : j.script_len ≤ length old
  pub script : new ≡ home_script led.standing ++ drop j.script_len old
  pub ran : j.answer ≡ run_answer f g (begun f g l led) 1 (home_script led.standing)
  pub came_to : held j.start cells ≡ (gone f g l led).lattice
  pub comes : ComesHome l led j.answer (held j.start cells) j.counts

abbrev pub GoesBack : (Lattice → Lattice) → (Lattice → Lattice) → Lattice → Ledger → List ℕ → List ℕ → List ℕ → List ℕ → WayBack → Type 0
GoesBack f g l led script script' home home' InSession = (led.state ≡ Session) × (script' ≡ script) × (home' ≡ home)
GoesBack f g l led script script' home home' (Refused e) = (led.state ≡ Rest) × (e ≡ MemoryTooShort) × (length script < length (home_script led.standing)) × (script' ≡ script) × (home' ≡ home)
GoesBack f g l led script script' home home' (Gone j) = Home f g l led script script' home' j
