-- A reverse script in memory.
--     max_script                        how many bytes are enough for any script
--     ScriptWritten acts old new r      r is the result of writing the script that undoes the actions acts; the memory goes from `old` to `new`
use Rattle.std.specs.Prelude.{◌≡◌, ℕ, ◌<◌, ◌≤◌, List, ◌++◌, length, drop, Result, Ok, Err}
use Rattle.actions.specs.Actions.{Action}
use Rattle.ledger.specs.Homes.{home_script}
use Rattle.reverse_script.specs.declared.refusal.ScriptRefusal.{ScriptRefusal}

abbrev pub max_script : ℕ
max_script = 7168

abbrev pub ScriptWritten : List Action → List ℕ → List ℕ → Result ℕ ScriptRefusal → Type 0
ScriptWritten acts old new (Ok n) = (n ≡ length (home_script acts)) × (n ≤ length old) × (new ≡ home_script acts ++ drop n old)
ScriptWritten acts old new (Err e) = (length old < length (home_script acts)) × (new ≡ old)
