-- Why a reverse script is not written.
--     script_number e     the number of the cause e
use Rattle.std.specs.Prelude.{ℕ}
use Rattle.reverse_script.specs.declared.refusal.ScriptRefusal.{ScriptRefusal}
use Rattle.reverse_script.specs.declared.refusal.ScriptRefusal.TheVariants.{MemoryTooShort}

abbrev pub script_number : ScriptRefusal → ℕ
script_number MemoryTooShort = 30
