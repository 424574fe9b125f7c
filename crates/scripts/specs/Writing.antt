-- Records written into a memory.
--     RecordPut r a old new e     writing the record r at place a of a memory that holds `old` returns e and leaves `new` there
use Rattle.std.specs.Prelude.{◌≡◌, ℕ, ◌+◌, ◌<◌, ◌≤◌, List, length, Option, Some, None}
use Rattle.text.specs.Puts.{put_at}
use Rattle.scripts.specs.Records.{written}
use Rattle.scripts.specs.declared.record.Record.{Record}

abbrev pub RecordPut : Record → ℕ → List ℕ → List ℕ → Option ℕ → Type 0
RecordPut r a old new (Some end) = (a + length (written r) ≤ length old) × (end ≡ a + length (written r)) × (new ≡ put_at old a (written r))
RecordPut r a old new None = (length old < a + length (written r)) × (new ≡ old)
