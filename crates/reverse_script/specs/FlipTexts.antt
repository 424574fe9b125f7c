-- The text of flips being taken back. Cited by inner functions alone.
--     back_text fs     the records of the flips fs, the last one first, as text
use Rattle.std.specs.Prelude.{ℕ, List, map, reverse}
use Rattle.actions.specs.declared.flip.Flip.{Flip}
use Rattle.ledger.specs.Homes.{flip_record}
use Rattle.scripts.specs.Records.{script_of}

abbrev pub back_text : List Flip → List ℕ
back_text fs = script_of (map flip_record (reverse fs))
