-- What a table holds.
--     entries_of t, inverse_of t    the entries of the table t, and those of the inverse permutation
use Rattle.std.specs.Prelude.{ℕ, List}
use Rattle.tables.specs.declared.table.Table.{Table}

abbrev pub entries_of : {n : ℕ} → Table n → List ℕ
entries_of t = t.entries

abbrev pub inverse_of : {n : ℕ} → Table n → List ℕ
inverse_of t = t.inverse
