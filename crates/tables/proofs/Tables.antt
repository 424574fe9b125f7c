-- What every table keeps. Assumes nothing.
use Rattle.std.specs.Prelude.{ℕ}
use Rattle.tables.specs.Inverses.{InvertedBy}
use Rattle.tables.specs.Tables.{entries_of, inverse_of}
use Rattle.tables.specs.declared.table.Table.{Table}

pub back : {n : ℕ} (t : Table n) → InvertedBy n (entries_of t) (inverse_of t)
back t = t.back

pub forth : {n : ℕ} (t : Table n) → InvertedBy n (inverse_of t) (entries_of t)
forth t = t.forth
