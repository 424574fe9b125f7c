-- The built-in tables, entry by entry, and the names that they are found by.
--     bbm, critters, tron              the block tables, and block_identity
--     exchange, complement             the cell tables, and cell_identity
--     critters_back                    the inverse of critters; bbm and tron, exchange and complement are their own inverses
--     IsTable es back t                the table t has the entries es and the inverse back
--     BlockOf asked r                  looking up the name `asked` returns r: the block table with that name, or the refusal of an unknown name
--     CellOf asked r                   the same for a cell table
--     Written gives old new r          writing a table returns r, where `gives` says which table or refusal there is to write. The table is then
--                                      `new`; a refusal leaves the old one
use Rattle.std.specs.Prelude.{◌≡◌, ℕ, List, [], ◌∷◌, Ok, Err, codes, Result, IsOkAnd, ◌≢◌}
use Rattle.tables.specs.Tables.{entries_of, inverse_of}
use Rattle.tables.specs.declared.table.Table.{Table}
use Rattle.tables.specs.declared.refusal.TableRefusal.{TableRefusal}
use Rattle.tables.specs.declared.refusal.TableRefusal.TheVariants.{UnknownName}

abbrev pub block_identity : List ℕ
block_identity = 0 ∷ 1 ∷ 2 ∷ 3 ∷ 4 ∷ 5 ∷ 6 ∷ 7 ∷ 8 ∷ 9 ∷ 10 ∷ 11 ∷ 12 ∷ 13 ∷ 14 ∷ 15 ∷ []

abbrev pub bbm : List ℕ
bbm = 0 ∷ 8 ∷ 4 ∷ 3 ∷ 2 ∷ 5 ∷ 9 ∷ 7 ∷ 1 ∷ 6 ∷ 10 ∷ 11 ∷ 12 ∷ 13 ∷ 14 ∷ 15 ∷ []

abbrev pub critters : List ℕ
critters = 15 ∷ 14 ∷ 13 ∷ 3 ∷ 11 ∷ 5 ∷ 6 ∷ 1 ∷ 7 ∷ 9 ∷ 10 ∷ 2 ∷ 12 ∷ 4 ∷ 8 ∷ 0 ∷ []

abbrev pub critters_back : List ℕ
critters_back = 15 ∷ 7 ∷ 11 ∷ 3 ∷ 13 ∷ 5 ∷ 6 ∷ 8 ∷ 14 ∷ 9 ∷ 10 ∷ 4 ∷ 12 ∷ 2 ∷ 1 ∷ 0 ∷ []

abbrev pub tron : List ℕ
tron = 15 ∷ 1 ∷ 2 ∷ 3 ∷ 4 ∷ 5 ∷ 6 ∷ 7 ∷ 8 ∷ 9 ∷ 10 ∷ 11 ∷ 12 ∷ 13 ∷ 14 ∷ 0 ∷ []

abbrev pub cell_identity : List ℕ
cell_identity = 0 ∷ 1 ∷ 2 ∷ 3 ∷ []

abbrev pub exchange : List ℕ
exchange = 0 ∷ 2 ∷ 1 ∷ 3 ∷ []

abbrev pub complement : List ℕ
complement = 1 ∷ 0 ∷ 3 ∷ 2 ∷ []

pub record IsTable {n : ℕ} (es back : List ℕ) (t : Table n) : Type 0 where
  pub entries : entries_of t ≡ es
  pub inverse : inverse_of t ≡ back

pub record BlockOf (asked : List ℕ) (r : Result (Table 16) TableRefusal) : Type 0 where
  pub bbm_table : asked ≡ codes "bbm" → IsOkAnd r (IsTable bbm bbm)
  pub critters_table : asked ≡ codes "critters" → IsOkAnd r (IsTable critters critters_back)
  pub tron_table : asked ≡ codes "tron" → IsOkAnd r (IsTable tron tron)
  pub other : (asked ≢ codes "bbm") → (asked ≢ codes "critters") → (asked ≢ codes "tron") → r ≡ Err UnknownName

pub record CellOf (asked : List ℕ) (r : Result (Table 4) TableRefusal) : Type 0 where
  pub exchange_table : asked ≡ codes "exchange" → IsOkAnd r (IsTable exchange exchange)
  pub complement_table : asked ≡ codes "complement" → IsOkAnd r (IsTable complement complement)
  pub other : (asked ≢ codes "exchange") → (asked ≢ codes "complement") → r ≡ Err UnknownName

abbrev pub Written : {T : Type 0} → (Result T TableRefusal → Type 0) → T → T → Result Unit TableRefusal → Type 0
Written gives old new (Ok _) = gives (Ok new)
Written gives old new (Err e) = gives (Err e) × (new ≡ old)
