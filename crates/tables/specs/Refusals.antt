-- Refusals of a fill: what each cause says of the entries, which comes first, and the number of each.
--     table_number e             the number of the cause e
--     Below n es                 every entry is below n
--     LargeIn n es               some entry is not
--     Apart es                   no entry comes twice
--     RepeatIn es                some entry does
--     RefusedFor n es e          e is the first cause against filling a table of n entries with es: it applies, and none before it does
--     Filled n es new same r     a fill with es returns r. The entries are then `new`; if r is a refusal, `same` holds
--     PlacesOf es r              looking for the place of each entry of es returns r: the places, if no entry comes twice. Cited by an inner
--                                function alone
--     Inverted n es r            looking for the inverse of the n entries es returns r. Cited by an inner function alone
use Rattle.std.specs.Prelude.{◌≡◌, ℕ, ◌<◌, ◌≤◌, List, length, Ok, Err, Result, ◌≢◌, slice_index}
use Rattle.tables.specs.Inverses.{InvertedBy}
use Rattle.tables.specs.declared.refusal.TableRefusal.{TableRefusal}
use Rattle.tables.specs.declared.refusal.TableRefusal.TheVariants.{Entries, TooLarge, Repeated, UnknownName}

abbrev pub table_number : TableRefusal → ℕ
table_number Entries = 4
table_number TooLarge = 5
table_number Repeated = 6
table_number UnknownName = 9

abbrev pub Below : ℕ → List ℕ → Type 0
Below n es = (k : ℕ) → k < length es → slice_index es k < n

abbrev pub LargeIn : ℕ → List ℕ → Type 0
LargeIn n es = (k : ℕ) × (k < length es) × (n ≤ slice_index es k)

abbrev pub Apart : List ℕ → Type 0
Apart es = (j k : ℕ) → j < k → k < length es → slice_index es j ≢ slice_index es k

abbrev pub RepeatIn : List ℕ → Type 0
RepeatIn es = (j : ℕ) × (k : ℕ) × (j < k) × (k < length es) × (slice_index es j ≡ slice_index es k)

abbrev pub RefusedFor : ℕ → List ℕ → TableRefusal → Type 0
RefusedFor n es Entries = length es ≢ n
RefusedFor n es TooLarge = (length es ≡ n) × LargeIn n es
RefusedFor n es Repeated = (length es ≡ n) × Below n es × RepeatIn es
RefusedFor n es UnknownName = ⊥

abbrev pub Filled : ℕ → List ℕ → List ℕ → Type 0 → Result Unit TableRefusal → Type 0
Filled n es new same (Ok _) = (length es ≡ n) × Below n es × Apart es × (new ≡ es)
Filled n es new same (Err e) = RefusedFor n es e × same

abbrev pub PlacesOf : List ℕ → Result (List ℕ) TableRefusal → Type 0
PlacesOf es (Ok ps) = Apart es × InvertedBy (length es) es ps × InvertedBy (length es) ps es
PlacesOf es (Err e) = (e ≡ Repeated) × RepeatIn es

abbrev pub Inverted : ℕ → List ℕ → Result (List ℕ) TableRefusal → Type 0
Inverted n es (Ok ps) = Below n es × Apart es × InvertedBy n es ps × InvertedBy n ps es
Inverted n es (Err e) = RefusedFor n es e
