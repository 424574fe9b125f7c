-- Numbers as a text writes them.
--     max_digits, max_number      the most digits of a number, and the largest number
--     is_number bs                bs is made of decimal digits, at most six, and there is no shorter way to write that number
--     number_of bs                the number that bs is, if it is one
--     signed_of bs                the same with an optional leading minus, which may not precede `0`
--     number_at n k bs            the number that bs is, which is field k of line n; or the fault that it is not one
--     signed_at n k bs            the same with an optional leading minus
--     WritesNumber n bs           bs is how n is written
--     WritesSigned z bs           bs is how z is written
--     IsNumber bs                 bs is a number
use Rattle.std.specs.Prelude.{◌≡◌, ℕ, ◌≤◌, ℤ, pos, neg_ℤ, unsigned_abs, Bool, ◌&&◌, ◌||◌, ◌==◌, nat_lt, nat_le, List, length, drop, slice_index, Option, Some, None, Result, ok_or, if◌then◌else◌}
use Rattle.std.specs.Option.{option_map}
use Rattle.std.specs.Char.{is_ascii_digit}
use Rattle.std.specs.Fmt.{decimal, signed_decimal}
use Rattle.std.specs.List.{list_all}
use Rattle.std.specs.Str.Parse.{digits_value}
use Rattle.faults.specs.declared.field.FieldFault.TheVariants.{NotANumber}
use Rattle.faults.specs.declared.record.RecordFault.{RecordFault}
use Rattle.faults.specs.declared.record.RecordFault.TheVariants.{Field}

abbrev pub max_digits : ℕ
max_digits = 6

abbrev pub max_number : ℕ
max_number = 999999

abbrev pub is_number : List ℕ → Bool
is_number bs = list_all is_ascii_digit bs && nat_lt 0 (length bs) && nat_le (length bs) max_digits && (nat_lt 48 (slice_index bs 0) || length bs == 1)

unfoldable pub number_of : List ℕ → Option ℕ
number_of bs = if is_number bs then Some (digits_value 10 bs) else None

-- minus that number, if there is one and it is not 0
abbrev pub negative_of : Option ℕ → Option ℤ
negative_of None = None
negative_of (Some n) = if n == 0 then None else Some (neg_ℤ (pos n))

unfoldable pub signed_of : List ℕ → Option ℤ
signed_of bs = if slice_index bs 0 == 45 then negative_of (number_of (drop 1 bs)) else option_map pos (number_of bs)

abbrev pub number_at : ℕ → ℕ → List ℕ → Result ℕ RecordFault
number_at n k bs = ok_or (number_of bs) (Field (NotANumber (record { line = n; field = k })))

abbrev pub signed_at : ℕ → ℕ → List ℕ → Result ℤ RecordFault
signed_at n k bs = ok_or (signed_of bs) (Field (NotANumber (record { line = n; field = k })))

abbrev pub WritesNumber : ℕ → List ℕ → Type 0
WritesNumber n bs = (n ≤ max_number) × (bs ≡ decimal n)

abbrev pub WritesSigned : ℤ → List ℕ → Type 0
WritesSigned z bs = (unsigned_abs z ≤ max_number) × (bs ≡ signed_decimal z)

abbrev pub IsNumber : List ℕ → Type 0
IsNumber bs = (n : ℕ) × WritesNumber n bs
