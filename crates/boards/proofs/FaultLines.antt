-- A fault of a board names no line before the first. Assumes nothing.
use Rattle.std.proofs.Common.{ℕ, ◌+◌, ◌*◌, ◌≤◌, ◌==◌, ◌&&◌, zero, suc, Bool, true, false, if◌then◌else◌, List, [], ◌∷◌, length, slice_index_or, nat_le, Option, Some, None, Ok, Err, Result, IfErr, ok_or, arith, sym, subst}
use Rattle.std.specs.List.{count_by, list_all}
use Rattle.std.specs.Str.{bytes_eq}
use Rattle.faults.specs.Results.{◌>>=◌}
use Rattle.faults.specs.Reports.{NamesLineFrom}
use Rattle.faults.specs.declared.field.FieldFault.TheVariants.{NotANumber, WrongDigits}
use Rattle.faults.specs.declared.record.RecordFault.{RecordFault}
use Rattle.faults.specs.declared.record.RecordFault.TheVariants.{Field, TooLong, Unfinished, UnknownWord, FieldCount, CellsTooShort}
use Rattle.lattice.specs.Lattice.{Lattice}
use Rattle.lattice.specs.declared.refusal.StartRefusal.{StartRefusal}
use Rattle.lattice.specs.declared.start.Start.{Start}
use Rattle.text.specs.Lines.{is_newline, lines, fields}
use Rattle.text.specs.Numbers.{number_at, number_of}
use Rattle.text.specs.Wholes.{max_text, finished, whole}
use Rattle.boards.specs.Answers.{BoardFound, BoardRead}
use Rattle.boards.specs.Reading.{line_at, unless_refused, start_at, is_hex, cells_of, digits_at, row_at, on_first, rows_from, board}

-- the fault of a, if it is one, names no line before line n
abbrev From : {A : Type 0} → ℕ → Result A RecordFault → Type 0
From n a = IfErr a (λ e. NamesLineFrom n e)

earlier : (n m : ℕ) (e : RecordFault) → n ≤ m → NamesLineFrom m e → NamesLineFrom n e
earlier n m TooLong le named = tt
earlier n m CellsTooShort le named = tt
earlier n m e le named = omega (arith, le, named)

from_earlier : {A : Type 0} (n m : ℕ) (a : Result A RecordFault) → n ≤ m → From m a → From n a
from_earlier n m (Ok x) le named = tt
from_earlier n m (Err e) le named = earlier n m e le named

joined : {A B : Type 0} (n : ℕ) (a : Result A RecordFault) (f : A → Result B RecordFault) → From n a → ((x : A) → From n (f x)) → From n (a >>= f)
joined n (Ok x) f first more = more x
joined n (Err e) f first more = first

abbrev whole_at : ℕ → ℕ → Bool → Bool → Result Unit RecordFault
whole_at n k short ends = if short then (if ends then Ok tt else Err (Unfinished (n + k))) else Err TooLong

whole_by : (n k : ℕ) (short ends : Bool) → From n (whole_at n k short ends)
whole_by n k true true = tt
whole_by n k true false = omega arith
whole_by n k false ends = tt

of_whole : (n : ℕ) (bs : List ℕ) → From n (whole n bs)
of_whole n bs = whole_by n (count_by is_newline bs) (nat_le (length bs) max_text) (finished bs)

number_by : (n k : ℕ) (o : Option ℕ) → From n (ok_or o (Field (NotANumber (record { line = n; field = k }))))
number_by n k None = omega arith
number_by n k (Some x) = tt

of_number : (n k : ℕ) (bs : List ℕ) → From n (number_at n k bs)
of_number n k bs = number_by n k (number_of bs)

of_refusal : (n : ℕ) (o : Option StartRefusal) (l : Lattice) → From n (unless_refused n o l)
of_refusal n None l = tt
of_refusal n (Some e) l = omega arith

line_by : {A : Type 0} (n : ℕ) (a : Result A RecordFault) (word count : Bool) → From n a → From n (if word then (if count then a else Err (FieldCount n)) else Err (UnknownWord n))
line_by n a true true more = more
line_by n a true false more = omega arith
line_by n a false count more = omega arith

of_line : {A : Type 0} (w : List ℕ) (count n : ℕ) (fs : List (List ℕ)) (f : List (List ℕ) → Result A RecordFault) → ((args : List (List ℕ)) → From n (f args)) → From n (line_at w count n fs f)
of_line w count n [] f more = omega arith
of_line w count n (v ∷ args) f more = line_by n (f args) (bytes_eq v w) (length args == count) (more args)

of_start : (n : ℕ) (fs : List (List ℕ)) → From n (start_at n fs)
of_start n fs = of_line _ 3 n fs _ (λ args. joined n _ _ (of_number n 2 _) (λ w. joined n _ _ (of_number n 3 _) (λ h. joined n _ _ (of_number n 4 _) (λ p. of_refusal n _ _))))

digits_by : (n : ℕ) (cs : List ℕ) (good : Bool) → From n (if good then Ok cs else Err (Field (WrongDigits (record { line = n; field = 2 }))))
digits_by n cs true = tt
digits_by n cs false = omega arith

of_digits : (w n : ℕ) (bs : List ℕ) → From n (digits_at w n bs)
of_digits w n bs = digits_by n (cells_of bs) (length bs == 2 * w && list_all is_hex bs)

of_row : (w n : ℕ) (fs : List (List ℕ)) → From n (row_at w n fs)
of_row w n fs = of_line _ 1 n fs _ (λ args. of_digits w n (slice_index_or args 0 []))

of_first : {A : Type 0} (f : ℕ → List (List ℕ) → Result A RecordFault) (n : ℕ) (ls : List (List ℕ)) → ((fs : List (List ℕ)) → From n (f n fs)) → From n (on_first f n ls)
of_first f n [] more = omega arith
of_first f n (l ∷ ls) more = more (fields l)

of_rows : (w h n : ℕ) (ls : List (List ℕ)) → From n (rows_from w h n ls)
of_rows w zero n ls = tt
of_rows w (suc h) n ls = joined n _ _ (of_first (row_at w) n ls (of_row w n)) (λ cs. joined n _ _ (from_earlier n (n + 1) _ (omega arith) (of_rows w h (n + 1) _)) (λ more. tt))

of_board : (n : ℕ) (bs : List ℕ) → From n (board n bs)
unfolding board
of_board n bs = joined n _ _ (of_whole n bs) (λ u. joined n _ _ (of_first start_at n (lines bs) (of_start n)) (λ s. joined n _ _ (from_earlier n (n + 1) _ (omega arith) (of_rows s.width s.height (n + 1) _)) (λ cs. tt)))

found_from : (n : ℕ) (a : Result Lattice RecordFault) (r : Result (Start × ℕ) RecordFault) → From n a → BoardFound a r → From n r
found_from n a (Ok x) named found = tt
found_from n (Ok l) (Err e) named found = absurd found
found_from n (Err d) (Err e) named found = subst (NamesLineFrom n) (sym found) named

read_from : (n : ℕ) (a : Result Lattice RecordFault) (old new : List ℕ) (r : Result (Start × ℕ) RecordFault) → From n a → BoardRead a old new r → From n r
read_from n a old new (Ok x) named read = tt
read_from n (Ok l) old new (Err e) named read = subst (NamesLineFrom n) (sym read.1) tt
read_from n (Err d) old new (Err e) named read = subst (NamesLineFrom n) (sym read.0) named

pub found_named : (n : ℕ) (bs : List ℕ) (r : Result (Start × ℕ) RecordFault) → BoardFound (board n bs) r → IfErr r (λ e. NamesLineFrom n e)
found_named n bs r found = found_from n (board n bs) r (of_board n bs) found

pub read_named : (n : ℕ) (bs old new : List ℕ) (r : Result (Start × ℕ) RecordFault) → BoardRead (board n bs) old new r → IfErr r (λ e. NamesLineFrom n e)
read_named n bs old new r read = read_from n (board n bs) old new r (of_board n bs) read
