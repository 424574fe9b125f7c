-- The digits of cells: reading undoes writing, and writing undoes reading. Assumes nothing.
use Rattle.std.proofs.Common.{◌≡◌, ℕ, suc, zero, ◌+◌, ◌*◌, ◌<◌, ◌/◌, ◌%◌, List, [], ◌∷◌, length, true, false, arith, refl, sym, ◌∙◌, ap, flat_map}
use Rattle.std.proofs.lemmas.Bool.Decides.{nat_tests}
use Rattle.std.specs.Char.{digit_value}
use Rattle.std.specs.Fmt.{digit_glyph}
use Rattle.std.specs.List.{list_all, AllByRecursion}
use Rattle.lattice.specs.Lattice.{Bytes}
use Rattle.text.proofs.Cuts.{Free}
use Rattle.text.specs.Lines.{is_separator}
use Rattle.boards.specs.Boards.{hex}
use Rattle.boards.specs.Reading.{is_hex, cells_of}

-- each number of cs is a byte
abbrev pub AreBytes : List ℕ → Type 0
AreBytes cs = AllByRecursion (λ c. c < 256) cs

pub bytes_one_by_one : (cs : List ℕ) → Bytes cs → AreBytes cs
bytes_one_by_one [] bytes = tt
bytes_one_by_one (c ∷ cs) bytes = (bytes 0, bytes_one_by_one cs (λ k. bytes (suc k)))

pub bytes_at_once : (cs : List ℕ) → AreBytes cs → Bytes cs
bytes_at_once [] bytes k = omega arith
bytes_at_once (c ∷ cs) bytes zero = bytes.0
bytes_at_once (c ∷ cs) bytes (suc k) = bytes_at_once cs bytes.1 k

-- a digit and its value
glyph_is_hex : (d : ℕ) → d < 16 → is_hex (digit_glyph false d) ≡ true
glyph_is_hex d small = grind (arith, nat_tests)

glyph_free : (d : ℕ) → d < 16 → is_separator (digit_glyph false d) ≡ false
glyph_free d small = grind (arith, nat_tests)

value_of_glyph : (d : ℕ) → d < 16 → digit_value (digit_glyph false d) ≡ d
value_of_glyph d small = grind (arith, nat_tests)

glyph_of_value : (b : ℕ) → is_hex b ≡ true → digit_glyph false (digit_value b) ≡ b
glyph_of_value b e = grind (arith, nat_tests)

value_small : (b : ℕ) → is_hex b ≡ true → digit_value b < 16
value_small b e = grind (arith, nat_tests)

-- the two digits of a byte
pub hex_free : (cs : List ℕ) → AreBytes cs → Free is_separator (flat_map hex cs)
hex_free [] bytes = tt
hex_free (c ∷ cs) bytes = (glyph_free (c / 16) (omega (arith, bytes.0)), (glyph_free (c % 16) (omega arith), hex_free cs bytes.1))

pub hex_is_hex : (cs : List ℕ) → AreBytes cs → list_all is_hex (flat_map hex cs) ≡ true
hex_is_hex [] bytes = refl
hex_is_hex (c ∷ cs) bytes = rw (glyph_is_hex (c / 16) (omega (arith, bytes.0)), glyph_is_hex (c % 16) (omega arith), hex_is_hex cs bytes.1) refl

pub length-hex : (cs : List ℕ) → length (flat_map hex cs) ≡ 2 * length cs
length-hex [] = refl
length-hex (c ∷ cs) = omega (arith, length-hex cs)

pub cells_of_hex : (cs : List ℕ) → AreBytes cs → cells_of (flat_map hex cs) ≡ cs
cells_of_hex [] bytes = refl
cells_of_hex (c ∷ cs) bytes =
    let high : digit_value (digit_glyph false (c / 16)) ≡ c / 16 = value_of_glyph (c / 16) (omega (arith, bytes.0)) in
    let low : digit_value (digit_glyph false (c % 16)) ≡ c % 16 = value_of_glyph (c % 16) (omega arith) in
    let here : 16 * digit_value (digit_glyph false (c / 16)) + digit_value (digit_glyph false (c % 16)) ≡ c = omega (arith, high, low) in
    ap (λ x. x ∷ cells_of (flat_map hex cs)) here ∙ ap (λ x. c ∷ x) (cells_of_hex cs bytes.1)

two_apart : (a b : ℕ) (bs : List ℕ) → list_all is_hex (a ∷ b ∷ bs) ≡ true → (is_hex a ≡ true) × (is_hex b ≡ true) × (list_all is_hex bs ≡ true)
two_apart a b bs e = (grind arith, grind arith, grind arith)

-- digits that were read
pub record ReadDigits (bs : List ℕ) (w : ℕ) : Type 0 where
  pub written : bs ≡ flat_map hex (cells_of bs)
  pub count : length (cells_of bs) ≡ w
  pub bytes : AreBytes (cells_of bs)

pub digits_read : (w : ℕ) (bs : List ℕ) → length bs ≡ 2 * w → list_all is_hex bs ≡ true → ReadDigits bs w
digits_read w [] len e = record { written = refl; count = omega arith; bytes = tt }
digits_read w (a ∷ []) len e = absurd (omega arith)
digits_read zero (a ∷ b ∷ bs) len e = absurd (omega arith)
digits_read (suc w) (a ∷ b ∷ bs) len e =
    let parts = two_apart a b bs e in
    let high : digit_value a < 16 = value_small a parts.0 in
    let low : digit_value b < 16 = value_small b parts.1 in
    let rest : ReadDigits bs w = digits_read w bs (omega arith) parts.2 in
    let quotient : (16 * digit_value a + digit_value b) / 16 ≡ digit_value a = omega (arith, high, low) in
    let remainder : (16 * digit_value a + digit_value b) % 16 ≡ digit_value b = omega (arith, high, low) in
    let first : a ≡ digit_glyph false ((16 * digit_value a + digit_value b) / 16) = sym (ap (digit_glyph false) quotient ∙ glyph_of_value a parts.0) in
    let second : b ≡ digit_glyph false ((16 * digit_value a + digit_value b) % 16) = sym (ap (digit_glyph false) remainder ∙ glyph_of_value b parts.1) in
    record {
      written = ap (λ x. x ∷ b ∷ bs) first ∙ ap (λ x. digit_glyph false ((16 * digit_value a + digit_value b) / 16) ∷ x ∷ bs) second ∙ ap (λ x. digit_glyph false ((16 * digit_value a + digit_value b) / 16) ∷ digit_glyph false ((16 * digit_value a + digit_value b) % 16) ∷ x) rest.written;
      count = omega (arith, rest.count);
      bytes = (omega (arith, high, low), rest.bytes);
    }
