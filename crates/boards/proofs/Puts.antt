-- The lines of a board, written one piece after another. Assumes nothing.
use Rattle.std.proofs.Common.{◌≡◌, ℕ, ◌+◌, ◌-◌, ◌*◌, ◌<◌, ◌≤◌, ◌/◌, ◌%◌, List, [], ◌∷◌, ◌++◌, length, get_or, take, drop, flat_map, arith, sym, ◌∙◌, ap, suc, zero, codes, subst}
use Rattle.std.proofs.Math.Nat.{suc-mul}
use Rattle.std.proofs.lemmas.Fmt.{decimal_digit, decimal_step}
use Rattle.std.proofs.lemmas.List.{append_assoc, append-nil, take_more, length-append, length-take-le, length-drop, drop-drop}
use Rattle.std.proofs.lemmas.List.Concat.{flat_map-append}
use Rattle.std.specs.Fmt.{decimal}
use Rattle.boards.proofs.HexText.{length-hex}
use Rattle.boards.proofs.Rows.{next_place, place_within}
use Rattle.boards.specs.Boards.{hex, rows, start_line, row_line, rows_text}
use Rattle.text.proofs.Puts.{put_two, put_next, Written, piece}
use Rattle.text.specs.Lines.{separated}
use Rattle.text.specs.Puts.{put_at}

-- numbers of at most three digits
pub one_digit : (n : ℕ) → n < 10 → decimal n ≡ (48 + n % 10) ∷ []
one_digit n small = let same : n % 10 ≡ n = omega (arith, small) in decimal_digit n small ∙ ap (λ d. (48 + d) ∷ []) (sym same)

pub two_digits : (n : ℕ) → 10 ≤ n → n < 100 → decimal n ≡ (48 + n / 10 % 10) ∷ (48 + n % 10) ∷ []
two_digits n low high =
    let tens : n / 10 % 10 ≡ n / 10 = omega (arith, high) in
    decimal_step n low (omega arith) ∙ ap (λ x. x ++ ((48 + n % 10) ∷ [])) (decimal_digit (n / 10) (omega arith)) ∙ ap (λ t. (48 + t) ∷ (48 + n % 10) ∷ []) (sym tens)

pub three_digits : (n : ℕ) → 100 ≤ n → n ≤ 999 → decimal n ≡ (48 + n / 100) ∷ (48 + n / 10 % 10) ∷ (48 + n % 10) ∷ []
three_digits n low high =
    let hundreds : n / 10 / 10 % 10 ≡ n / 100 = omega arith in
    decimal_step n (omega arith) (omega arith) ∙ ap (λ x. x ++ ((48 + n % 10) ∷ [])) (two_digits (n / 10) (omega arith) (omega arith)) ∙ ap (λ h. (48 + h) ∷ (48 + n / 10 % 10) ∷ (48 + n % 10) ∷ []) hundreds

pub one_long : (n : ℕ) → n < 10 → length (decimal n) ≡ 1
one_long n small = ap length (one_digit n small)

pub two_long : (n : ℕ) → 10 ≤ n → n < 100 → length (decimal n) ≡ 2
two_long n low high = ap length (two_digits n low high)

pub three_long : (n : ℕ) → 100 ≤ n → n ≤ 999 → length (decimal n) ≡ 3
three_long n low high = ap length (three_digits n low high)

-- one cell more
pub cell_put : (m cs : List ℕ) (a i end : ℕ) (now new : List ℕ) (c : ℕ) → i < length cs → a + 2 * length cs ≤ length m → end ≡ a + 2 * i → now ≡ put_at m a (flat_map hex (take i cs)) → c ≡ get_or cs i 0 → new ≡ put_at now end (hex c) → new ≡ put_at m a (flat_map hex (take (i + 1) cs))
cell_put m cs a i end now new c inside room place before is here =
    let written : List ℕ = flat_map hex (take i cs) in
    let count : length (take i cs) ≡ i = length-take-le i cs (omega arith) in
    let len : length written ≡ 2 * i = length-hex (take i cs) ∙ ap (λ k. 2 * k) count in
    let at : end ≡ a + length written = omega (arith, place, len) in
    let fits : a + length written + length (hex c) ≤ length m = omega (arith, len, inside, room) in
    let more : flat_map hex (take (i + 1) cs) ≡ written ++ hex c = ap (flat_map hex) (take_more cs i 0 inside) ∙ flat_map-append hex (take i cs) (get_or cs i 0 ∷ []) ∙ ap (λ x. written ++ hex x) (sym is) in
    here ∙ ap (λ x. put_at x end (hex c)) before ∙ ap (λ k. put_at (put_at m a written) k (hex c)) at ∙ put_two m a written (hex c) fits ∙ ap (put_at m a) (sym more)

-- rows one after another
pub rows_push : (w i : ℕ) (cs : List ℕ) → rows w (suc i) cs ≡ rows w i cs ++ (take w (drop (i * w) cs) ∷ [])
rows_push w zero cs = let none : 0 * w ≡ 0 = omega arith in ap (λ k. take w (drop k cs) ∷ []) (sym none)
rows_push w (suc i) cs =
    let place : w + i * w ≡ suc i * w = omega (arith, suc-mul i w) in
    let below : drop (i * w) (drop w cs) ≡ drop (suc i * w) cs = drop-drop (i * w) w cs ∙ ap (λ k. drop k cs) place in
    ap (λ x. take w cs ∷ x) (rows_push w i (drop w cs)) ∙ ap (λ x. take w cs ∷ (rows w i (drop w cs) ++ (take w x ∷ []))) below

length-row_line : (cs : List ℕ) → length (row_line cs) ≡ 2 * length cs + 5
length-row_line cs = omega (arith, length-append (separated (codes "row" ∷ flat_map hex cs ∷ [])) (10 ∷ []), length-hex cs)

row_inside : (w h i : ℕ) (cs : List ℕ) → i < h → length cs ≡ h * w → length (take w (drop (i * w) cs)) ≡ w
row_inside w h i cs l count = length-take-le w (drop (i * w) cs) (omega (arith, length-drop (i * w) cs, count, place_within w h i l))

pub length-rows_text : (w h i : ℕ) (cs : List ℕ) → i ≤ h → length cs ≡ h * w → length (rows_text w i cs) ≡ i * (2 * w + 5)
length-rows_text w h zero cs l count = omega arith
length-rows_text w h (suc i) cs l count =
    let row : List ℕ = take w (drop (i * w) cs) in
    let text : rows_text w (suc i) cs ≡ rows_text w i cs ++ row_line row = ap (flat_map row_line) (rows_push w i cs) ∙ flat_map-append row_line (rows w i cs) (row ∷ []) ∙ ap (λ x. rows_text w i cs ++ x) (append-nil (row_line row)) in
    omega (arith, ap length text, length-append (rows_text w i cs) (row_line row), length-rows_text w h i cs (omega arith) count, length-row_line row, row_inside w h i cs (omega arith) count, suc-mul i (2 * w + 5))

-- the line of a row
pub row_put : (m : List ℕ) (a : ℕ) (cs one two three : List ℕ) (b c : ℕ) → a + 2 * length cs + 5 ≤ length m → one ≡ put_at m a (codes "row\t") → b ≡ a + 4 → two ≡ put_at one b (flat_map hex cs) → c ≡ b + 2 * length cs → three ≡ put_at two c (10 ∷ []) → three ≡ put_at m a (row_line cs)
row_put m a cs one two three b c room first b-is second c-is third =
    let len : length (flat_map hex cs) ≡ 2 * length cs = length-hex cs in
    let both : two ≡ put_at m a (codes "row\t" ++ flat_map hex cs) = put_next m a (codes "row\t") (flat_map hex cs) one two b first (omega (arith, b-is)) second (omega (arith, room, len)) in
    let place : c ≡ a + length (codes "row\t" ++ flat_map hex cs) = omega (arith, b-is, c-is, len) in
    put_next m a (codes "row\t" ++ flat_map hex cs) (10 ∷ []) two three c both place third (omega (arith, room, len))

-- one row more
pub row_more_put : (m cs : List ℕ) (a w h i end : ℕ) (now new row : List ℕ) → i < h → length cs ≡ h * w → a + h * (2 * w + 5) ≤ length m → end ≡ a + i * (2 * w + 5) → now ≡ put_at m a (rows_text w i cs) → row ≡ take w (drop (i * w) cs) → new ≡ put_at now end (row_line row) → new ≡ put_at m a (rows_text w (i + 1) cs)
row_more_put m cs a w h i end now new row l count room place before is here =
    let one : i + 1 ≡ suc i = omega arith in
    let len : length (rows_text w i cs) ≡ i * (2 * w + 5) = length-rows_text w h i cs (omega arith) count in
    let wide : length row ≡ w = ap length is ∙ row_inside w h i cs l count in
    let fits : i * (2 * w + 5) + (2 * w + 5) ≤ h * (2 * w + 5) = place_within (2 * w + 5) h i l in
    let text : rows_text w (suc i) cs ≡ rows_text w i cs ++ row_line row = ap (flat_map row_line) (rows_push w i cs) ∙ flat_map-append row_line (rows w i cs) (take w (drop (i * w) cs) ∷ []) ∙ ap (λ x. rows_text w i cs ++ x) (append-nil (row_line (take w (drop (i * w) cs)))) ∙ ap (λ x. rows_text w i cs ++ row_line x) (sym is) in
    put_next m a (rows_text w i cs) (row_line row) now new end before (omega (arith, place, len)) here (omega (arith, room, len, fits, length-row_line row, wide)) ∙ ap (put_at m a) (sym text ∙ ap (λ k. rows_text w k cs) (sym one))

-- the same for a row that is borrowed from place i * w on, and where the next row goes
pub row_step : (m cs : List ℕ) (a w h i end after : ℕ) (now new : List ℕ) → i < h → length cs ≡ h * w → a + h * (2 * w + 5) ≤ length m → end ≡ a + i * (2 * w + 5) → now ≡ put_at m a (rows_text w i cs) → new ≡ put_at now end (row_line (take ((i + 1) * w - i * w) (drop (i * w) cs))) → after ≡ end + 2 * length (take ((i + 1) * w - i * w) (drop (i * w) cs)) + 5 → (after ≡ a + (i + 1) * (2 * w + 5)) × (new ≡ put_at m a (rows_text w (i + 1) cs))
row_step m cs a w h i end after now new l count room place before here after-is =
    let wide : (i + 1) * w - i * w ≡ w = omega (arith, next_place w i) in
    let row : take ((i + 1) * w - i * w) (drop (i * w) cs) ≡ take w (drop (i * w) cs) = ap (λ k. take k (drop (i * w) cs)) wide in
    let len : length (take ((i + 1) * w - i * w) (drop (i * w) cs)) ≡ w = ap length row ∙ row_inside w h i cs l count in
    (omega (arith, after-is, len, place, next_place (2 * w + 5) i), row_more_put m cs a w h i end now new (take ((i + 1) * w - i * w) (drop (i * w) cs)) l count room place before row here)

pub start_pieces : (w h p : ℕ) → ((((((codes "board\t" ++ decimal w) ++ (9 ∷ [])) ++ decimal h) ++ (9 ∷ [])) ++ decimal p) ++ (10 ∷ [])) ≡ start_line w h p
start_pieces w h p = simp append_assoc

-- the line of a board, piece by piece, where no number has more than three digits
pub start_put : (m one two three four five six seven : List ℕ) (w h p a b c d e f g : ℕ) → 18 ≤ length m → length (decimal w) ≤ 3 → length (decimal h) ≤ 3 → length (decimal p) ≤ 3 → one ≡ put_at m 0 (codes "board\t") → a ≡ 6 → two ≡ put_at one a (decimal w) → b ≡ a + length (decimal w) → three ≡ put_at two b (9 ∷ []) → c ≡ b + 1 → four ≡ put_at three c (decimal h) → d ≡ c + length (decimal h) → five ≡ put_at four d (9 ∷ []) → e ≡ d + 1 → six ≡ put_at five e (decimal p) → f ≡ e + length (decimal p) → seven ≡ put_at six f (10 ∷ []) → g ≡ f + 1 → Written m (start_line w h p) seven g
start_put m one two three four five six seven w h p a b c d e f g room ws hs ps m1 a-is m2 b-is m3 c-is m4 d-is m5 e-is m6 f-is m7 g-is =
    let w1 : Written m (codes "board\t") one a = record { memory = m1; after = a-is } in
    let w2 = piece m (codes "board\t") (decimal w) one two a b w1 m2 b-is (omega (arith, room, ws)) in
    let w3 = piece m _ (9 ∷ []) two three b c w2 m3 c-is (omega (arith, room, ws, w2.after, a-is, b-is)) in
    let w4 = piece m _ (decimal h) three four c d w3 m4 d-is (omega (arith, room, ws, hs, w3.after, a-is, b-is, c-is)) in
    let w5 = piece m _ (9 ∷ []) four five d e w4 m5 e-is (omega (arith, room, ws, hs, w4.after, a-is, b-is, c-is, d-is)) in
    let w6 = piece m _ (decimal p) five six e f w5 m6 f-is (omega (arith, room, ws, hs, ps, w5.after, a-is, b-is, c-is, d-is, e-is)) in
    let w7 = piece m _ (10 ∷ []) six seven f g w6 m7 g-is (omega (arith, room, ws, hs, ps, w6.after, a-is, b-is, c-is, d-is, e-is, f-is)) in
    subst (λ (x : List ℕ). Written m x seven g) (start_pieces w h p) w7
