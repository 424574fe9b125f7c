-- Bytes that are written after others. Assumes nothing.
use Rattle.std.proofs.Common.{◌≡◌, ℕ, ◌+◌, ◌≤◌, List, ◌++◌, length, take, drop, arith, sym, ◌∙◌, ap}
use Rattle.std.proofs.lemmas.List.{append_assoc, length-append, length-take-le, take_at, drop_at, drop-drop}
use Rattle.text.specs.Puts.{put_at}

-- two pieces written one after the other are written as one piece
pub put_two : (m : List ℕ) (a : ℕ) (xs ys : List ℕ) → a + length xs + length ys ≤ length m → put_at (put_at m a xs) (a + length xs) ys ≡ put_at m a (xs ++ ys)
put_two m a xs ys room =
    let front : length (take a m) ≡ a = length-take-le a m (omega arith) in
    let both : length (take a m ++ xs) ≡ a + length xs = omega (arith, length-append (take a m) xs, front) in
    let same : put_at m a xs ≡ (take a m ++ xs) ++ drop (a + length xs) m = sym (append_assoc (take a m) xs (drop (a + length xs) m)) in
    let before : take (a + length xs) (put_at m a xs) ≡ take a m ++ xs = ap (take (a + length xs)) same ∙ take_at (take a m ++ xs) (drop (a + length xs) m) (a + length xs) both in
    let rest : drop (a + length xs) (put_at m a xs) ≡ drop (a + length xs) m = ap (drop (a + length xs)) same ∙ drop_at (take a m ++ xs) (drop (a + length xs) m) (a + length xs) both in
    let after : drop (a + length xs + length ys) (put_at m a xs) ≡ drop (a + length xs + length ys) m = sym (drop-drop (length ys) (a + length xs) (put_at m a xs)) ∙ ap (drop (length ys)) rest ∙ drop-drop (length ys) (a + length xs) m in
    let place : a + length xs + length ys ≡ a + length (xs ++ ys) = omega (arith, length-append xs ys) in
    ap (λ x. x ++ (ys ++ drop (a + length xs + length ys) (put_at m a xs))) before ∙ ap (λ x. (take a m ++ xs) ++ (ys ++ x)) after ∙ append_assoc (take a m) xs (ys ++ drop (a + length xs + length ys) m)
    ∙ ap (λ x. take a m ++ x) (sym (append_assoc xs ys (drop (a + length xs + length ys) m))) ∙ ap (λ k. take a m ++ ((xs ++ ys) ++ drop k m)) place

-- a piece written after those that were written before
pub put_next : (m : List ℕ) (a : ℕ) (xs ys : List ℕ) (now new : List ℕ) (end : ℕ) → now ≡ put_at m a xs → end ≡ a + length xs → new ≡ put_at now end ys → a + length xs + length ys ≤ length m → new ≡ put_at m a (xs ++ ys)
put_next m a xs ys now new end before place here room = here ∙ ap (λ x. put_at x end ys) before ∙ ap (λ k. put_at (put_at m a xs) k ys) place ∙ put_two m a xs ys room

-- pieces one after another, from the beginning of m on
pub record Written (m xs now : List ℕ) (end : ℕ) : Type 0 where
  pub memory : now ≡ put_at m 0 xs
  pub after : end ≡ length xs

pub piece : (m xs ys now new : List ℕ) (end after : ℕ) → Written m xs now end → new ≡ put_at now end ys → after ≡ end + length ys → length xs + length ys ≤ length m → Written m (xs ++ ys) new after
piece m xs ys now new end after w here is room = record {
  memory = put_next m 0 xs ys now new end w.memory (omega (arith, w.after)) here (omega (arith, room));
  after = omega (arith, w.after, is, length-append xs ys);
}
