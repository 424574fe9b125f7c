-- Writing flips, the last one first. Assumes nothing.
use Rattle.std.proofs.Common.{◌≡◌, ℕ, ◌+◌, ◌≤◌, List, [], ◌∷◌, ◌++◌, length, take, drop, map, reverse, refl, sym, ap, ◌∙◌, arith}
use Rattle.std.proofs.lemmas.Grind.{flat_map-append}
use Rattle.std.proofs.lemmas.List.{length-append, reverse-append, map-append, append-nil, take-append-drop, take_at, drop_at, append_assoc}
use Rattle.actions.specs.declared.flip.Flip.{Flip}
use Rattle.actions.specs.Actions.{Edit}
use Rattle.ledger.specs.Homes.{flip_record, making}
use Rattle.reverse_script.specs.FlipTexts.{back_text}
use Rattle.scripts.specs.Records.{script_of, written}
use Rattle.scripts.specs.declared.record.Record.{Record}
use Rattle.scripts.specs.declared.record.Record.TheVariants.{Open, Close}
use Rattle.text.proofs.Puts.{put_next}
use Rattle.text.specs.Puts.{put_at}

pub back_cons : (f : Flip) (fs : List Flip) → back_text (f ∷ fs) ≡ back_text fs ++ written (flip_record f)
back_cons f fs =
    ap (λ x. script_of (map flip_record x)) (reverse-append (f ∷ []) fs)
    ∙ ap script_of (map-append flip_record (reverse fs) (f ∷ []))
    ∙ flat_map-append written (map flip_record (reverse fs)) (flip_record f ∷ [])
    ∙ ap (λ x. back_text fs ++ x) (append-nil (written (flip_record f)))

-- the flips that are left are `rest`, and one more, `last`
module _ (flips left rest : List Flip) (last : Flip) (front : left ≡ take (length left) flips) (fewer : length left ≤ length flips) (split : left ≡ rest ++ (last ∷ [])) where
  all_split : flips ≡ rest ++ (last ∷ drop (length left) flips)
  all_split = sym (take-append-drop (length left) flips) ∙ ap (λ x. x ++ drop (length left) flips) (sym front ∙ split) ∙ append_assoc rest (last ∷ []) (drop (length left) flips)

  pub one_less : length left ≡ length rest + 1
  one_less = ap length split ∙ length-append rest (last ∷ []) ∙ omega arith

  pub rest_front : rest ≡ take (length rest) flips
  rest_front = sym (ap (take (length rest)) all_split ∙ take_at rest (last ∷ drop (length left) flips) (length rest) refl)

  rest_back : drop (length rest) flips ≡ last ∷ drop (length left) flips
  rest_back = ap (drop (length rest)) all_split ∙ drop_at rest (last ∷ drop (length left) flips) (length rest) refl

  module _ (m now new : List ℕ) (a end after : ℕ) (r : Record) (is : r ≡ flip_record last) (so_far : now ≡ put_at m a (back_text (drop (length left) flips))) (place : end ≡ a + length (back_text (drop (length left) flips)))
      (here : new ≡ put_at now end (written r)) (next : after ≡ end + length (written r)) where
    more : back_text (drop (length rest) flips) ≡ back_text (drop (length left) flips) ++ written r
    more = ap back_text rest_back ∙ back_cons last (drop (length left) flips) ∙ ap (λ x. back_text (drop (length left) flips) ++ written x) (sym is)

    pub flip_after : after ≡ a + length (back_text (drop (length rest) flips))
    flip_after =
        let len = ap length more in
        let sum = length-append (back_text (drop (length left) flips)) (written r) in
        omega arith

    pub flip_put : end + length (written r) ≤ length m → new ≡ put_at m a (back_text (drop (length rest) flips))
    flip_put room =
        put_next m a (back_text (drop (length left) flips)) (written r) now new end so_far place here (omega arith)
        ∙ ap (put_at m a) (sym more)

-- a session that takes the flips fs back
pub session_text : (fs : List Flip) → script_of (making (Edit (reverse fs))) ≡ written Open ++ (back_text fs ++ written Close)
session_text fs =
    ap (λ x. written Open ++ x) (flat_map-append written (map flip_record (reverse fs)) (Close ∷ []) ∙ ap (λ x. back_text fs ++ x) (append-nil (written Close)))

pub session_put : (fs : List Flip) (m opened flipped closed : List ℕ) (a b c : ℕ) → opened ≡ put_at m a (written Open) → b ≡ a + length (written Open) → flipped ≡ put_at opened b (back_text fs) → c ≡ b + length (back_text fs)
    → closed ≡ put_at flipped c (written Close) → c + 6 ≤ length m → closed ≡ put_at m a (script_of (making (Edit (reverse fs))))
session_put fs m opened flipped closed a b c one b_is two c_is three room =
    let both = put_next m a (written Open) (back_text fs) opened flipped b one b_is two (omega arith) in
    let len = length-append (written Open) (back_text fs) in
    let all = put_next m a (written Open ++ back_text fs) (written Close) flipped closed c both (omega arith) three (omega arith) in
    all ∙ ap (put_at m a) (append_assoc (written Open) (back_text fs) (written Close) ∙ sym (session_text fs))
