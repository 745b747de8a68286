-- Bytes that are added to a text, and what is left after them.
use Rattle.std.proofs.Common.{◌≡◌, ◌∙◌, ℕ, ◌+◌, ◌-◌, ◌<◌, ◌≤◌, List, [], ◌++◌, length, take, drop, sym, ap, arith}
use Rattle.std.proofs.lemmas.List.{append_assoc, drop-drop, take-append-drop, length-drop, length-append, append-nil, nil_from_length}
use Rattle.fv_io.specs.Reading.{Fills}
use Rattle.serve_replay.specs.Verdicts.{with_rest}

module _ (told buf : List ℕ) (count place now : ℕ) (fills : Fills (drop place told) count buf) (here : now ≡ place + count) where
  -- the bytes go over to the text
  pub piece_added : (text new : List ℕ) → new ≡ text ++ take count buf → with_rest new told now ≡ with_rest text told place
  piece_added text new is =
      ap (λ (l : List ℕ). l ++ drop now told) is ∙ append_assoc text (take count buf) (drop now told)
      ∙ ap (λ (l : List ℕ). text ++ l)
      (ap (λ (l : List ℕ). l ++ drop now told) fills.given ∙ ap (λ n. take count (drop place told) ++ drop n told) (here ∙ omega arith)
      ∙ ap (λ (l : List ℕ). take count (drop place told) ++ l) (sym (drop-drop count place told)) ∙ take-append-drop count (drop place told))

  -- fewer than the buffer holds come only at the end
  pub none_left : count ≤ length buf → (count ≡ length buf → ⊥) → drop now told ≡ []
  none_left bound other = nil_from_length (drop now told) (let ended = fills.ended (omega arith) in omega (arith, length-drop now told, length-drop place told, ended, here))

-- where nothing is left, the text is the whole
pub whole_text : (text told : List ℕ) (place : ℕ) → with_rest text told place ≡ told → drop place told ≡ [] → text ≡ told
whole_text text told place is none = sym (append-nil text) ∙ ap (λ (l : List ℕ). text ++ l) (sym none) ∙ is

-- where the text is too long, so is the whole
pub too_long : (text told : List ℕ) (place most : ℕ) → with_rest text told place ≡ told → most < length text → most < length told
too_long text told place most is long = omega (arith, ap length is, length-append text (drop place told), long)

-- the room that is left, up to one byte more than a text may have
pub room_left : (have more most room : ℕ) → have ≤ most → room ≤ most + 1 - have → more < have + room → more ≤ most
room_left have more most room few within fewer = omega arith
