-- The lines of bytes: the first, and those of what is left after it.
use Rattle.std.proofs.Common.{◌≡◌, ℕ, suc, ◌+◌, ◌<◌, ◌==◌, List, [], ◌∷◌, length, take, drop, Ok, Err, Bool, true, false, refl, sym, ◌∙◌, ap, arith}
use Rattle.std.specs.Prelude.{nat_lt, if◌then◌else◌}
use Rattle.std.specs.List.{position_or_len}
use Rattle.fv_session.specs.declared.request.Request.{Request}
use Rattle.fv_session.specs.declared.request.SessionFault.TheVariants.{LineTooLong, TooManyLines}
use Rattle.fv_session.specs.Requests.{is_newline, with_byte, lines, request_of, Asked, refused, then_ask, requests_after}
use Rattle.fv_session.specs.Next.{next_of, first_line, after_line, asked_by, ComeInTurn}

abbrev Splits : List ℕ → Type 0
Splits bytes = lines bytes ≡ first_line bytes ∷ lines (after_line bytes)

-- a byte in front of a line that goes on
longer : (byte : ℕ) (bytes : List ℕ) → is_newline byte ≡ false → (0 < length bytes → Splits bytes) → Splits (byte ∷ bytes)
unfolding lines
longer byte [] other rest = rw other refl
longer byte (next ∷ bytes) other rest =
    let whole : List ℕ = next ∷ bytes in
    let end : ℕ = position_or_len is_newline whole in
    let here : position_or_len is_newline (byte ∷ whole) ≡ suc end = rw other (omega arith) in
    let front : first_line (byte ∷ whole) ≡ byte ∷ first_line whole = ap (λ n. take n (byte ∷ whole)) here in
    let back : after_line (byte ∷ whole) ≡ after_line whole = ap (λ n. drop n (byte ∷ whole)) (let e : position_or_len is_newline (byte ∷ whole) + 1 ≡ suc (end + 1) = omega (arith, here) in e) in
    let cut : lines (byte ∷ whole) ≡ with_byte byte (lines whole) = rw other refl in
    cut ∙ ap (with_byte byte) (rest (omega arith))
    ∙ sym (ap (λ (l : List ℕ). l ∷ lines (after_line (byte ∷ whole))) front ∙ ap (λ (l : List ℕ). (byte ∷ first_line whole) ∷ lines l) back)

shorter : (byte : ℕ) (bytes : List ℕ) → is_newline byte ≡ true → Splits (byte ∷ bytes)
unfolding lines
shorter byte bytes is = rw is refl

pub splits : (bytes : List ℕ) → 0 < length bytes → Splits bytes
splits [] some = absurd (omega arith)
splits (byte ∷ bytes) some = by_test (is_newline byte) refl (splits bytes)
  where
    by_test : (test : Bool) → is_newline byte ≡ test → (0 < length bytes → Splits bytes) → Splits (byte ∷ bytes)
    by_test true is rest = shorter byte bytes is
    by_test false is rest = longer byte bytes is rest

chosen : (many long : Bool) (request : Request) (rest : Asked)
    → (if many then refused TooManyLines else if long then refused LineTooLong else then_ask request rest)
    ≡ asked_by (if many then Err TooManyLines else if long then Err LineTooLong else Ok request) rest
chosen true long request rest = refl
chosen false true request rest = refl
chosen false false request rest = refl

none : (count : ℕ) → requests_after count (lines []) ≡ asked_by (next_of count []) (requests_after (count + 1) (lines (after_line [])))
unfolding lines next_of
none count = refl

some : (count byte : ℕ) (bytes : List ℕ) → requests_after count (first_line (byte ∷ bytes) ∷ lines (after_line (byte ∷ bytes)))
    ≡ asked_by (next_of count (byte ∷ bytes)) (requests_after (count + 1) (lines (after_line (byte ∷ bytes))))
unfolding next_of
some count byte bytes =
    chosen (count == 1000000) (nat_lt 4096 (length (first_line (byte ∷ bytes)))) (request_of (first_line (byte ∷ bytes))) (requests_after (count + 1) (lines (after_line (byte ∷ bytes))))

pub come_in_turn : ComeInTurn
come_in_turn count [] = none count
come_in_turn count (byte ∷ bytes) = ap (requests_after count) (splits (byte ∷ bytes) (omega arith)) ∙ some count byte bytes
