-- What bytes show of the line that they begin with.
use Rattle.std.proofs.Common.{◌≡◌, ℕ, ◌+◌, ◌<◌, ◌≤◌, List, [], ◌∷◌, ◌++◌, length, take, drop, Option, Some, None, is_some, Ok, Err, Bool, true, false, inl, inr, ◌&&◌, ◌||◌, ◌==◌, refl, sym, ◌∙◌, ap, arith}
use Rattle.std.specs.Prelude.{nat_lt}
use Rattle.std.specs.List.{position, position_or_len}
use Rattle.std.proofs.lemmas.List.{length-take, length-append, take-append-le, drop-append-le, take_all, drop_all}
use Rattle.std.proofs.lemmas.Bool.{lt-ltb, le-ltb, eq-eqb, ne_eqb, cases_lt}
use Rattle.fv_session.specs.declared.look.Look.TheVariants.{Line, Fault, Unknown}
use Rattle.fv_session.specs.declared.request.Request.{Request}
use Rattle.fv_session.specs.declared.request.Request.TheVariants.{Frame, Info, Quit, Bad, End}
use Rattle.fv_session.specs.declared.request.SessionFault.TheVariants.{LineTooLong, TooManyLines}
use Rattle.fv_session.specs.Requests.{is_newline, request_of}
use Rattle.fv_session.specs.Next.{next_of, first_line, after_line, count_after, Shows, Last}
use Rattle.fv_session.proofs.LineLemmas.{found_early, none_early, none_in_few, position_or_len-most}

module _ (count : ℕ) where
  -- ---- the next request of bytes that are some

  next-too_many : (left : List ℕ) → 0 < length left → count ≡ 1000000 → next_of count left ≡ Err TooManyLines
  unfolding next_of
  next-too_many [] some is = absurd (omega arith)
  next-too_many (byte ∷ bytes) some is = rw (eq-eqb count 1000000 is) refl

  next-too_long : (left : List ℕ) → 0 < length left → (count ≡ 1000000 → ⊥) → 4096 < length (first_line left) → next_of count left ≡ Err LineTooLong
  unfolding next_of
  next-too_long [] some differs long = absurd (omega arith)
  next-too_long (byte ∷ bytes) some differs long = rw (ne_eqb count 1000000 differs, lt-ltb 4096 (length (first_line (byte ∷ bytes))) long) refl

  next-asked : (left : List ℕ) → 0 < length left → (count ≡ 1000000 → ⊥) → length (first_line left) ≤ 4096 → next_of count left ≡ Ok (request_of (first_line left))
  unfolding next_of
  next-asked [] some differs few = absurd (omega arith)
  next-asked (byte ∷ bytes) some differs few = rw (ne_eqb count 1000000 differs, le-ltb 4096 (length (first_line (byte ∷ bytes))) few) refl

  some_more : (bytes more : List ℕ) → 0 < length bytes → 0 < length (bytes ++ more)
  some_more bytes more some = omega (arith, length-append bytes more)

  -- ---- what bytes show

  pub shows_too_many : (bytes : List ℕ) → 0 < length bytes → count ≡ 1000000 → Shows count bytes (Fault TooManyLines)
  shows_too_many bytes some is = (λ e. (let no : ⊥ = cc e in no), λ more. next-too_many (bytes ++ more) (some_more bytes more some) is)

  line_size : (bytes : List ℕ) → length (first_line bytes) ≡ position_or_len is_newline bytes
  line_size bytes = length-take (position_or_len is_newline bytes) bytes ∙ (let most = position_or_len-most is_newline bytes in omega arith)

  pub shows_too_long : (bytes : List ℕ) → (count ≡ 1000000 → ⊥) → position is_newline (take 4097 bytes) ≡ None → 4096 < length bytes → Shows count bytes (Fault LineTooLong)
  shows_too_long bytes differs none many = (
    λ e. (let no : ⊥ = cc e in no),
    λ more.
        let past = none_early is_newline 4097 bytes more none (omega arith) in
        next-too_long (bytes ++ more) (some_more bytes more (omega arith)) differs (omega (arith, past, line_size (bytes ++ more))),
  )

  module _ (bytes more : List ℕ) (end : ℕ) (found : position is_newline (take 4097 bytes) ≡ Some end) where
    place : (position_or_len is_newline (bytes ++ more) ≡ end) × (end < length bytes) × (end < 4097)
    place = found_early is_newline 4097 bytes more end found

    same_line : first_line (bytes ++ more) ≡ take end bytes
    same_line = ap (λ n. take n (bytes ++ more)) place.0 ∙ take-append-le end bytes more (omega (arith, place.1))

    next_line : (count ≡ 1000000 → ⊥) → next_of count (bytes ++ more) ≡ Ok (request_of (take end bytes))
    next_line differs =
        next-asked (bytes ++ more) (some_more bytes more (omega (arith, place.1))) differs (omega (arith, line_size (bytes ++ more), place.0, place.2))
        ∙ ap (λ (line : List ℕ). Ok (request_of line)) same_line

    rest_line : after_line (bytes ++ more) ≡ drop (end + 1) bytes ++ more
    rest_line = ap (λ n. drop (n + 1) (bytes ++ more)) place.0 ∙ drop-append-le (end + 1) bytes more (omega (arith, place.1))

  pub shows_line : (bytes : List ℕ) (end : ℕ) (request : Request) → (count ≡ 1000000 → ⊥) → position is_newline (take 4097 bytes) ≡ Some end
      → request ≡ request_of (take end bytes) → (request ≡ End → ⊥) → Shows count bytes (Line request (end + 1))
  shows_line bytes end request differs found is some = (
    let inside = (place bytes [] end found).1 in omega arith,
    differs,
    some,
    λ more. (next_line bytes more end found differs ∙ ap (λ (r : Request). Ok r) (sym is), rest_line bytes more end found),
  )

  and_false : (a : Bool) → (a && false) ≡ false
  and_false true = refl
  and_false false = refl

  pub shows_nothing : (bytes : List ℕ) → length bytes ≡ 0 → Shows count bytes Unknown
  shows_nothing [] is = (omega arith, refl)
  shows_nothing (byte ∷ bytes) is = absurd (omega arith)

  pub shows_unended : (bytes : List ℕ) → (count ≡ 1000000 → ⊥) → position is_newline (take 4097 bytes) ≡ None → length bytes ≤ 4096 → Shows count bytes Unknown
  shows_unended bytes differs none few = (few, rw (ne_eqb count 1000000 differs, none, le-ltb 4096 (length bytes) few) (and_false (nat_lt 0 (length bytes))))

  -- ---- the last bytes

  or_parts : (a b c : Bool) → (a || b || c) ≡ false → (a ≡ false) × (c ≡ false)
  or_parts false false c is = (refl, is)
  or_parts false true c is = absurd (let no : ⊥ = cc in no)
  or_parts true b c is = absurd (let no : ⊥ = cc in no)

  is_none_by : {A : Type 0} (o : Option A) → is_some o ≡ false → o ≡ None
  is_none_by None is = refl
  is_none_by (Some x) is = absurd (let no : ⊥ = cc in no)

pub last_none : (bytes : List ℕ) → length bytes ≡ 0 → Last bytes End
unfolding next_of
last_none [] is count few unknown = (refl, refl, omega arith, λ most. omega arith)
last_none (byte ∷ bytes) is count few unknown = absurd (omega arith)

given_one : (count : ℕ) (request : Request) → (request ≡ End → ⊥) → count_after count request ≡ count + 1
given_one count (Frame n) some = refl
given_one count Info some = refl
given_one count Quit some = refl
given_one count Bad some = refl
given_one count End some = absurd (some refl)

below : (count : ℕ) → (count ≡ 1000000 → ⊥) → count ≤ 1000000 → count < 1000000
below count differs most = elim (cases_lt count 1000000) [ inl less ↦ less | inr more ↦ absurd (differs (omega arith)) ]

pub last_line : (bytes : List ℕ) (request : Request) → 0 < length bytes → request ≡ request_of bytes → (request ≡ End → ⊥) → Last bytes request
last_line bytes request some is asks count few unknown =
    let tests : (count == 1000000 || nat_lt 4096 (length bytes) || is_some (position is_newline (take 4097 bytes))) ≡ false = rw (lt-ltb 0 (length bytes) some) at unknown in
    let both = or_parts count (count == 1000000) (nat_lt 4096 (length bytes)) (is_some (position is_newline (take 4097 bytes))) tests in
    let differs : count ≡ 1000000 → ⊥ = λ is. (let e = eq-eqb count 1000000 is in let no : ⊥ = cc (both.0, e) in no) in
    let none = is_none_by count (position is_newline (take 4097 bytes)) both.1 in
    let end = none_in_few is_newline 4097 bytes none (omega arith) in
    let whole : first_line bytes ≡ bytes = take_all (position_or_len is_newline bytes) bytes (omega (arith, end)) in
    let asked : next_of count bytes ≡ Ok request =
    next-asked count bytes some differs (omega (arith, ap length whole)) ∙ ap (λ (line : List ℕ). Ok (request_of line)) whole ∙ ap (λ (r : Request). Ok r) (sym is) in
    let all : after_line bytes ≡ [] = drop_all (position_or_len is_newline bytes + 1) bytes (omega (arith, end)) in
    (asked, all, given_one count request asks ∙ omega arith, λ most. (let less = below count differs most in omega arith))
