-- The offsets of frames that were found one after the other.
use Rattle.std.proofs.Common.{◌≡◌, ℕ, zero, suc, ◌+◌, List, [], ◌∷◌, ◌++◌, length, refl, sym, ◌∙◌, ap, arith}
use Rattle.std.proofs.lemmas.List.{length-append}
use Rattle.y4m_stream.specs.Stream.{line_len, offsets_from}

-- where the frame after count others begins
abbrev pub start_after : List ℕ → ℕ → ℕ → ℕ → ℕ
start_after told size start zero = start
start_after told size start (suc count) = start_after told size (start + line_len told start + size) count

-- the offsets are those of frames from the start on, and the next begins at this place
pub record AreFrom (told : List ℕ) (size start place : ℕ) (offsets : List ℕ) : Type 0 where
  pub are : offsets ≡ offsets_from told size start (length offsets)
  pub next : place ≡ start_after told size start (length offsets)

-- another offset at the end
one_more : (told : List ℕ) (size start count : ℕ)
    → offsets_from told size start (suc count) ≡ offsets_from told size start count ++ (start_after told size start count + line_len told (start_after told size start count)) ∷ []
one_more told size start zero = refl
one_more told size start (suc count) = ap (λ (l : List ℕ). (start + line_len told start) ∷ l) (one_more told size (start + line_len told start + size) count)

next_more : (told : List ℕ) (size start count : ℕ)
    → start_after told size start (suc count) ≡ start_after told size start count + line_len told (start_after told size start count) + size
next_more told size start zero = refl
next_more told size start (suc count) = next_more told size (start + line_len told start + size) count

pub none_found : (told : List ℕ) (size start : ℕ) → AreFrom told size start start []
none_found told size start = record { are = refl; next = refl }

pub found_more : (told : List ℕ) (size start place len : ℕ) (offsets : List ℕ) → AreFrom told size start place offsets → len ≡ line_len told place
    → AreFrom told size start (place + len + size) (offsets ++ (place + len) ∷ [])
found_more told size start place len offsets before len_is =
    let longer : length (offsets ++ (place + len) ∷ []) ≡ suc (length offsets) = omega (arith, length-append offsets ((place + len) ∷ [])) in
    let here : place + len ≡ start_after told size start (length offsets) + line_len told (start_after told size start (length offsets))
    = ap (λ n. place + n) len_is ∙ ap (λ n. n + line_len told n) before.next in
    record {
      are = ap (λ (l : List ℕ). l ++ (place + len) ∷ []) before.are ∙ ap (λ n. offsets_from told size start (length offsets) ++ n ∷ []) here
          ∙ sym (one_more told size start (length offsets)) ∙ ap (offsets_from told size start) (sym longer);
      next = ap (λ n. n + size) here ∙ sym (next_more told size start (length offsets)) ∙ ap (start_after told size start) (sym longer);
    }
