-- Bytes that were read are the front of what is left, and enough of it to tell what comes first.
use Rattle.std.proofs.Common.{◌≡◌, ℕ, ◌+◌, ◌<◌, ◌≤◌, List, [], ◌++◌, length, take, drop, Option, Some, None, is_some, codes, if◌then◌else◌, Bool, true, false, not, ◌&&◌, ◌||◌, nat_le, nat_eq, inl, inr, ◌⊎◌, refl, sym, ◌∙◌, ap, arith, slice_index}
use Rattle.std.specs.Str.{bytes_eq}
use Rattle.std.specs.List.{position, position_or_len, starts_with, slice_split}
use Rattle.std.proofs.lemmas.List.{take_all, append-nil, take-append-le, get_or_append_left, length-append}
use Rattle.std.proofs.lemmas.Bool.{cases_lt, cases_Bool, le-leb, lt-leb}
use Rattle.y4m_stream.specs.declared.fault.Y4mFault.{Y4mFault}
use Rattle.y4m_stream.specs.declared.fault.Y4mFault.TheVariants.{NotY4m, HeadTooLong}
use Rattle.y4m_stream.specs.Head.{magic, parameter_fault}
use Rattle.y4m_stream.specs.Stream.{is_space, is_newline, is_break, has_magic, has_line, parameters, head_fault, may_begin, is_bad}
use Rattle.y4m_stream.proofs.PlaceLemmas.{line_found, same_line}

-- where a line is, its newline is
line_by : (bytes : List ℕ) (o : Option ℕ) → position is_newline (take 4096 bytes) ≡ o → is_some o ≡ true → (position_or_len is_newline bytes < length bytes) × (position_or_len is_newline bytes < 4096)
line_by bytes None is some = absurd (let no : ⊥ = cc in no)
line_by bytes (Some end) is some = let at = line_found bytes end is in (omega (arith, at.0, at.1), omega (arith, at.0, at.2))

pub line_place : (bytes : List ℕ) → has_line bytes ≡ true → (position_or_len is_newline bytes < length bytes) × (position_or_len is_newline bytes < 4096)
line_place bytes is = line_by bytes (position is_newline (take 4096 bytes)) refl is

abbrev magic_by : List ℕ → ℕ → Bool
magic_by front next = bytes_eq magic front && is_break next

abbrev fault_by : Bool → Bool → Option Y4mFault → Option Y4mFault
fault_by magic line fault = if not magic then Some NotY4m else (if not line then Some HeadTooLong else fault)

abbrev begin_by : List ℕ → Bool → ℕ → Bool
begin_by front few next = starts_with nat_eq (codes "FRAME") front && (few || is_break next)

module _ (told bytes rest : List ℕ) (is : told ≡ bytes ++ rest) (enough : length bytes < 4096 → rest ≡ []) where
  all : rest ≡ [] → told ≡ bytes
  all none = is ∙ ap (λ (l : List ℕ). bytes ++ l) none ∙ append-nil bytes

  by_length : (told ≡ bytes) ⊎ (4096 ≤ length bytes)
  by_length = elim (cases_lt (length bytes) 4096) [
    | inl short ↦ inl (all (enough short))
    | inr long ↦ inr long
  ]

  front : (n : ℕ) → n ≤ length bytes → take n told ≡ take n bytes
  front n few = ap (λ (l : List ℕ). take n l) is ∙ take-append-le n bytes rest few

  byte_at : (n : ℕ) → n < length bytes → slice_index told n ≡ slice_index bytes n
  byte_at n within = ap (λ (l : List ℕ). slice_index l n) is ∙ get_or_append_left bytes rest 0 n within

  same_line_of : has_line told ≡ has_line bytes
  same_line_of = elim by_length [
    | inl whole ↦ ap has_line whole
    | inr long ↦ ap (λ (l : List ℕ). is_some (position is_newline l)) (front 4096 long)
  ]

  same_magic : has_magic told ≡ has_magic bytes
  same_magic = elim by_length [
    | inl whole ↦ ap has_magic whole
    | inr long ↦ ap (λ (l : List ℕ). magic_by l (slice_index told 9)) (front 9 (omega arith)) ∙ ap (λ b. magic_by (take 9 bytes) b) (byte_at 9 (omega arith))
  ]

  same_begin : may_begin told ≡ may_begin bytes
  same_begin = elim by_length [
    | inl whole ↦ ap may_begin whole
    | inr long ↦ (let few : nat_le (length told) 5 ≡ false = lt-leb (length told) 5 (omega (arith, ap length is, length-append bytes rest)) in
        let small : nat_le (length bytes) 5 ≡ false = lt-leb (length bytes) 5 (omega arith) in
        ap (λ (l : List ℕ). begin_by l (nat_le (length told) 5) (slice_index told 5)) (front 5 (omega arith)) ∙ ap (λ b. begin_by (take 5 bytes) b (slice_index told 5)) (few ∙ sym small) ∙ ap (λ b. begin_by (take 5 bytes) (nat_le (length bytes) 5) b) (byte_at 5 (omega arith)))
  ]

  -- the bytes that were read tell whether a frame may begin
  pub same_bad : is_bad told ≡ is_bad bytes
  same_bad = elim by_length [
    | inl whole ↦ ap is_bad whole
    | inr long ↦ (let more : nat_le 4096 (length told) ≡ true = le-leb 4096 (length told) (omega (arith, ap length is, length-append bytes rest)) in
        let much : nat_le 4096 (length bytes) ≡ true = le-leb 4096 (length bytes) long in
        ap (λ b. not b || (nat_le 4096 (length told) && not (has_line told))) same_begin ∙ ap (λ b. not (may_begin bytes) || (b && not (has_line told))) (more ∙ sym much) ∙ ap (λ b. not (may_begin bytes) || (nat_le 4096 (length bytes) && not b)) same_line_of)
  ]

  pub same_place : has_line bytes ≡ true → position_or_len is_newline told ≡ position_or_len is_newline bytes
  same_place line = (same_line told bytes rest is (line_place bytes line).0).0

  pub same_parameters : has_line bytes ≡ true → parameters told ≡ parameters bytes
  same_parameters line = ap (λ (l : List ℕ). slice_split is_space (drop 9 l)) (same_line told bytes rest is (line_place bytes line).0).1

  -- the bytes that were read tell the fault of the head
  pub same_fault : head_fault told ≡ head_fault bytes
  same_fault = elim (cases_Bool (has_line bytes)) [
    | inl line ↦ ap (λ b. fault_by b (has_line told) (parameter_fault (parameters told))) same_magic ∙ ap (λ b. fault_by (has_magic bytes) b (parameter_fault (parameters told))) same_line_of
        ∙ ap (λ (ps : List (List ℕ)). fault_by (has_magic bytes) (has_line bytes) (parameter_fault ps)) (same_parameters line)
    | inr none ↦ ap (λ b. fault_by b (has_line told) (parameter_fault (parameters told))) same_magic ∙ ap (λ b. fault_by (has_magic bytes) b (parameter_fault (parameters told))) (same_line_of ∙ none)
        ∙ sym (ap (λ b. fault_by (has_magic bytes) b (parameter_fault (parameters bytes))) none)
  ]

and_false : (b : Bool) → (b && false) ≡ false
and_false true = refl
and_false false = refl

-- a line that may begin a frame is a head
pub found_head : (bytes : List ℕ) (end : ℕ) → may_begin bytes ≡ true → position is_newline (take 4096 bytes) ≡ Some end
    → (is_bad bytes ≡ false) × (end + 1 ≡ position_or_len is_newline bytes + 1) × (end + 1 ≤ length bytes) × (end + 1 ≤ 4096)
found_head bytes end begins is =
    let at = line_found bytes end is in
    (rw (begins, is) (and_false (nat_le 4096 (length bytes))), omega (arith, at.0), omega (arith, at.1), omega (arith, at.2))

-- fewer bytes without a newline are the beginning of a head
pub cut_head : (bytes : List ℕ) → may_begin bytes ≡ true → position is_newline (take 4096 bytes) ≡ None → length bytes < 4096 → (is_bad bytes ≡ false) × (position is_newline bytes ≡ None) × (length bytes < 4096)
cut_head bytes begins is short = (rw (begins, lt-leb 4096 (length bytes) short) refl, ap (position is_newline) (sym (take_all 4096 bytes (omega arith))) ∙ is, short)
