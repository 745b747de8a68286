-- The head with which bytes begin.
use Rattle.std.proofs.Common.{◌≡◌, ℕ, ◌+◌, ◌-◌, ◌≤◌, List, take, drop, Some, None, Bool, true, false, nat_eq, slice_index, refl, sym, ◌∙◌, ap, arith}
use Rattle.std.specs.List.{position, position_or_len, starts_with, slice_split}
use Rattle.std.proofs.lemmas.List.{drop-take}
use Rattle.std.proofs.lemmas.Bool.{and_parts}
use Rattle.std.proofs.lemmas.Bool.Decides.{Decides-eqb}
use Rattle.std.proofs.lemmas.Slice.Eq.{starts_is}
use Rattle.y4m_stream.specs.Line.{IsLine}
use Rattle.y4m_stream.specs.declared.fault.Y4mFault.TheVariants.{NotY4m, HeadTooLong}
use Rattle.y4m_stream.specs.Head.{magic, info_of}
use Rattle.y4m_stream.specs.Stream.{is_space, is_newline, is_break, has_magic, has_line, parameters, head_fault, head_info}
use Rattle.y4m_stream.proofs.PlaceLemmas.{line_found, position_or_len-take}

pub no_magic : (bytes : List ℕ) → has_magic bytes ≡ false → head_fault bytes ≡ Some NotY4m
no_magic bytes is = rw is refl

pub no_line : (bytes : List ℕ) → has_magic bytes ≡ true → position is_newline (take 4096 bytes) ≡ None → head_fault bytes ≡ Some HeadTooLong
no_line bytes magic_is is = rw (magic_is, is) refl

-- the first line is as long as the magic word
after_magic : (bytes : List ℕ) (end : ℕ) → has_magic bytes ≡ true → position is_newline (take 4096 bytes) ≡ Some end → 9 ≤ end
after_magic bytes end magic_is is =
    let front : take 9 bytes ≡ magic = ap (λ (l : List ℕ). take 9 l) ((starts_is Decides-eqb bytes magic (starts_with nat_eq bytes magic) refl).0 (and_parts (starts_with nat_eq bytes magic) (is_break (slice_index bytes 9)) magic_is).0) in
    let at = line_found bytes end is in
    let size : position_or_len is_newline (take 9 bytes) ≡ 9 = ap (position_or_len is_newline) front in
    let least = position_or_len-take is_newline 9 bytes in
    omega (arith, size, least, at.0)

-- the line that was found
pub is_line : (bytes : List ℕ) (end : ℕ) → has_magic bytes ≡ true → position is_newline (take 4096 bytes) ≡ Some end → IsLine bytes end
is_line bytes end magic_is is =
    let more = after_magic bytes end magic_is is in
    let at = line_found bytes end is in
    let whole : end ≡ 9 + (end - 9) = omega (arith, more) in
    record {
      end_is = at.0;
      long = more;
      short = at.2;
      inside = at.1;
      parts = ap (λ (l : List ℕ). slice_split is_space l) (sym (drop-take 9 (end - 9) bytes) ∙ ap (λ n. drop 9 (take n bytes)) (sym whole ∙ at.0));
      fault = rw (magic_is, is) refl;
    }

-- the parameters count no frames
pub uncounted : (bytes : List ℕ) → info_of (parameters bytes) ≡ head_info bytes 0
unfolding info_of
uncounted bytes = refl

line_of_sound : (bytes : List ℕ) (magic_is line : Bool) → has_magic bytes ≡ magic_is → has_line bytes ≡ line → head_fault bytes ≡ None → line ≡ true
line_of_sound bytes magic_is true first second sound = refl
line_of_sound bytes true false first second sound = absurd (let no = rw (first, second) at sound in let never : ⊥ = cc in never)
line_of_sound bytes false false first second sound = absurd (let no = rw first at sound in let never : ⊥ = cc in never)

-- a head without a fault has a line
pub sound_line : (bytes : List ℕ) → head_fault bytes ≡ None → has_line bytes ≡ true
sound_line bytes sound = line_of_sound bytes (has_magic bytes) (has_line bytes) refl refl sound
