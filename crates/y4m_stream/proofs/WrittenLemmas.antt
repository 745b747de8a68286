-- What is written for a clip is a stream of it.
use Rattle.std.proofs.Common.{map, suc, ◌≡◌, ℕ, ◌+◌, ◌<◌, ◌^◌, List, [], ◌∷◌, ◌++◌, length, take, drop, Some, None, is_none, Bool, true, false, ◌&&◌, ◌||◌, ◌/◌, nat_le, refl, sym, ◌∙◌, ap, arith, codes, rules}
use Rattle.std.specs.List.{All, AllByRecursion, list_all, position, position_or_len, before_first, after_first, slice_split, join_with_byte}
use Rattle.std.specs.Fmt.{decimal}
use Rattle.std.specs.Char.{is_ascii_digit}
use Rattle.std.proofs.lemmas.List.{append_assoc, length-map, length-append, length-take, take_at, drop_at, get_or_append_left, get_or_at}
use Rattle.std.proofs.lemmas.List.Elements.{All-nil, All-cons}
use Rattle.std.proofs.lemmas.List.Sums.{position_or_len_is}
use Rattle.std.proofs.lemmas.List.Splits.{slice_split-cons_yes}
use Rattle.std.proofs.lemmas.Bool.{and_parts, lt-ltb, le-ltb}
use Rattle.std.proofs.Math.Nat.{div-one}
use Rattle.fv_plane.specs.declared.format.Field.{Field}
use Rattle.fv_plane.specs.declared.format.Field.TheVariants.{Progressive, Top, Bottom, Unknown}
use Rattle.fv_plane.specs.declared.format.Info.{Info}
use Rattle.fv_plane.specs.Format.{frame_bytes, format_of}
use Rattle.fv_plane.specs.Info.{IsRate, IsLawful}
use Rattle.y4m_stream.proofs.ColourLemmas.{OwnName, colour_read}
use Rattle.y4m_stream.specs.Head.{field_name, ratio, written, head_line, head, value, number, is_colon, ratio_in, rate_of, field_of, info_of, parameter_fault}
use Rattle.fv_plane.specs.Picture.{Picture, bytes_of, picture_of, IsPictureOf}
use Rattle.fv_plane.proofs.CallerLemmas.{length-bytes_of, picture_of-bytes_of, whole_sides}
use Rattle.y4m_stream.specs.Laws.{WrittenIsStream}
use Rattle.y4m_stream.specs.Stream.{is_space, is_newline, has_magic, has_line, parameters, head_fault, head_info, size_of, body, may_begin, IsFrame, FramesThen, ConsistsOf, frames_text}
use Rattle.fv_plane.proofs.GcdLemmas.{gcd_found}
use Rattle.y4m_stream.proofs.GcdLemmas.{lowest_is}
use Rattle.y4m_stream.proofs.LineLemmas.{written_words, split_words, head_is_line, line_ends}
use Rattle.y4m_stream.proofs.NumberLemmas.{decimal_digits, number-decimal}
use Rattle.y4m_stream.proofs.PlaceLemmas.{position_or_len-take}
use Rattle.y4m_stream.proofs.PrintLemmas.{short_line}
use Rattle.y4m_stream.proofs.SaysLemmas.{info_is, no_fault}

digit_no_colon : (digit : ℕ) → is_ascii_digit digit ≡ true → is_colon digit ≡ false
digit_no_colon digit is = search rules

no_colon : (digits : List ℕ) → list_all is_ascii_digit digits ≡ true → All (λ byte. is_colon byte ≡ false) digits
no_colon [] all = All-nil (λ byte. is_colon byte ≡ false)
no_colon (digit ∷ digits) all =
    let both = and_parts (is_ascii_digit digit) (list_all is_ascii_digit digits) all in
    All-cons (λ byte. is_colon byte ≡ false) digit digits (digit_no_colon digit both.0) (no_colon digits both.1)

-- digits end at a colon
colon_ends : (digits rest : List ℕ) → All (λ byte. is_colon byte ≡ false) digits → position_or_len is_colon (digits ++ 58 ∷ rest) ≡ length digits
colon_ends digits rest all =
    position_or_len_is is_colon (digits ++ 58 ∷ rest) (length digits) 0 (omega (arith, length-append digits (58 ∷ rest)))
    (λ k inside. ap is_colon (get_or_append_left digits (58 ∷ rest) 0 k inside) ∙ all k 0 inside)
    (λ inside. ap is_colon (get_or_at digits 58 rest 0 (length digits) refl))

-- two numbers that are written around a colon are read
ratio_read : (num den : ℕ) → num < 2 ^ 31 → den < 2 ^ 31 → ratio_in (ratio num den) ≡ Some (num, den)
ratio_read num den few small =
    let text : List ℕ = decimal num ++ 58 ∷ decimal den in
    let at : position_or_len is_colon text ≡ length (decimal num) = colon_ends (decimal num) (decimal den) (no_colon (decimal num) (decimal_digits num few)) in
    let front : before_first is_colon text ≡ decimal num = ap (λ n. take n text) at ∙ take_at (decimal num) (58 ∷ decimal den) (length (decimal num)) refl in
    let back : after_first is_colon text ≡ decimal den
    = ap (λ n. drop (n + 1) text) at ∙ ap (λ (l : List ℕ). drop (length (decimal num) + 1) l) (sym (append_assoc (decimal num) (58 ∷ []) (decimal den)))
    ∙ drop_at (decimal num ++ 58 ∷ []) (decimal den) (length (decimal num) + 1) (length-append (decimal num) (58 ∷ [])) in
    rw (front, back, number-decimal num few, number-decimal den small) refl

rate_read : (num den : ℕ) → IsRate num den → rate_of (Some (ratio num den)) ≡ Some (num, den)
rate_read num den rate =
    rw (ratio_read num den rate.most_num rate.most_den) (lowest_is num den rate.some_num rate.some_den ∙ rw (gcd_found num den 1 rate.lowest rate.some_num rate.some_den) (ap (λ n. Some (n, den / 1)) (div-one num) ∙ ap (λ n. Some (num, n)) (div-one den)))

field_read : (field : Field) → field_of (Some (field_name field)) ≡ field
field_read Progressive = refl
field_read Top = refl
field_read Bottom = refl
field_read Unknown = refl

-- a line that is short enough is found
line_early : (bytes : List ℕ) → position_or_len is_newline bytes < 4096 → position_or_len is_newline bytes < length bytes → has_line bytes ≡ true
line_early bytes short inside =
    let front = position_or_len-take is_newline 4096 bytes in
    let size = length-take 4096 bytes in
    rw (lt-ltb (position_or_len is_newline (take 4096 bytes)) (length (take 4096 bytes)) (omega arith)) refl

found : (bytes : List ℕ) → position_or_len is_newline bytes < length bytes → is_none (position is_newline bytes) ≡ false
found bytes inside = rw (lt-ltb (position_or_len is_newline bytes) (length bytes) inside) refl

module _ (info : Info) (rest : List ℕ) (lawful : IsLawful info) (own : OwnName info.shape.kind info.shape.bits info.tag) where
  abbrev bytes : List ℕ
  bytes = head info ++ rest

  place : position_or_len is_newline bytes ≡ length (head_line info)
  place = ap (position_or_len is_newline) (append_assoc (head_line info) (10 ∷ []) rest) ∙ line_ends (head_line info) rest (head_is_line info lawful)

  size : length bytes ≡ length (head_line info) + 1 + length rest
  size = length-append (head info) rest ∙ ap (λ n. n + length rest) (length-append (head_line info) (10 ∷ []))

  line : before_first is_newline bytes ≡ head_line info
  line = ap (λ n. take n bytes) place ∙ ap (take (length (head_line info))) (append_assoc (head_line info) (10 ∷ []) rest) ∙ take_at (head_line info) (10 ∷ rest) (length (head_line info)) refl

  pub body_is : body bytes ≡ rest
  body_is = ap (λ n. drop (n + 1) bytes) place ∙ drop_at (head info) rest (length (head_line info) + 1) (length-append (head_line info) (10 ∷ []))

  magic_first : has_magic bytes ≡ true
  unfolding head_line
  magic_first = refl

  after_magic : drop 9 (head_line info) ≡ 32 ∷ join_with_byte 32 (written info)
  unfolding head_line
  after_magic = refl

  words : parameters bytes ≡ [] ∷ written info
  words =
      ap (λ (l : List ℕ). slice_split is_space (drop 9 l)) line ∙ ap (slice_split is_space) after_magic ∙ slice_split-cons_yes is_space 32 (join_with_byte 32 (written info)) refl
      ∙ ap (λ (l : List (List ℕ)). [] ∷ l) (split_words _ _ (written_words info lawful))

  abbrev ps : List (List ℕ)
  ps = [] ∷ written info

  has_w : value 87 ps ≡ Some (decimal info.shape.width)
  has_w = refl

  has_h : value 72 ps ≡ Some (decimal info.shape.height)
  has_h = refl

  rate_is : rate_of (value 70 ps) ≡ Some (info.num, info.den)
  rate_is = rate_read info.num info.den lawful.rate

  par_is : ratio_in (ratio info.par.num info.par.den) ≡ Some (info.par.num, info.par.den)
  par_is = ratio_read info.par.num info.par.den lawful.par.num lawful.par.den

  wide : number (decimal info.shape.width) ≡ Some info.shape.width
  wide = number-decimal info.shape.width (omega (arith, lawful.shape.most_width))

  high : number (decimal info.shape.height) ≡ Some info.shape.height
  high = number-decimal info.shape.height (omega (arith, lawful.shape.most_height))

  says : info_of ps ≡ record info { frames = 0 }
  says =
      info_is ps (decimal info.shape.width) (decimal info.shape.height) has_w has_h info.shape.width wide info.shape.height high (info.num, info.den) rate_is (info.par.num, info.par.den) par_is (format_of info.shape, info.tag) (colour_read (format_of info.shape) info.tag lawful.shape.depth own)
      ∙ ap (λ (f : Field). record info { frames = 0; field = f }) (field_read info.field)

  no_fault_said : parameter_fault ps ≡ None
  no_fault_said =
      no_fault ps (decimal info.shape.width) (decimal info.shape.height) has_w has_h info.shape.width wide info.shape.height high (info.num, info.den) rate_is (info.par.num, info.par.den) par_is (format_of info.shape, info.tag) (colour_read (format_of info.shape) info.tag lawful.shape.depth own)
      (whole_sides info.shape lawful.shape) lawful.shape.most_bytes

  pub sound : head_fault bytes ≡ None
  sound =
      let short = short_line info lawful in
      rw (magic_first, line_early bytes (omega (arith, place)) (omega (arith, place, size)), words, no_fault_said) refl

  pub info_said : (n : ℕ) → record info { frames = n } ≡ head_info bytes n
  info_said n = sym (ap (λ (l : List (List ℕ)). record (info_of l) { frames = n }) words ∙ ap (λ (i : Info). record i { frames = n }) says)

or_true : (b : Bool) → (b || true) ≡ true
or_true true = refl
or_true false = refl

and_false : (b : Bool) → (b && false) ≡ false
and_false true = refl
and_false false = refl

-- a frame that is written comes first
module _ (size : ℕ) (content rest : List ℕ) (whole : length content ≡ size) where
  abbrev text : List ℕ
  text = codes "FRAME\n" ++ (content ++ rest)

  newline_at : position_or_len is_newline text ≡ 5
  newline_at = refl

  long : length text ≡ 6 + length content + length rest
  long = omega (arith, length-append content rest)

  begins : may_begin text ≡ true
  begins = or_true (nat_le (length text) 5)

  after : after_first is_newline text ≡ content ++ rest
  after = refl

  pub is_frame : IsFrame size text content rest
  is_frame = record {
    good = rw (begins, line_early text (omega (arith, newline_at)) (omega (arith, newline_at, long))) (and_false (nat_le 4096 (length text)));
    whole = rw (found text (omega (arith, newline_at, long)), le-ltb (length (after_first is_newline text)) size (omega (arith, ap length after, length-append content rest, whole))) refl;
    frame_is = sym (take_at content rest size whole);
    rest_is = sym (drop_at content rest size whole);
  }

are_frames : (size : ℕ) (frames : List (List ℕ)) → AllByRecursion (λ content. length content ≡ size) frames → FramesThen size (frames_text frames) frames []
are_frames size [] sizes = refl
are_frames size (content ∷ frames) sizes =
    (frames_text frames, rw (append_assoc (codes "FRAME\n") content (frames_text frames)) (is_frame size content (frames_text frames) sizes.0), are_frames size frames sizes.1)

written_consists : (info : Info) (frames : List (List ℕ)) → IsLawful info → OwnName info.shape.kind info.shape.bits info.tag → length frames ≡ info.frames → AllByRecursion (λ frame. length frame ≡ frame_bytes info.shape) frames
    → ConsistsOf (head info ++ frames_text frames) info frames
written_consists info frames lawful own count sizes =
    let rest : List ℕ = frames_text frames in
    let said : info ≡ head_info (head info ++ rest) (length frames) = ap (λ n. record info { frames = n }) (sym count) ∙ info_said info rest lawful own (length frames) in
    let size_is : frame_bytes info.shape ≡ size_of (head info ++ rest) = ap (λ (i : Info). frame_bytes i.shape) said in
    record {
      head = sound info rest lawful own;
      info_is = said;
      frames_are = rw (← size_is, body_is info rest lawful own) (are_frames (frame_bytes info.shape) frames sizes);
      some = (let some = lawful.some in omega arith);
      most = (let most = lawful.most in omega arith);
    }

sizes_of : (info : Info) (pictures : List Picture) → All (IsPictureOf info) pictures → AllByRecursion (λ frame. length frame ≡ frame_bytes info.shape) (map bytes_of pictures)
sizes_of info [] all = tt
sizes_of info (picture ∷ pictures) all =
    let first = all 0 picture (omega arith) in
    (length-bytes_of picture first.whole ∙ ap frame_bytes first.shape, sizes_of info pictures (λ k d inside. all (suc k) d (omega arith)))

pictures_again : (info : Info) (pictures : List Picture) → All (IsPictureOf info) pictures → pictures ≡ map (picture_of info.shape) (map bytes_of pictures)
pictures_again info [] all = refl
pictures_again info (picture ∷ pictures) all =
    let first = all 0 picture (omega arith) in
    let again : picture ≡ picture_of info.shape (bytes_of picture) = sym (ap (λ shape. picture_of shape (bytes_of picture)) (sym first.shape) ∙ picture_of-bytes_of picture first.whole) in
    let later = pictures_again info pictures (λ k d inside. all (suc k) d (omega arith)) in
    ap (λ p. p ∷ pictures) again ∙ ap (λ (l : List Picture). picture_of info.shape (bytes_of picture) ∷ l) later

pub written_is_stream : WrittenIsStream
written_is_stream clip is own = record {
  frames = map bytes_of clip.pictures;
  consists = written_consists clip.info (map bytes_of clip.pictures) is.info own (length-map clip.pictures bytes_of ∙ is.count) (sizes_of clip.info clip.pictures is.pictures);
  pictures_are = pictures_again clip.info clip.pictures is.pictures;
}
