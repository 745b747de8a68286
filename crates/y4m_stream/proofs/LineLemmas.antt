-- The words of a head that is written.
use Rattle.std.proofs.Common.{◌≡◌, ℕ, ◌<◌, ◌^◌, List, [], ◌∷◌, ◌++◌, length, true, false, refl, ◌∙◌, ap, arith, rules, codes}
use Rattle.std.proofs.lemmas.List.{length-append, get_or_append_left, get_or_at}
use Rattle.std.proofs.lemmas.List.Sums.{position_or_len_is}
use Rattle.std.proofs.lemmas.List.Elements.{All-nil, All-cons, All-append}
use Rattle.std.proofs.lemmas.List.Folds.{list_all-append}
use Rattle.std.proofs.lemmas.List.Splits.{slice_split_none, slice_split_at}
use Rattle.std.proofs.lemmas.Bool.{and_parts, and_from}
use Rattle.std.specs.List.{All, AllByRecursion, list_all, slice_split, join_with_byte, position_or_len}
use Rattle.std.specs.Char.{is_ascii_digit}
use Rattle.std.specs.Fmt.{decimal}
use Rattle.fv_plane.specs.declared.format.Field.{Field}
use Rattle.fv_plane.specs.declared.format.Field.TheVariants.{Progressive, Top, Bottom, Unknown}
use Rattle.fv_plane.specs.declared.format.Info.{Info}
use Rattle.fv_plane.specs.Info.{IsLawful}
use Rattle.fv_plane.specs.Format.{format_of}
use Rattle.y4m_stream.proofs.ColourLemmas.{IsWord, stays, colour_stays}
use Rattle.y4m_stream.specs.Head.{magic, field_name, ratio, written, head_line}
use Rattle.y4m_stream.specs.Stream.{is_space, is_newline}
use Rattle.y4m_stream.proofs.NumberLemmas.{decimal_digits}

digit_stays : (byte : ℕ) → is_ascii_digit byte ≡ true → stays byte ≡ true
digit_stays byte is = search rules

digits_stay : (digits : List ℕ) → list_all is_ascii_digit digits ≡ true → IsWord digits
digits_stay [] all = refl
digits_stay (digit ∷ digits) all =
    let both = and_parts (is_ascii_digit digit) (list_all is_ascii_digit digits) all in
    and_from (stays digit) (list_all stays digits) (digit_stays digit both.0) (digits_stay digits both.1)

-- a number is a word
decimal_stays : (n : ℕ) → n < 2 ^ 31 → IsWord (decimal n)
decimal_stays n small = digits_stay (decimal n) (decimal_digits n small)

both_stay : (one other : List ℕ) → IsWord one → IsWord other → IsWord (one ++ other)
both_stay one other first second = list_all-append stays one other ∙ and_from (list_all stays one) (list_all stays other) first second

ratio_stays : (num den : ℕ) → num < 2 ^ 31 → den < 2 ^ 31 → IsWord (ratio num den)
ratio_stays num den num_fits den_fits = both_stay (decimal num) (codes ":" ++ decimal den) (decimal_stays num num_fits) (decimal_stays den den_fits)

field_stays : (field : Field) → IsWord (field_name field)
field_stays Progressive = refl
field_stays Top = refl
field_stays Bottom = refl
field_stays Unknown = refl

-- no word of a head that is written has a space or a newline
pub written_words : (info : Info) → IsLawful info → AllByRecursion IsWord (written info)
written_words info lawful =
    let width = decimal_stays info.shape.width (omega (arith, lawful.shape.most_width)) in
    let height = decimal_stays info.shape.height (omega (arith, lawful.shape.most_height)) in
    let rate = ratio_stays info.num info.den lawful.rate.most_num lawful.rate.most_den in
    let par = ratio_stays info.par.num info.par.den lawful.par.num lawful.par.den in
    (width, (height, (rate, (field_stays info.field, (par, (colour_stays (format_of info.shape) info.tag lawful.shape.depth, tt))))))

-- a word has no space
no_space : (word : List ℕ) → IsWord word → All (λ byte. is_space byte ≡ false) word
no_space [] is = All-nil (λ byte. is_space byte ≡ false)
no_space (byte ∷ word) is =
    let both = and_parts (stays byte) (list_all stays word) is in
    All-cons (λ b. is_space b ≡ false) byte word (search rules) (no_space word both.1)

-- a word has no newline
no_newline : (word : List ℕ) → IsWord word → All (λ byte. is_newline byte ≡ false) word
no_newline [] is = All-nil (λ byte. is_newline byte ≡ false)
no_newline (byte ∷ word) is =
    let both = and_parts (stays byte) (list_all stays word) is in
    All-cons (λ b. is_newline b ≡ false) byte word (search rules) (no_newline word both.1)

-- words that are joined at spaces, cut at the spaces
pub split_words : (word : List ℕ) (words : List (List ℕ)) → AllByRecursion IsWord (word ∷ words) → slice_split is_space (join_with_byte 32 (word ∷ words)) ≡ word ∷ words
split_words word [] all = slice_split_none is_space word (no_space word all.0)
split_words word (next ∷ words) all =
    slice_split_at is_space word 32 (join_with_byte 32 (next ∷ words)) (no_space word all.0) refl ∙ ap (λ (l : List (List ℕ)). word ∷ l) (split_words next words all.1)

-- words that are joined at spaces have no newline
one_line : (words : List (List ℕ)) → AllByRecursion IsWord words → All (λ byte. is_newline byte ≡ false) (join_with_byte 32 words)
one_line [] all = All-nil (λ byte. is_newline byte ≡ false)
one_line (word ∷ []) all = no_newline word all.0
one_line (word ∷ next ∷ words) all =
    All-append (λ byte. is_newline byte ≡ false) word (32 ∷ join_with_byte 32 (next ∷ words)) (no_newline word all.0) (All-cons (λ byte. is_newline byte ≡ false) 32 (join_with_byte 32 (next ∷ words)) refl (one_line (next ∷ words) all.1))

-- a head that is written is one line
pub head_is_line : (info : Info) → IsLawful info → All (λ byte. is_newline byte ≡ false) (head_line info)
unfolding head_line
head_is_line info lawful = one_line (magic ∷ written info) (refl, written_words info lawful)

-- where a line ends
pub line_ends : (line rest : List ℕ) → All (λ byte. is_newline byte ≡ false) line → position_or_len is_newline (line ++ 10 ∷ rest) ≡ length line
line_ends line rest all =
    position_or_len_is is_newline (line ++ 10 ∷ rest) (length line) 0 (omega (arith, length-append line (10 ∷ rest)))
    (λ k inside. ap is_newline (get_or_append_left line (10 ∷ rest) 0 k inside) ∙ all k 0 inside)
    (λ inside. ap is_newline (get_or_at line 10 rest 0 (length line) refl))
