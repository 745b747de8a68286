-- The case of letters changes no token and no fault.
use Rattle.std.proofs.Common.{◌≡◌, ◌∙◌, ℕ, ◌+◌, ◌-◌, ap, sym, subst, refl, List, [], ◌∷◌, ◌++◌, map, length, take, drop, get_or, Bool, ◌&&◌, ◌||◌, ◌==◌, nat_eq, codes, count_by, if◌then◌else◌}
use Rattle.std.specs.List.{starts_with, prefix_len}
use Rattle.std.specs.Char.{to_ascii_lowercase}
use Rattle.std.proofs.lemmas.List.{take-map, drop-map, length-map, drop-drop}
use Rattle.avs_lex.specs.declared.fault.LexKind.{LexKind}
use Rattle.avs_lex.specs.declared.piece.Piece.TheVariants.{EndOfScript}
use Rattle.avs_lex.specs.declared.token.Token.{Token}
use Rattle.avs_lex.specs.declared.token.TokenKind.{TokenKind}
use Rattle.avs_lex.specs.declared.token.TokenKind.TheVariants.{End}
use Rattle.avs_lex.specs.Spelling.{Text, newline, is_newline, is_blank}
use Rattle.avs_lex.specs.Piece.{front, piece, is_end_line, ends_line, without_blanks}
use Rattle.avs_lex.specs.Tokens.{start_of, line_at, begins_line, piece_at, token_at, open_parentheses_after, ReadTo, begin, blank, token, Tokens, LexFault}
use Rattle.lex_laws.specs.Case.{DifferInCase, CaseKeepsTokens, CaseKeepsFaults, CaseKeepsBytes}
use Rattle.lex_laws.proofs.CaseLemmas.{low, low_text, runs, count_low, starts_low, newline_low, is_at, blank_low, front_low}
use Rattle.lex_laws.proofs.SameLemmas.{both_same, either_same, choice_same}

-- what small letters don't change is the same for two texts that have the same small letters
alike : {X : Type 0} (of : Text → X) (text other : Text) → ((t : Text) → of (map low t) ≡ of t) → map low text ≡ map low other → of text ≡ of other
alike of text other each same = sym (each text) ∙ ap of same ∙ each other

-- ---- end lines

ends_low : (text : Text) → ends_line (map low text) ≡ ends_line text
ends_low text = either_same (length (map low text) == 0) (length text == 0) (get_or (map low text) 0 0 == newline) (get_or text 0 0 == newline) (ap (λ n. n == 0) (length-map text low)) (is_at newline refl text 0)

without_low : (text : Text) → without_blanks (map low text) ≡ map low (without_blanks text)
without_low text = ap (λ n. drop n (map low text)) (runs is_blank blank_low text) ∙ drop-map low (prefix_len is_blank text) text

abbrev tail_ends : Text → Bool
tail_ends text = ends_line (without_blanks (drop 7 (without_blanks text)))

tail_low : (text : Text) → tail_ends (map low text) ≡ tail_ends text
tail_low text =
    let word = without_blanks text in
    ap (λ t. ends_line (without_blanks (drop 7 t))) (without_low text) ∙ ap (λ t. ends_line (without_blanks t)) (drop-map low 7 word) ∙ ap ends_line (without_low (drop 7 word)) ∙ ends_low (without_blanks (drop 7 word))

abbrev is_end : Text → Bool
is_end text = starts_with nat_eq text (codes "__END__")

end_same : (text other : Text) → map low text ≡ map low other → ((k : ℕ) → is_end (drop k text) ≡ is_end (drop k other)) → is_end_line text ≡ is_end_line other
end_same text other same ends =
    let size = prefix_len is_blank text in
    let sizes : size ≡ prefix_len is_blank other = alike (prefix_len is_blank) text other (runs is_blank blank_low) same in
    both_same (is_end (without_blanks text)) (is_end (without_blanks other)) (tail_ends text) (tail_ends other)
    (ends size ∙ ap (λ n. is_end (drop n other)) sizes) (alike tail_ends text other tail_low same)

-- ---- pieces

piece_like : (begins : Bool) (n : ℕ) (text other : Text) → map low text ≡ map low other → ((k : ℕ) → is_end (drop k text) ≡ is_end (drop k other)) → piece begins n text ≡ piece begins n other
piece_like begins n text other same ends =
    let empty = alike (λ t. length t == 0) text other (λ t. ap (λ n. n == 0) (length-map t low)) same in
    let line = both_same begins begins (is_end_line text) (is_end_line other) refl (end_same text other same ends) in
    choice_same (length text == 0 || (begins && is_end_line text)) (length other == 0 || (begins && is_end_line other)) EndOfScript EndOfScript (front n text) (front n other)
    (either_same (length text == 0) (length other == 0) (begins && is_end_line text) (begins && is_end_line other) empty line) refl (alike (front n) text other (front_low n) same)

module _ (text other : Text) (same : map low text ≡ map low other) (ends : (k : ℕ) → is_end (drop k text) ≡ is_end (drop k other)) where
  start_same : start_of text ≡ start_of other
  start_same = ap (λ b. if b then 3 else 0) (alike (λ t. starts_with nat_eq t (239 ∷ 187 ∷ 191 ∷ [])) text other (λ t. starts_low (239 ∷ 187 ∷ 191 ∷ []) t refl) same)

  begins_same : (offset : ℕ) → begins_line text offset ≡ begins_line other offset
  begins_same offset =
      either_same (offset == start_of text) (offset == start_of other) (get_or text (offset - 1) 0 == newline) (get_or other (offset - 1) 0 == newline)
      (ap (λ s. offset == s) start_same) (alike (λ t. get_or t (offset - 1) 0 == newline) text other (λ t. is_at newline refl t (offset - 1)) same)

  rest_same : (offset : ℕ) → map low (drop offset text) ≡ map low (drop offset other)
  rest_same offset = sym (drop-map low offset text) ∙ ap (drop offset) same ∙ drop-map low offset other

  rest_ends : (offset k : ℕ) → is_end (drop k (drop offset text)) ≡ is_end (drop k (drop offset other))
  rest_ends offset k = ap is_end (drop-drop k offset text) ∙ ends (offset + k) ∙ ap is_end (sym (drop-drop k offset other))

  piece_same : (offset n : ℕ) → piece_at text n offset ≡ piece_at other n offset
  piece_same offset n =
      ap (λ b. piece b n (drop offset text)) (begins_same offset) ∙ piece_like (begins_line other offset) n (drop offset text) (drop offset other) (rest_same offset) (rest_ends offset)

  line_same : (offset : ℕ) → line_at text offset ≡ line_at other offset
  line_same offset = alike (λ t. line_at t offset) text other (λ t. ap (λ u. 1 + count_by is_newline u) (take-map low offset t) ∙ ap (λ n. 1 + n) (count_low is_newline newline_low 0 (take offset t))) same

  token_same : (kind : TokenKind) (size offset : ℕ) → token_at text kind size offset ≡ token_at other kind size offset
  token_same kind size offset = ap (λ l. on_line kind offset (offset + size) l) (line_same offset)
    where
      on_line : TokenKind → ℕ → ℕ → ℕ → Token
      on_line kind start end l = record { kind = kind; start = start; end = end; line = l }

  read_same : (offset n : ℕ) (tokens : List Token) → ReadTo text offset n tokens → ReadTo other offset n tokens
  read_same offset n tokens begin = subst (λ s. ReadTo other s 0 []) (sym start_same) begin
  read_same offset n tokens (blank {offset = old} size read is) = blank size (read_same old n tokens read) (sym (piece_same old n) ∙ is)
  read_same offset n tokens (token {offset = old} {open_parentheses = outside} {tokens = before} kind size read is) =
      subst (λ one. ReadTo other (old + size) (open_parentheses_after kind outside) (before ++ one ∷ [])) (sym (token_same kind size old)) (token kind size (read_same old outside before read) (sym (piece_same old outside) ∙ is))

  tokens_same : (tokens : List Token) → Tokens text tokens → Tokens other tokens
  tokens_same tokens are = record {
    offset = are.offset;
    open_parentheses = are.open_parentheses;
    before = are.before;
    read = read_same are.offset are.open_parentheses are.before are.read;
    ends = sym (piece_same are.offset are.open_parentheses) ∙ are.ends;
    are = are.are ∙ ap (λ one. are.before ++ one ∷ []) (token_same End 0 are.offset);
  }

  fault_same : (kind : LexKind) (line : ℕ) → LexFault text kind line → LexFault other kind line
  fault_same kind line fault = record {
    offset = fault.offset;
    open_parentheses = fault.open_parentheses;
    before = fault.before;
    read = read_same fault.offset fault.open_parentheses fault.before fault.read;
    fails = sym (piece_same fault.offset fault.open_parentheses) ∙ fault.fails;
    is = fault.is ∙ line_same fault.offset;
  }

letters : (text other : Text) → DifferInCase text other → map low text ≡ map low other
letters text other differ = low_text text ∙ differ.letters ∙ sym (low_text other)

pub case_keeps_tokens : CaseKeepsTokens
case_keeps_tokens text other tokens differ = tokens_same text other (letters text other differ) differ.ends tokens

pub case_keeps_faults : CaseKeepsFaults
case_keeps_faults text other kind line differ = fault_same text other (letters text other differ) differ.ends kind line

pub case_keeps_bytes : CaseKeepsBytes
case_keeps_bytes text other one differ =
    let size = one.end - one.start in
    let cut = λ (t : Text). sym (take-map to_ascii_lowercase size (drop one.start t)) ∙ ap (take size) (sym (drop-map to_ascii_lowercase one.start t)) in
    cut text ∙ ap (λ t. take size (drop one.start t)) differ.letters ∙ sym (cut other)
