-- What follows an end line is not read.
use Rattle.std.proofs.Common.{◌≡◌, ◌∙◌, ℕ, ◌+◌, ◌-◌, ◌≤◌, ap, sym, subst, arith, List, [], ◌∷◌, ◌++◌, length, take, drop, get_or, ◌==◌, codes, length-append, length-drop, append_assoc, count_by, if◌then◌else◌}
use Rattle.std.proofs.lemmas.List.{take-append-le, drop-append-le}
use Rattle.avs_lex.specs.declared.piece.Piece.{Piece}
use Rattle.avs_lex.specs.declared.piece.Piece.TheVariants.{Blank, One, EndOfScript}
use Rattle.avs_lex.specs.declared.token.Token.{Token}
use Rattle.avs_lex.specs.declared.token.TokenKind.{TokenKind}
use Rattle.avs_lex.specs.declared.token.TokenKind.TheVariants.{End}
use Rattle.avs_lex.specs.Spelling.{Text, newline, is_newline}
use Rattle.avs_lex.specs.Piece.{piece}
use Rattle.avs_lex.specs.Tokens.{start_of, line_at, begins_line, piece_at, token_at, open_parentheses_after, ReadTo, begin, blank, token, Tokens}
use Rattle.avs_lex.proofs.WordLemmas.{starts_with_more}
use Rattle.lex_laws.specs.EndLine.{IsEndLine, RestIsNotRead}
use Rattle.lex_laws.proofs.AgreeLemmas.{same_at, Reaches, piece_keeps}
use Rattle.lex_laws.proofs.SameLemmas.{either_same}

-- the script ends at this offset
record Ends (text : Text) (offset : ℕ) (tokens : List Token) : Type 0 where
  are : Tokens text tokens
  at : are.offset ≡ offset

-- two texts that are the same up to a newline, and an offset that lies well before it
module _ (head word t t' : Text) (long : 7 ≤ length word) where
  abbrev both : Text
  both = head ++ word

  abbrev one : Text
  one = both ++ newline ∷ t

  abbrev other : Text
  other = both ++ newline ∷ t'

  far : length head + 7 ≤ length both
  far = omega (arith, long, length-append head word)

  start_same : start_of one ≡ start_of other
  start_same =
      let three : 3 ≤ length both = omega (arith, far) in
      ap (λ b. if b then 3 else 0) (starts_with_more both (239 ∷ 187 ∷ 191 ∷ []) (newline ∷ t) three ∙ sym (starts_with_more both (239 ∷ 187 ∷ 191 ∷ []) (newline ∷ t') three))

  begins_same : (offset : ℕ) → offset ≤ length head → begins_line one offset ≡ begins_line other offset
  begins_same offset low =
      let before = ap (λ c. c == newline) (same_at both t t' (offset - 1) (omega (arith, far, low))) in
      either_same (offset == start_of one) (offset == start_of other) (get_or one (offset - 1) 0 == newline) (get_or other (offset - 1) 0 == newline) (ap (λ s. offset == s) start_same) before

  left : (offset : ℕ) → offset ≤ length head → drop offset one ≡ drop offset both ++ newline ∷ t
  left offset low = drop-append-le offset both (newline ∷ t) (omega (arith, far, low))

  right : (offset : ℕ) → offset ≤ length head → drop offset other ≡ drop offset both ++ newline ∷ t'
  right offset low = drop-append-le offset both (newline ∷ t') (omega (arith, far, low))

  piece_same : (offset n : ℕ) (p : Piece) → offset ≤ length head → Reaches (length (drop offset both)) p → piece_at one n offset ≡ p → piece_at other n offset ≡ p
  piece_same offset n p low near is =
      let begins = begins_line one offset in
      let keeps = piece_keeps begins n (drop offset both) t t' (omega (arith, far, low, length-drop offset both)) in
      let here : piece begins n (drop offset both ++ newline ∷ t) ≡ p = ap (piece begins n) (sym (left offset low)) ∙ is in
      let there = keeps.keeps p here near in
      ap (λ b. piece b n (drop offset other)) (sym (begins_same offset low)) ∙ ap (piece begins n) (right offset low) ∙ there

  token_same : (kind : TokenKind) (size offset : ℕ) → offset ≤ length head → token_at one kind size offset ≡ token_at other kind size offset
  token_same kind size offset low =
      let within : offset ≤ length both = omega (arith, far, low) in
      let taken : take offset one ≡ take offset other = take-append-le offset both (newline ∷ t) within ∙ sym (take-append-le offset both (newline ∷ t') within) in
      let line : line_at one offset ≡ line_at other offset = ap (λ u. 1 + count_by is_newline u) taken in
      ap (λ l. token_on kind size offset l) line
    where
      token_on : TokenKind → ℕ → ℕ → ℕ → Token
      token_on kind size offset l = record { kind = kind; start = offset; end = offset + size; line = l }

  read_same : (offset n : ℕ) (tokens : List Token) → ReadTo one offset n tokens → offset ≤ length head → ReadTo other offset n tokens
  read_same offset n tokens begin low = subst (λ s. ReadTo other s 0 []) (sym start_same) begin
  read_same offset n tokens (blank {offset = old} size read is) low =
      blank size (read_same old n tokens read (omega arith)) (piece_same old n (Blank size) (omega arith) (omega (arith, low, far, length-drop old both)) is)
  read_same offset n tokens (token {offset = old} {open_parentheses = outside} {tokens = before} kind size read is) low =
      let next = token kind size (read_same old outside before read (omega arith)) (piece_same old outside (One kind size) (omega arith) (omega (arith, low, far, length-drop old both)) is) in
      subst (λ one. ReadTo other (old + size) (open_parentheses_after kind outside) (before ++ one ∷ [])) (sym (token_same kind size old (omega arith))) next

  ends_same : (tokens : List Token) (are : Tokens one tokens) → are.offset ≡ length head → Ends other (length head) tokens
  ends_same tokens are at =
      let low : are.offset ≤ length head = omega (arith, at) in
      record {
        are = record {
          offset = are.offset;
          open_parentheses = are.open_parentheses;
          before = are.before;
          read = read_same are.offset are.open_parentheses are.before are.read low;
          ends = piece_same are.offset are.open_parentheses EndOfScript low tt are.ends;
          are = are.are ∙ ap (λ one. are.before ++ one ∷ []) (token_same End 0 are.offset low);
        };
        at = at;
      }

-- the line without its newline
abbrev without_newline : {line : Text} → IsEndLine line → Text
without_newline is = is.left ++ (codes "__END__" ++ is.right)

split : (head line rest : Text) (is : IsEndLine line) → head ++ (line ++ rest) ≡ (head ++ without_newline is) ++ newline ∷ rest
split head line rest is =
    let word = without_newline is in
    let ends : line ≡ word ++ newline ∷ [] = is.is ∙ sym (append_assoc is.left (codes "__END__" ++ is.right) (newline ∷ [])) in
    ap (λ u. head ++ (u ++ rest)) ends ∙ ap (λ u. head ++ u) (append_assoc word (newline ∷ []) rest) ∙ sym (append_assoc head word (newline ∷ rest))

pub rest_is_not_read : RestIsNotRead
rest_is_not_read head line rest other tokens is between =
    let word = without_newline is in
    let long : 7 ≤ length word = omega (arith, length-append is.left (codes "__END__" ++ is.right)) in
    let here : Ends (head ++ (line ++ rest)) (length head) tokens = record { are = between.are; at = between.at } in
    let moved = subst (λ text. Ends text (length head) tokens) (split head line rest is) here in
    let ends = ends_same head word rest other long tokens moved.are moved.at in
    let back = subst (λ text. Ends text (length head) tokens) (sym (split head line other is)) ends in
    record { are = back.are; at = back.at }
