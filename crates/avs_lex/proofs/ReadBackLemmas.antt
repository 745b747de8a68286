-- A script that is written word by word is read word by word.
use Rattle.std.proofs.Common.{◌≡◌, ◌∙◌, ℕ, ◌+◌, ◌-◌, ◌<◌, ap, sym, refl, arith, List, [], ◌∷◌, ◌++◌, map, length, drop, get_or, Bool, true, false, ◌==◌, nat_eq, length-append, append_assoc, lit<, subst, if◌then◌else◌}
use Rattle.std.specs.List.{starts_with, prefix_len}
use Rattle.std.proofs.lemmas.Bool.Decides.{nat_tests}
use Rattle.std.proofs.lemmas.List.{take_at, drop_at, drop-drop}
use Rattle.avs_lex.specs.declared.piece.Piece.{Piece}
use Rattle.avs_lex.specs.declared.piece.Piece.TheVariants.{Blank, One, EndOfScript, Fault}
use Rattle.avs_lex.specs.declared.fault.LexKind.TheVariants.{BadChar}
use Rattle.avs_lex.specs.declared.token.Token.{Token}
use Rattle.avs_lex.specs.declared.token.TokenKind.{TokenKind}
use Rattle.avs_lex.specs.declared.token.TokenKind.TheVariants.{Newline, End}
use Rattle.avs_lex.specs.Spelling.{Text, newline, backslash, is_blank}
use Rattle.avs_lex.specs.Piece.{front, piece, is_end_line, line_end}
use Rattle.avs_lex.specs.Tokens.{start_of, begins_line, piece_at, token_at, open_parentheses_after, ReadTo, begin, blank, token, Tokens, bytes_of}
use Rattle.avs_lex.specs.Written.{Word, written, IsWord, AreWords, spelled_of, ReadsAs}
use Rattle.avs_lex.proofs.TestLemmas.{either}
use Rattle.avs_lex.proofs.WordLemmas.{starts_with_at}
use Rattle.avs_lex.proofs.WrittenLemmas.{BeginsBlank, space, line, word_front, not_blank, not_backslash, no_end_line, front_blank, front_byte_order_mark}

-- where no end line begins
piece_front : (begins : Bool) (open_parentheses : ℕ) (text : Text) → 0 < length text → is_end_line text ≡ false → piece begins open_parentheses text ≡ front open_parentheses text
piece_front true open_parentheses text some other = let any : (length text == 0) ≡ false = grind (arith, nat_tests) in rw (any, other) refl
piece_front false open_parentheses text some other = let any : (length text == 0) ≡ false = grind (arith, nat_tests) in rw any refl

front_line : (open_parentheses : ℕ) (text : Text) → front open_parentheses (newline ∷ text) ≡ line_end open_parentheses (newline ∷ text)
unfolding front
front_line open_parentheses text = refl

-- how the rest begins
pub record IsCalm (text : Text) : Type 0 where
  pub no_end_line : is_end_line text ≡ false
  pub no_blank : is_blank (get_or text 0 0) ≡ false
  pub no_backslash : (get_or text 0 0 == backslash) ≡ false

after_word : (word : Word) (words : List Word) → BeginsBlank ((if word.ends_line then newline else 32) ∷ written words)
after_word word words = either word.ends_line (BeginsBlank ((if word.ends_line then newline else 32) ∷ written words)) (λ e. rw e (line (written words))) (λ e. rw e (space (written words)))

word_there : (open_parentheses : ℕ) (word : Word) (words : List Word) → IsWord word → front open_parentheses (written (word ∷ words)) ≡ One word.kind (length word.bytes)
word_there open_parentheses word words is = word_front word.kind open_parentheses word.bytes ((if word.ends_line then newline else 32) ∷ written words) is.spelled is.no_newline is.no_end (after_word word words)

calm : (open_parentheses : ℕ) (words : List Word) → AreWords open_parentheses words → IsCalm (written words)
calm open_parentheses [] are = record { no_end_line = refl; no_blank = refl; no_backslash = refl }
calm open_parentheses (word ∷ words) are =
    let there = word_there open_parentheses word words are.0 in
    record {
      no_end_line = no_end_line word.kind open_parentheses word.bytes ((if word.ends_line then newline else 32) ∷ written words) there are.0.no_end_line;
      no_blank = not_blank word.kind (length word.bytes) open_parentheses (written (word ∷ words)) there;
      no_backslash = not_backslash word.kind (length word.bytes) open_parentheses (written (word ∷ words)) there;
    }

no_blanks : (text : Text) → is_blank (get_or text 0 0) ≡ false → prefix_len is_blank text ≡ 0
no_blanks [] is = refl
no_blanks (c ∷ text) is = rw is refl

blank_there : (begins : Bool) (open_parentheses : ℕ) (text : Text) → IsCalm text → piece begins open_parentheses (32 ∷ text) ≡ Blank 1
blank_there begins open_parentheses text is =
    let none = no_blanks text is.no_blank in
    let here = rw none at is.no_end_line in
    let no : is_end_line (32 ∷ text) ≡ false = rw none here in
    piece_front begins open_parentheses (32 ∷ text) (omega arith) no ∙ front_blank open_parentheses (32 ∷ text) refl

line_there : (begins : Bool) (text : Text) → IsCalm text → piece begins 0 (newline ∷ text) ≡ One Newline 1
line_there begins text is =
    let none = no_blanks text is.no_blank in
    piece_front begins 0 (newline ∷ text) (omega arith) refl ∙ front_line 0 text ∙ rw (none, is.no_backslash) refl

-- what is read from an offset on
pub record ReadsOn (text : Text) (words : List Word) (tokens : List Token) : Type 0 where
  pub more : List Token
  pub are : Tokens text (tokens ++ more)
  pub same : map (λ token. (token.kind, bytes_of text token)) more ≡ spelled_of words

at_offset : (text : Text) (open_parentheses offset : ℕ) (left : Text) (found : Piece) → drop offset text ≡ left → ((begins : Bool) → piece begins open_parentheses left ≡ found) → piece_at text open_parentheses offset ≡ found
at_offset text open_parentheses offset left found is there = rw is (there (begins_line text offset))

further : (text : Text) (offset size : ℕ) (bytes rest : Text) → drop offset text ≡ bytes ++ rest → length bytes ≡ size → drop (offset + size) text ≡ rest
further text offset size bytes rest is long = sym (drop-drop size offset text) ∙ ap (drop size) is ∙ drop_at bytes rest size long

bytes_there : (text : Text) (offset : ℕ) (kind : TokenKind) (bytes rest : Text) → drop offset text ≡ bytes ++ rest → bytes_of text (token_at text kind (length bytes) offset) ≡ bytes
bytes_there text offset kind bytes rest is = let size : offset + length bytes - offset ≡ length bytes = omega arith in rw (size, is) (take_at bytes rest (length bytes) refl)

spelled_one : (kind : TokenKind) (bytes found : Text) {more other : List (TokenKind × Text)} → found ≡ bytes → more ≡ other → (kind, found) ∷ more ≡ (kind, bytes) ∷ other
spelled_one kind bytes found is same = rw (is, same) refl

spelled_two : (kind : TokenKind) (bytes found last : Text) {more other : List (TokenKind × Text)} → found ≡ bytes → last ≡ newline ∷ [] → more ≡ other
    → (kind, found) ∷ (Newline, last) ∷ more ≡ (kind, bytes) ∷ (Newline, newline ∷ []) ∷ other
spelled_two kind bytes found last is ends same = rw (is, ends, same) refl

spelled_line : (word : Word) (words : List Word) → word.ends_line ≡ true → spelled_of (word ∷ words) ≡ (word.kind, word.bytes) ∷ (Newline, newline ∷ []) ∷ spelled_of words
spelled_line word words is = rw is refl

spelled_blank : (word : Word) (words : List Word) → word.ends_line ≡ false → spelled_of (word ∷ words) ≡ (word.kind, word.bytes) ∷ spelled_of words
spelled_blank word words is = rw is refl

pub read_on : (text : Text) (words : List Word) (offset open_parentheses : ℕ) (tokens : List Token) → drop offset text ≡ written words → ReadTo text offset open_parentheses tokens → AreWords open_parentheses words → ReadsOn text words tokens
read_on text [] offset open_parentheses tokens left read are =
    let last = token_at text End 0 offset in
    record {
      more = last ∷ [];
      are = record { offset = offset; open_parentheses = open_parentheses; before = tokens; read = read; ends = at_offset text open_parentheses offset [] EndOfScript left (λ begins. refl); are = refl };
      same = let spelled : bytes_of text last ≡ [] = bytes_there text offset End [] [] left in ap (λ bytes. (End, bytes) ∷ []) spelled;
    }
read_on text (word ∷ words) offset open_parentheses tokens left read are =
    let size = length word.bytes in
    let inside = open_parentheses_after word.kind open_parentheses in
    let one = token_at text word.kind size offset in
    let whole = calm open_parentheses (word ∷ words) are in
    let some : 0 < length (written (word ∷ words)) = omega (arith, length-append word.bytes ((if word.ends_line then newline else 32) ∷ written words)) in
    let there = at_offset text open_parentheses offset (written (word ∷ words)) (One word.kind size) left (λ begins. piece_front begins open_parentheses (written (word ∷ words)) some whole.no_end_line ∙ word_there open_parentheses word words are.0) in
    let read_word = token word.kind size read there in
    let spelled = bytes_there text offset word.kind word.bytes ((if word.ends_line then newline else 32) ∷ written words) left in
    let after = further text offset size word.bytes ((if word.ends_line then newline else 32) ∷ written words) left refl in
    let next = calm inside words are.2 in
    either word.ends_line (ReadsOn text (word ∷ words) tokens)
    (λ e.
    let closed : inside ≡ 0 = are.1 e in
    let at_line : drop (offset + size) text ≡ (newline ∷ []) ++ written words = rw e at after in
    let line_read = token Newline 1 read_word (at_offset text inside (offset + size) (newline ∷ written words) (One Newline 1) at_line (rw closed (λ begins. line_there begins (written words) next))) in
    let two = token_at text Newline 1 (offset + size) in
    let rest = read_on text words (offset + size + 1) inside (tokens ++ one ∷ [] ++ two ∷ []) (further text (offset + size) 1 (newline ∷ []) (written words) at_line refl) line_read are.2 in
    record {
      more = one ∷ two ∷ rest.more;
      are = subst (Tokens text) (append_assoc (tokens ++ one ∷ []) (two ∷ []) rest.more ∙ append_assoc tokens (one ∷ []) (two ∷ rest.more)) rest.are;
      same = spelled_two word.kind word.bytes (bytes_of text one) (bytes_of text two) spelled (bytes_there text (offset + size) Newline (newline ∷ []) (written words) at_line) rest.same ∙ sym (spelled_line word words e);
    })
    (λ e.
    let at_blank : drop (offset + size) text ≡ (32 ∷ []) ++ written words = rw e at after in
    let blank_read = blank 1 read_word (at_offset text inside (offset + size) (32 ∷ written words) (Blank 1) at_blank (λ begins. blank_there begins inside (written words) next)) in
    let rest = read_on text words (offset + size + 1) inside (tokens ++ one ∷ []) (further text (offset + size) 1 (32 ∷ []) (written words) at_blank refl) blank_read are.2 in
    record {
      more = one ∷ rest.more;
      are = subst (Tokens text) (append_assoc tokens (one ∷ []) rest.more) rest.are;
      same = spelled_one word.kind word.bytes (bytes_of text one) spelled rest.same ∙ sym (spelled_blank word words e);
    })

-- no word begins with U+FEFF
no_byte_order_mark : (text : Text) (open_parentheses : ℕ) (kind : TokenKind) (size : ℕ) → front open_parentheses text ≡ One kind size → starts_with nat_eq text (239 ∷ 187 ∷ 191 ∷ []) ≡ false
no_byte_order_mark [] open_parentheses kind size is = refl
no_byte_order_mark (c ∷ text) open_parentheses kind size is =
    either (starts_with nat_eq (c ∷ text) (239 ∷ 187 ∷ 191 ∷ [])) (starts_with nat_eq (c ∷ text) (239 ∷ 187 ∷ 191 ∷ []) ≡ false)
    (λ e.
    let first : c ≡ 239 = starts_with_at (c ∷ text) (239 ∷ 187 ∷ 191 ∷ []) 0 e (lit< tt) in
    let other : front open_parentheses (c ∷ text) ≡ Fault BadChar = rw first (front_byte_order_mark open_parentheses text) in
    absurd (cc (is, other)))
    (λ e. e)

starts_at_zero : (words : List Word) → AreWords 0 words → start_of (written words) ≡ 0
starts_at_zero [] are = refl
starts_at_zero (word ∷ words) are = let other = no_byte_order_mark (written (word ∷ words)) 0 word.kind (length word.bytes) (word_there 0 word words are.0) in rw other refl

pub written_is_read : (words : List Word) → AreWords 0 words → ReadsAs (written words) (spelled_of words)
written_is_read words are =
    let zero_start = starts_at_zero words are in
    let started : ReadTo (written words) (start_of (written words)) 0 [] = begin in
    let read = subst (λ offset. ReadTo (written words) offset 0 []) zero_start started in
    let on = read_on (written words) words 0 0 [] refl read are in
    record { tokens = on.more; are = on.are; same = on.same }
