-- The tokens that are computed are the text's own.
use Rattle.std.proofs.Common.{◌≡◌, ℕ, zero, suc, ◌+◌, ◌-◌, ◌<◌, ◌≤◌, ap, sym, subst, refl, arith, List, [], ◌∷◌, ◌++◌, length, drop, Ok, Err, length-drop}
use Rattle.avs_lex.specs.declared.piece.Piece.TheVariants.{Blank, One, EndOfScript, Fault}
use Rattle.avs_lex.specs.declared.fault.LexKind.{LexKind}
use Rattle.avs_lex.specs.declared.token.Token.{Token}
use Rattle.avs_lex.specs.Spelling.{Text}
use Rattle.avs_lex.specs.Piece.{IsWithin}
use Rattle.avs_lex.specs.Tokens.{start_of, begins_line, piece_at, token_at, open_parentheses_after, ReadTo, begin, blank, token, Tokens, LexFault}
use Rattle.avs_lex.proofs.CallerLemmas.{one_reading}
use Rattle.avs_lex.proofs.FitLemmas.{piece_within}
use Rattle.avs_lex.proofs.ReadingLemmas.{start_within}
use Rattle.avs_parse.specs.Load.{Reading, read_by, read_on, tokens_of}
use Rattle.avs_parse.specs.Laws.{TokensAreFound, FirstFaultIsFound}

-- the text has these tokens, or this first fault
abbrev pub Has : Text → Reading → Type 0
Has text (Ok tokens) = Tokens text tokens
Has text (Err fault) = LexFault text fault.0 fault.1

module _ (text : Text) where
  -- what is read on from an offset that is reached
  ends : (n offset open_parentheses : ℕ) (tokens : List Token) → ReadTo text offset open_parentheses tokens → offset ≤ length text → length text - offset < n → Has text (read_on text n offset open_parentheses tokens)
  ends zero offset open_parentheses tokens read within few = absurd (omega arith)
  ends (suc n) offset open_parentheses tokens read within few =
      elim (piece_at text open_parentheses offset) as (λ p. piece_at text open_parentheses offset ≡ p → IsWithin (drop offset text) p → Has text (read_by text p offset open_parentheses tokens (read_on text n))) [
        | Blank size ↦ λ is fits. ends n (offset + size) open_parentheses tokens (blank size read is) (omega (arith, fits.1, length-drop offset text)) (omega (arith, fits.0, fits.1, length-drop offset text))
        | One kind size ↦ λ is fits. ends n (offset + size) (open_parentheses_after kind open_parentheses) (tokens ++ token_at text kind size offset ∷ []) (token kind size read is) (omega (arith, fits.1, length-drop offset text)) (omega (arith, fits.0, fits.1, length-drop offset text))
        | EndOfScript ↦ λ is fits. record { offset = offset; open_parentheses = open_parentheses; before = tokens; read = read; ends = is; are = refl }
        | Fault kind ↦ λ is fits. record { offset = offset; open_parentheses = open_parentheses; before = tokens; read = read; fails = is; is = refl }
      ] refl (piece_within (begins_line text offset) open_parentheses (drop offset text))

  pub reading_has : Has text (tokens_of text)
  unfolding tokens_of
  reading_has = ends (length text + 1) (start_of text) 0 [] begin (start_within text) (omega arith)

  tokens_by : (x : Reading) → Has text x → (tokens : List Token) → Tokens text tokens → x ≡ Ok tokens
  tokens_by (Ok others) has tokens are = ap Ok ((one_reading text).one_list others tokens has are)
  tokens_by (Err fault) has tokens are = absurd ((one_reading text).never_both tokens fault.0 fault.1 are has)

  fault_by : (x : Reading) → Has text x → (kind : LexKind) (line : ℕ) → LexFault text kind line → x ≡ Err (kind, line)
  fault_by (Ok tokens) has kind line fault = absurd ((one_reading text).never_both tokens kind line has fault)
  fault_by (Err other) has kind line fault = let same = (one_reading text).one_fault other.0 kind other.1 line has fault in rw (sym same.0, sym same.1) refl

  pub tokens_are : (tokens : List Token) → Tokens text tokens → tokens_of text ≡ Ok tokens
  tokens_are tokens are = tokens_by (tokens_of text) reading_has tokens are

  pub fault_is : (kind : LexKind) (line : ℕ) → LexFault text kind line → tokens_of text ≡ Err (kind, line)
  fault_is kind line fault = fault_by (tokens_of text) reading_has kind line fault

pub tokens_found : TokensAreFound
tokens_found text tokens = (λ same. subst (Has text) same (reading_has text), λ are. tokens_are text tokens are)

pub fault_found : FirstFaultIsFound
fault_found text kind line = (λ same. subst (Has text) same (reading_has text), λ fault. fault_is text kind line fault)
