-- A position in a script.
use Rattle.std.specs.Prelude.{◌≡◌, ℕ, ◌+◌, ◌-◌, ◌≤◌, ◌==◌, length, take, drop, slice_index, count_by}
use Rattle.avs_lex.specs.declared.cursor.Cursor.{Cursor}
use Rattle.avs_lex.specs.declared.token.Token.{Token}
use Rattle.avs_lex.specs.declared.token.TokenKind.{TokenKind}
use Rattle.avs_lex.specs.Spelling.{Text, newline, is_newline}
use Rattle.avs_lex.specs.Tokens.{start_of, line_at, begins_line}

-- the cursor is at its offset in the text
pub record IsIn (text : Text) (cursor : Cursor) : Type 0 where
  pub after : start_of text ≤ cursor.offset
  pub within : cursor.offset ≤ length text
  pub rest : cursor.rest.now ≡ drop cursor.offset text
  pub line : cursor.line ≡ line_at text cursor.offset
  pub line_start : cursor.begins_line ≡ begins_line text cursor.offset

-- this many bytes further on
pub record Steps (old : Cursor) (size : ℕ) (new : Cursor) : Type 0 where
  pub rest : new.rest.now ≡ drop size old.rest.now
  pub offset : new.offset ≡ old.offset + size
  pub line : new.line ≡ old.line + count_by is_newline (take size old.rest.now)
  pub line_start : new.begins_line ≡ (slice_index old.rest.now (size - 1) == newline)

-- the token of this kind and size at the cursor
abbrev pub token_of : Cursor → TokenKind → ℕ → Token
token_of cursor kind size = record { kind = kind; start = cursor.offset; end = cursor.offset + size; line = cursor.line }
