use Rattle.std.proofs.Common.{◌+◌, ◌≤◌, length}
use Rattle.avs_lex.specs.Tokens.{ReadTo}
use Rattle.avs_lex.specs.Cursor.{IsIn}
use Rattle.avs_lex.proofs.lexer.lex.Given as goal

abbrev pub invariant-pieces : goal.invariant-pieces
invariant-pieces l = record {
  offset : IsIn l.fn.text l.cursor;
  lines : l.cursor.line ≤ l.cursor.offset + 1;
  open_parentheses : l.open_parentheses ≤ l.cursor.offset;
  read : ReadTo l.fn.text l.cursor.offset l.open_parentheses l.tokens.items;
}

abbrev pub decreases-pieces : goal.decreases-pieces
decreases-pieces l = length l.cursor.rest.now
