use Rattle.lex_laws.proofs.NewlineLemmas.{newline_tokens, each_newline_is_placed}
use Rattle.lex_laws.proofs.newlines_are_tokens.Goals as goal

pub returns : goal.returns
returns c = record { tokens = newline_tokens; each = each_newline_is_placed }
