-- What the machine sees in a turn.
use Rattle.std.specs.Prelude.{[], ◌∷◌}
use Rattle.avs_tree.specs.Lexeme as x
use Rattle.avs_frames.specs.declared.seen.Seen.{Seen}

abbrev pub lexeme_view : Seen → x.Lexeme
lexeme_view t = (t.symbol, t.content.now, t.line)

-- The token alone: what comes after it doesn't matter to the machine.
abbrev pub seen : Seen → x.Lexemes
seen t = lexeme_view t ∷ []
