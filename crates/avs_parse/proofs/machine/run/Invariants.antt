use Rattle.std.proofs.Common.{◌≡◌, ◌+◌, ◌*◌, ◌≤◌, length, All}
use Rattle.avs_lex.specs.Tokens.{IsTokenOf}
use Rattle.avs_tree.specs.Lexeme.{lexemes}
use Rattle.avs_tree.specs.Place as p
use Rattle.avs_frames.specs.ScriptViews.{state_view}
use Rattle.avs_parse.specs.Turns.{open_in}
use Rattle.avs_parse.proofs.machine.run.Given as goal

abbrev pub invariant-loop-rest : goal.invariant-loop-rest
invariant-loop-rest l = record {
  each : All (IsTokenOf l.text) l.rest;
  runs : p.run (state_view l.state) (lexemes l.text l.rest) ≡ p.verdict (lexemes l.text l.tokens);
  steps : l.turns + (3 * length l.rest + open_in l.state) ≤ 3 * length l.tokens;
}

-- how many turns are left at most
abbrev pub decreases-loop-rest : goal.decreases-loop-rest
decreases-loop-rest l = 3 * length l.rest + open_in l.state
