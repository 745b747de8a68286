use Rattle.std.proofs.Common.{arith}
use Rattle.avs_lex.specs.Tokens.{begin}
use Rattle.avs_lex.specs.Cursor.{IsIn}
use Rattle.avs_lex.proofs.CursorLemmas.{IsIn_steps, few_lines, read_blank, read_token, read_end}
use Rattle.avs_lex.proofs.ListLemmas.{is_listed}
use Rattle.avs_lex.proofs.lexer.lex.Goals as goal

pub pieces-init : goal.pieces-init
pieces-init c =
    let cursor = c.new-cursor.result in
    let here : IsIn c.args.text.now cursor = rw (← c.as_bytes.ensures.value) c.new-cursor.ensures.offset in
    record {
      offset = here;
      lines = few_lines c.args.text.now cursor here;
      open_parentheses = omega arith;
      read = rw (c.new-cursor.ensures.starts, c.as_bytes.ensures.value, c.new-tokens.ensures.items) begin;
    }

pub pieces-preserved-in-Blank : goal.pieces-preserved-in-Blank
pieces-preserved-in-Blank c =
    let here = c.pieces.invariant.offset in
    let next = IsIn_steps c.args.text.now c.pieces.cursor c.past-cursor.result c.in-Blank.size here c.past-cursor.ensures c.in-Blank.ensures.within.0 c.in-Blank.ensures.within.1 in
    record {
      offset = next;
      lines = few_lines c.args.text.now c.past-cursor.result next;
      open_parentheses = omega (arith, c.past-cursor.ensures.offset);
      read = read_blank c.args.text.now c.pieces.cursor c.past-cursor.result c.in-Blank.size c.pieces.open_parentheses c.pieces.tokens.items here c.past-cursor.ensures c.in-Blank.ensures.piece c.pieces.invariant.read;
    }

pub pieces-preserved : goal.pieces-preserved
pieces-preserved c =
    let text = c.args.text.now in
    let old = c.pieces.cursor in
    let new = c.past-cursor-in-One.result in
    let here = c.pieces.invariant.offset in
    let size = c.in-One.size in
    let step = c.past-cursor-in-One.ensures in
    let next = IsIn_steps text old new size here step c.in-One.ensures.within.0 c.in-One.ensures.within.1 in
    record {
      offset = next;
      lines = few_lines text new next;
      open_parentheses = omega (arith, c.open_parentheses_after-open_parentheses.ensures.bound, step.offset, c.in-One.ensures.within.0, c.pieces.invariant.open_parentheses);
      read = read_token text old new c.in-One.kind size c.pieces.open_parentheses c.open_parentheses_after-open_parentheses.result c.pieces.tokens.items c.push.new.self.items c.token.result here step c.in-One.ensures.piece c.open_parentheses_after-open_parentheses.ensures.value c.token.ensures c.in_ok-push-in-One.ensures.items c.pieces.invariant.read;
    }

pub returns-in-EndOfScript-clause-listed : goal.returns-in-EndOfScript-clause-listed
returns-in-EndOfScript-clause-listed c =
    let text = c.args.text.now in
    is_listed text c.push-in-EndOfScript.new.self.items c.utf8.text (read_end text c.pieces.cursor c.pieces.open_parentheses c.pieces.tokens.items c.push-in-EndOfScript.new.self.items c.token-in-EndOfScript.result c.pieces.invariant.offset c.in-EndOfScript.ensures.piece c.token-in-EndOfScript.ensures c.in_ok-push-in-EndOfScript.ensures.items c.pieces.invariant.read)
