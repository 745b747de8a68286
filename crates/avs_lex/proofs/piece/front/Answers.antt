use Rattle.std.proofs.Common.{◌∙◌, sym, get_or, arith}
use Rattle.std.proofs.lemmas.Bool.Decides.{nat_tests}
use Rattle.avs_lex.proofs.PieceLemmas.{IsOther, front_punctuation}
use Rattle.avs_lex.proofs.piece.front.Goals as goal

pub returns-in_default : goal.returns-in_default
returns-in_default c =
    let rest = c.args.rest.now in
    let other : IsOther (get_or rest 0 0) = record {
      name = sym c.if-begins_name.ensures;
      digit = sym c.if-is_ascii_digit.ensures.value;
      space = grind (arith, nat_tests);
      tab = grind (arith, nat_tests);
      return = grind (arith, nat_tests);
      newline = grind (arith, nat_tests);
      backslash = grind (arith, nat_tests);
      hash = grind (arith, nat_tests);
      slash = grind (arith, nat_tests);
      bracket = grind (arith, nat_tests);
      quote = grind (arith, nat_tests);
      dollar = grind (arith, nat_tests);
      dot = grind (arith, nat_tests);
    } in
    c.punctuation-in_default.ensures ∙ sym (front_punctuation c.args.open_parentheses rest other)
