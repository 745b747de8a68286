use Rattle.std.proofs.Common.{◌<◌, length, arith, sym, subst}
use Rattle.std.proofs.lemmas.Bool.Decides.{nat_tests}
use Rattle.avs_lex.specs.Piece.{IsWithin}
use Rattle.avs_lex.proofs.FitLemmas.{front_within}
use Rattle.avs_lex.proofs.piece.piece_at.Goals as goal
use Rattle.avs_lex.proofs.piece.piece_at.Goals.{then-is_empty, else-is_empty+then-begins_line, else-is_empty+else-begins_line}

pub returns-else-is_end_line-clause-within : goal.returns-else-is_end_line-clause-within
returns-else-is_end_line-clause-within c =
    let some : 0 < length c.args.rest.now =
    elim c.if-is_empty.branch [
      | then-is_empty w ↦ absurd (cc)
      | else-is_empty+then-begins_line w ↦ grind (arith, nat_tests)
      | else-is_empty+else-begins_line w ↦ grind (arith, nat_tests)
    ] in
    subst (IsWithin c.args.rest.now) (sym c.front.ensures) (front_within c.args.open_parentheses c.args.rest.now some)
