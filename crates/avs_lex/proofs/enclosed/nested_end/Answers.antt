use Rattle.std.proofs.Common.{◌≡◌, ◌∙◌, ◌+◌, ◌&&◌, ◌==◌, get_or, sym, false, arith}
use Rattle.std.proofs.lemmas.Bool.Decides.{nat_tests}
use Rattle.avs_lex.proofs.CommentLemmas.{nested_end_pass}
use Rattle.avs_lex.proofs.enclosed.nested_end.Goals as goal

pub loop-offset-preserved : goal.loop-offset-preserved
loop-offset-preserved c =
    let rest = c.args.rest.now in
    let offset = c.loop-offset.offset in
    let opens : (get_or rest offset 0 == 91 && get_or rest (offset + 1) 0 == 42) ≡ false = grind (arith, nat_tests, c.else-first-eq91.either) in
    let closes : (get_or rest offset 0 == 42 && get_or rest (offset + 1) 0 == 93) ≡ false = grind (arith, nat_tests, c.else-first-eq42.either) in
    record {
      few = omega arith;
      within = omega arith;
      rest = sym (nested_end_pass rest _ offset (omega arith) opens closes) ∙ c.loop-offset.invariant.rest;
    }
