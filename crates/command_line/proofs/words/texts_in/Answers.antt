-- One more word is a text.
use Rattle.std.proofs.Common.{◌∙◌, subst, get_or, arith, below_more}
use Rattle.std.specs.Str.{IsUtf8}
use Rattle.std.proofs.lemmas.Grind.{common_steps}
use Rattle.std.proofs.lemmas.List.{get_or_default}
use Rattle.command_line.specs.Command.{Text}
use Rattle.command_line.proofs.words.texts_in.Goals as goal

pub loop-word-preserved : goal.loop-word-preserved
loop-word-preserved c = record {
  texts = grind (arith, common_steps);
  utf8 = below_more (λ k. (d : Text) → IsUtf8 (get_or c.args.words.now k d)) c.loop-word.word-index c.loop-word.invariant.utf8
      (λ d. subst IsUtf8 (c.as_str.ensures ∙ c.word-item.is ∙ get_or_default c.args.words.now c.loop-word.word-index c.word-item.result d (omega arith)) c.as_str.utf8);
}

pub returns-clause-utf8 : goal.returns-clause-utf8
returns-clause-utf8 c = λ k d lt. c.loop-word.invariant.utf8 k (omega arith) d
