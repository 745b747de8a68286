use Rattle.std.proofs.Common.{arith}
use Rattle.std.proofs.lemmas.Slice.{between_from_start}
use Rattle.avs_values.proofs.PositionLemmas.{few_characters, found, not_found}
use Rattle.avs_values.proofs.texts.position.Goals as goal

pub overflow_add-result : goal.overflow_add-result
overflow_add-result c = omega (arith, c.characters.ensures, few_characters c.range.result.now c.range.utf8, c.range.ensures.len)

pub returns-in-Some : goal.returns-in-Some
returns-in-Some c = rw (c.characters.ensures, c.range.ensures.value, between_from_start c.args.text.now c.in-Some.start) (found c.args.text.now c.args.wanted.now c.in-Some.start c.utf8.text c.utf8.wanted c.in-Some.ensures.cases)

pub returns-in-None : goal.returns-in-None
returns-in-None c = not_found c.args.text.now c.args.wanted.now c.utf8.text c.utf8.wanted c.in-None.ensures.cases
