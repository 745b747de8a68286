-- The rules and the definitions agree.
use Rattle.std.proofs.Common.{sym}
use Rattle.avs_values.specs.declared.value.Value.TheVariants as v
use Rattle.avs_meaning.proofs.RuleResults.{some_gives}
use Rattle.avs_meaning.proofs.RuleUniqueness.{only_gives, only_executes}
use Rattle.avs_meaning.proofs.StatementResults.{some_executes, all_below}
use Rattle.avs_meaning.specs.RuleLaws.{RulesAreExecution, RulesAreEvaluation}

pub rules_are_execution : RulesAreExecution
rules_are_execution = record {
  some_result = λ outside n here s body. some_executes outside n (all_below outside n) here body v.Undefined s;
  one_result = λ outside n here s body out is. sym (only_executes outside is);
}

pub rules_are_evaluation : RulesAreEvaluation
rules_are_evaluation = record {
  some_value = λ outside n here s e. some_gives outside n (all_below outside n) here e s;
  one_value = λ outside n here s e out is. sym (only_gives outside is);
}
