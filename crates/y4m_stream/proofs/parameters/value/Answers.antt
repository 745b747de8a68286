use Rattle.std.proofs.Common.{◌∙◌, ap, rules, tests}
use Rattle.std.proofs.lemmas.Iterator.Consumers.{YieldsList-end}
use Rattle.std.proofs.lemmas.Iterator.Splits.{YieldsList-from_slice_split}
use Rattle.std.specs.Option.{option_copied}
use Rattle.y4m_stream.specs.Head.{value}
use Rattle.y4m_stream.specs.Stream.{is_space}
use Rattle.y4m_stream.proofs.ParameterLemmas.{one_more}
use Rattle.y4m_stream.proofs.parameters.value.Goals as goal

pub loop-parameter-preserved : goal.loop-parameter-preserved
loop-parameter-preserved c =
    ap option_copied c.or-found.ensures ∙ one_more c.args.letter c.loop-parameter.yielded c.loop-parameter.found c.value_in.result c.in-Some.parameter c.loop-parameter.invariant c.value_in.ensures

pub returns : goal.returns
returns c =
    let end = YieldsList-end
    (YieldsList-from_slice_split _ is_space c.args.line.now (cc) (cc) (cc) (λ x b q k. search (rules, tests)))
    c.loop-parameter.yielded _ c.loop-parameter.yielded_by _ _ c.in-None.is c.next.ensures.steps in
    c.loop-parameter.invariant ∙ ap (value c.args.letter) end.0
