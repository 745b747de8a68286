-- The line that was found is the head's, and its parameters say the info.
use Rattle.std.proofs.Common.{◌+◌, ◌∙◌, ap, sym, arith}
use Rattle.y4m_stream.specs.Head.{info_of, parameter_fault}
use Rattle.y4m_stream.proofs.HeadLemmas.{uncounted}
use Rattle.y4m_stream.proofs.head_reading.read_head.Goals as goal

pub returns-clause-head : goal.returns-clause-head
returns-clause-head c =
    let line = c.in_ok-end.ensures.line in
    let said = c.in_ok-info.ensures in
    record {
      sound = line.fault ∙ ap parameter_fault (sym line.parts) ∙ said.sound;
      info_is = said.info ∙ ap info_of line.parts ∙ uncounted c.args.bytes.now;
      len_is = ap (λ n. n + 1) line.end_is;
      short = omega (arith, line.short);
      inside = omega (arith, line.inside);
    }
