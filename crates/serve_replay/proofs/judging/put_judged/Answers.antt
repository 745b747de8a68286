-- The line is that of the verdict.
use Rattle.std.proofs.Common.{◌∙◌}
use Rattle.serve_replay.proofs.VerdictLemmas.{puts_due, cuts_due}
use Rattle.serve_replay.proofs.judging.put_judged.Goals as goal

pub returns-in-Ok-put-clause-put : goal.returns-in-Ok-put-clause-put
returns-in-Ok-put-clause-put g c =
    let is = c.as_bytes.ensures.value ∙ c.as_str.ensures.value ∙ c.said_of-line.ensures in
    puts_due c.args.graph.now c.args.root c.args.cache c.args.text.now c.in-Ok.verdict c.in-Ok.ensures g.K.Sink c.args.out.now c.put.new.self _ is c.in-Ok-put.ensures.put

pub returns-in-Err-put-clause-stop : goal.returns-in-Err-put-clause-stop
returns-in-Err-put-clause-stop g c =
    let is = c.as_bytes.ensures.value ∙ c.as_str.ensures.value ∙ c.said_of-line.ensures in
    (c.in-Err-put.ensures.failed, cuts_due c.args.graph.now c.args.root c.args.cache c.args.text.now c.in-Ok.verdict c.in-Ok.ensures g.K.Sink c.args.out.now c.put.new.self _ is c.in-Err-put.ensures.cut)
