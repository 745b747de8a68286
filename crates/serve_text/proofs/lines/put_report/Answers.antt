-- The lines of one more block.
use Rattle.std.proofs.Common.{◌∙◌, ◌+◌, length, arith}
use Rattle.serve_machine.specs.Events.{windows_of}
use Rattle.serve_text.proofs.LineLemmas.{less_left, cut_short, lines_apart}
use Rattle.serve_text.proofs.lines.put_report.Goals as goal

pub loop-first-preserved : goal.loop-first-preserved
loop-first-preserved g c =
    let plan = c.args.graph.now in
    let apart = lines_apart plan (windows_of c.args.journal.now) c.loop-first.first (c.loop-first.first + c.min.result) (length plan) (omega arith) (omega arith) in
    record {
      put = less_left g.K.Sink c.args.out.now c.loop-first.out c.put_lines.new.out _ _ _ _ apart c.loop-first.invariant.put c.in-Ok.ensures.put;
      inside = omega arith;
      steady = c.in-Ok.ensures.steady ∙ c.loop-first.invariant.steady;
      later = omega arith;
    }

pub returns-in-Err-clause-cut : goal.returns-in-Err-clause-cut
returns-in-Err-clause-cut g c =
    let plan = c.args.graph.now in
    let apart = lines_apart plan (windows_of c.args.journal.now) c.loop-first.first (c.loop-first.first + c.min.result) (length plan) (omega arith) (omega arith) in
    cut_short g.K.Sink c.args.out.now c.loop-first.out c.put_lines.new.out _ _ _ _ apart c.loop-first.invariant.put c.in-Err.ensures.cut
