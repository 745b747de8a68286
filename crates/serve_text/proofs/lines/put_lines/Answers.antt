-- One more line.
use Rattle.std.proofs.Common.{◌-◌, ◌∙◌, arith}
use Rattle.serve_machine.specs.Events.{windows_of}
use Rattle.serve_text.proofs.LineLemmas.{less_left, cut_short, next_line, line_is}
use Rattle.serve_text.proofs.lines.put_lines.Goals as goal

pub loop-i-preserved : goal.loop-i-preserved
loop-i-preserved g c =
    let plan = c.args.graph.now in
    let windows = windows_of c.args.journal.now in
    let i = c.loop-i.i in
    let line = line_is plan windows c.args.first i _ _ _ (omega arith) (c.as_bytes.ensures.value ∙ c.as_str.ensures.value ∙ c.line_of-line.ensures) c.node.ensures (c.counted-table.ensures (i - c.args.first) (omega arith)) in
    record {
      put = less_left g.K.Sink c.args.out.now c.loop-i.out c.put.new.self _ _ _ _ (next_line plan windows i c.args.end (omega arith)) c.loop-i.invariant.put (rw line at c.in-Ok.ensures.put);
      steady = c.in-Ok.ensures.steady ∙ c.loop-i.invariant.steady;
      later = omega arith;
    }

pub returns-in-Err-clause-cut : goal.returns-in-Err-clause-cut
returns-in-Err-clause-cut g c =
    let plan = c.args.graph.now in
    let windows = windows_of c.args.journal.now in
    let i = c.loop-i.i in
    let line = line_is plan windows c.args.first i _ _ _ (omega arith) (c.as_bytes.ensures.value ∙ c.as_str.ensures.value ∙ c.line_of-line.ensures) c.node.ensures (c.counted-table.ensures (i - c.args.first) (omega arith)) in
    cut_short g.K.Sink c.args.out.now c.loop-i.out c.put.new.self _ _ _ _ (next_line plan windows i c.args.end (omega arith)) c.loop-i.invariant.put (rw line at c.in-Err.ensures.cut)
