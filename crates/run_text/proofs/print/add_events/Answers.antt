use Rattle.std.proofs.Common.{◌∙◌, arith}
use Rattle.run_text.proofs.PrintLemmas.{event_put, event_cut, events_fit}
use Rattle.run_text.proofs.print.add_events.Goals as goal

pub loop-event-preserved : goal.loop-event-preserved
loop-event-preserved g c = record {
  put = event_put g.K.Sink c.args.out.now c.loop-event.out c.add.new.out c.args.buf.now.bytes c.loop-event.buf.bytes c.args.events.now c.loop-event.event-index _ c.event_line.result.bytes c.add.new.buf.bytes c.loop-event-test.true
      c.event_line.ensures.text c.loop-event.invariant.put c.in-Ok.ensures.put;
  fits = events_fit c.args.events.now c.loop-event.event-index _ c.loop-event-test.true c.loop-event.invariant.fits c.event_line.ensures.fits;
  steady = c.in-Ok.ensures.steady ∙ c.loop-event.invariant.steady;
  later = omega arith;
}

pub returns-in-Err-clause-cut : goal.returns-in-Err-clause-cut
returns-in-Err-clause-cut g c =
    event_cut g.K.Sink c.args.out.now c.loop-event.out c.add.new.out c.args.buf.now.bytes c.loop-event.buf.bytes c.args.events.now c.loop-event.event-index c.loop-event.invariant.put c.in-Err.ensures.cut
