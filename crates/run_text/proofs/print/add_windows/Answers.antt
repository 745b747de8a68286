use Rattle.std.proofs.Common.{◌∙◌, arith}
use Rattle.run_text.proofs.PrintLemmas.{window_put, window_cut, windows_fit}
use Rattle.run_text.proofs.print.add_windows.Goals as goal

pub loop-windowed-preserved : goal.loop-windowed-preserved
loop-windowed-preserved g c = record {
  put = window_put g.K.Sink c.args.out.now c.loop-windowed.out c.add_window.new.out c.args.buf.now.bytes c.loop-windowed.buf.bytes c.args.windows.now c.loop-windowed.windowed-index c.windowed-item.result c.add_window.new.buf.bytes c.loop-windowed-test.true
      c.windowed-item.is c.loop-windowed.invariant.put c.in-Ok.ensures.put;
  fits = windows_fit c.args.windows.now c.loop-windowed.windowed-index c.windowed-item.result c.loop-windowed-test.true c.windowed-item.is c.loop-windowed.invariant.fits c.in-Ok.ensures.fits;
  steady = c.in-Ok.ensures.steady ∙ c.loop-windowed.invariant.steady;
  later = omega arith;
}

pub returns-in-Err-clause-cut : goal.returns-in-Err-clause-cut
returns-in-Err-clause-cut g c =
    window_cut g.K.Sink c.args.out.now c.loop-windowed.out c.add_window.new.out c.args.buf.now.bytes c.loop-windowed.buf.bytes c.args.windows.now c.loop-windowed.windowed-index c.windowed-item.result c.loop-windowed-test.true
    c.windowed-item.is c.loop-windowed.invariant.put c.in-Err.ensures.cut
