-- The frames before were put.
use Rattle.std.proofs.Common.{take}
use Rattle.fv_io.specs.Sink.{IsLater}
use Rattle.prefetch.specs.Windows.{given, PutsPictures}
use Rattle.prefetch.proofs.frames.put_frames.Given as goal

abbrev pub invariant-loop-frame : goal.invariant-loop-frame
invariant-loop-frame g l = record {
  put : PutsPictures g.K.Sink l.fn.out l.out (given (take l.frame-index l.frames));
  later : IsLater g.K.Sink l.fn.out l.out;
}
