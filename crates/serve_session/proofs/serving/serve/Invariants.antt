use Rattle.std.proofs.Common.{◌≡◌, ◌-◌, false}
use Rattle.fv_io.specs.Sink.{IsLater}
use Rattle.fv_io.specs.Source.{KeepsSource, IsSteady}
use Rattle.serve_session.specs.Serving.{SoFar}
use Rattle.serve_session.proofs.serving.serve.Given as goal

-- the requests before were answered
abbrev pub invariant-requests : goal.invariant-requests
invariant-requests g l = record {
  unfailed : l.reader.failed ≡ false;
  so_far : SoFar g.P.Player g.K.Sink g.S.Source l.fn.reader l.fn.player l.player l.fn.source l.source l.fn.out l.out l.reader;
  keeps : KeepsSource g.S.Source l.fn.source l.source;
  steady : IsSteady g.S.Source l.fn.source l.source;
  unwritten : g.K.Sink.faults l.out ≡ g.K.Sink.faults l.fn.out;
  later : IsLater g.K.Sink l.fn.out l.out;
}

abbrev pub decreases-requests : goal.decreases-requests
decreases-requests g l = 1000001 - l.reader.count
