-- The stream that was digested is that of the script's clip.
use Rattle.std.proofs.Common.{refl, ap, Some, string_bytes}
use Rattle.std.proofs.lemmas.Result.{IfOk-weaker}
use Rattle.self_test.specs.Workload.{self_world}
use Rattle.serve_app.proofs.RunLemmas.{self_line}
use Rattle.serve_app.proofs.test_run.line_of.Goals as goal

pub returns-in-Ok : goal.returns-in-Ok
returns-in-Ok c =
    let puts = let is = rw c.in_ok-script.ensures at c.in-Ok.ensures.render in is.whole (self_world c.args.number) c.in_ok-files.ensures.world in
    IfOk-weaker c.line.result _ _ (λ line is. self_line _ _ _ _ _ c.in-Ok.all.frames _ (string_bytes line) puts (ap (λ s. Some s.bytes) c.new-sink.ensures) refl is) c.line.ensures
