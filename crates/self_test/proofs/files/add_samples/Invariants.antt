use Rattle.std.proofs.Common.{◌≡◌, ◌-◌, ◌++◌}
use Rattle.self_test.specs.Workload.{after, samples}
use Rattle.self_test.proofs.files.add_samples.Given as goal

-- with the samples that are left the bytes are whole
abbrev pub invariant-loop-done : goal.invariant-loop-done
invariant-loop-done l = record {
  state : after (l.count - l._done) l.state ≡ after l.count l.fn.state;
  bytes : l.bytes.items ++ samples (l.count - l._done) l.state ≡ l.fn.bytes.items ++ samples l.count l.fn.state;
}
