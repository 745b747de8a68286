use Rattle.std.proofs.Common.{◌≡◌, ◌-◌, ◌++◌}
use Rattle.self_test.specs.Workload.{frames}
use Rattle.self_test.proofs.files.add_frames.Given as goal

-- with the frames that are left the bytes are whole
abbrev pub invariant-loop-done : goal.invariant-loop-done
invariant-loop-done l = l.bytes.items ++ frames (l.count - l._done) l.size l.state ≡ l.fn.bytes.items ++ frames l.count l.size l.fn.state
