-- The loop of `Source::skip`: what was passed was there.
use Rattle.std.proofs.Common.{◌≡◌, ◌≤◌, ◌+◌, ◌-◌, ℕ, List, Some, length, drop}
use Rattle.fv_io.specs.Source.{KeepsSource, IsSteady}
use Rattle.fv_io.proofs.source.Source.skip.Given as goal

abbrev pub invariant-loop-passed : goal.invariant-loop-passed
invariant-loop-passed g l =
    let source = g.Self.Source in
    record {
      few : l.passed ≤ l.size;
      inside : (told : List ℕ) → source.bytes l.fn.self ≡ Some told → l.passed ≤ length (drop (source.place l.fn.self) told);
      moved : source.place l.self ≡ source.place l.fn.self + l.passed;
      keeps : KeepsSource source l.fn.self l.self;
      steady : IsSteady source l.fn.self l.self;
    }

abbrev pub decreases-loop-passed : goal.decreases-loop-passed
decreases-loop-passed g l = l.size - l.passed
