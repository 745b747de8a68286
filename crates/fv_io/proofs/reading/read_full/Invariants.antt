use Rattle.std.proofs.Common.{◌≡◌, ◌≤◌, ◌+◌, ◌-◌, ℕ, List, Some, length, take, drop}
use Rattle.fv_io.specs.Source.{KeepsSource, IsSteady}
use Rattle.fv_io.proofs.reading.read_full.Given as goal

-- the front of the buffer has what was read
abbrev pub invariant-loop-have : goal.invariant-loop-have
invariant-loop-have g l =
    let source = g.S.Source in
    record {
      fits : l.have ≤ length l.buf;
      size : length l.buf ≡ length l.fn.buf;
      given : (told : List ℕ) → source.bytes l.fn.source ≡ Some told → take l.have l.buf ≡ take l.have (drop (source.place l.fn.source) told);
      inside : (told : List ℕ) → source.bytes l.fn.source ≡ Some told → l.have ≤ length (drop (source.place l.fn.source) told);
      moved : source.place l.source ≡ source.place l.fn.source + l.have;
      keeps : KeepsSource source l.fn.source l.source;
      steady : IsSteady source l.fn.source l.source;
    }

abbrev pub decreases-loop-have : goal.decreases-loop-have
decreases-loop-have g l = length l.initial.buf - l.have
