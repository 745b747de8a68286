-- The text and what is left are the whole.
use Rattle.std.proofs.Common.{◌≡◌, ◌+◌, ◌-◌, ◌≤◌, List, ℕ, Some, length}
use Rattle.fv_io.specs.Source.{KeepsSource, IsSteady}
use Rattle.serve_replay.specs.Verdicts.{longest, with_rest}
use Rattle.serve_replay.proofs.reading.read_all.Given as goal

abbrev pub invariant-loop-text : goal.invariant-loop-text
invariant-loop-text g l =
    let source = g.S.Source in
    record {
      told : (told : List ℕ) → source.bytes l.fn.source ≡ Some told → with_rest l.text.items told (source.place l.source) ≡ told;
      few : length l.text.items ≤ longest + 1;
      room : length l.buf ≡ length l.fn.buf;
      keeps : KeepsSource source l.fn.source l.source;
      steady : IsSteady source l.fn.source l.source;
    }

abbrev pub decreases-loop-text : goal.decreases-loop-text
decreases-loop-text g l = longest + 1 - length l.text.items
