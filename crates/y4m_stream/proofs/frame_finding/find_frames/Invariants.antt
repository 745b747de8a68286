use Rattle.std.proofs.Common.{◌≡◌, ◌+◌, ◌-◌, ◌*◌, ◌≤◌, ℕ, List, Some, length, drop}
use Rattle.fv_io.specs.Source.{KeepsSource, IsSteady}
use Rattle.y4m_stream.specs.ReadAhead.{left_of}
use Rattle.y4m_stream.specs.Frames.{AreApart, frames_at}
use Rattle.y4m_stream.specs.Stream.{FramesThen}
use Rattle.y4m_stream.proofs.OffsetLemmas.{AreFrom}
use Rattle.y4m_stream.proofs.frame_finding.find_frames.Given as goal

-- the frames so far end at this offset
abbrev pub invariant-loop-offsets : goal.invariant-loop-offsets
invariant-loop-offsets g l =
    let source = g.S.Source in
    record {
      most : length l.offsets.items ≤ 1000000;
      apart : AreApart l.size l.place l.offsets.items;
      early : l.place ≤ 4096 + length l.offsets.items * 16781312;
      keeps : KeepsSource source l.fn.source l.source;
      steady : IsSteady source l.fn.source l.source;
      here : (told : List ℕ) → source.bytes l.fn.source ≡ Some told → left_of l.ahead told (source.place l.source) ≡ drop l.place told;
      frames : (told : List ℕ) → source.bytes l.fn.source ≡ Some told → FramesThen l.size (drop l.start told) (frames_at told l.size l.offsets.items) (drop l.place told);
      offsets_are : (told : List ℕ) → source.bytes l.fn.source ≡ Some told → AreFrom told l.size l.start l.place l.offsets.items;
    }

abbrev pub decreases-loop-offsets : goal.decreases-loop-offsets
decreases-loop-offsets g l = 1000000 - length l.offsets.items
