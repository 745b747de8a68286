-- Another frame ends at the place, or none is left.
use Rattle.std.proofs.Common.{◌≡◌, ◌≢◌, ◌+◌, ◌≤◌, ◌++◌, ◌∷◌, ℕ, List, [], Some, length, drop, ◌∙◌, ap, arith, rules}
use Rattle.std.proofs.lemmas.List.{length-append}
use Rattle.y4m_stream.specs.ReadAhead.{left_of}
use Rattle.y4m_stream.specs.Frames.{IsNext}
use Rattle.y4m_stream.proofs.FrameLemmas.{left_there, more_frames, more_apart}
use Rattle.y4m_stream.proofs.OffsetLemmas.{found_more}
use Rattle.y4m_stream.proofs.frame_finding.find_frames.Goals as goal

pub loop-offsets-preserved : goal.loop-offsets-preserved
loop-offsets-preserved g c =
    let i = c.loop-offsets.invariant in
    let found = c.in_ok-len.ensures in
    let len : ℕ = c.in-Some.len in
    let offsets : List ℕ = c.loop-offsets.offsets.items in
    let place : ℕ = c.loop-offsets.place in
    let few : (c.len.result ≢ 1000000) × (len ≤ 4096) = rw c.in-Some.is at found.counts in
    let count : c.len.result ≡ length offsets = search rules in
    let pushed : c.push.new.self.items ≡ offsets ++ (place + len) ∷ [] = c.in_ok-push.ensures.items in
    let longer : length c.push.new.self.items ≡ length offsets + 1 = ap length pushed ∙ length-append offsets ((place + len) ∷ []) in
    let next : (told : List ℕ) → g.S.Source.bytes c.args.source.now ≡ Some told → IsNext len c.args.size (drop place told) (left_of c.next_frame.new.ahead told (g.S.Source.place c.next_frame.new.source))
    = λ told is. rw (c.in-Some.is, i.here told is) at (found.next told (i.keeps.told ∙ is)) in
    record {
      most = omega (arith, longer, few.0, count, i.most);
      apart = rw pushed (more_apart c.args.size place len offsets i.apart);
      early = omega (arith, longer, few.1, i.early, c.requires.small);
      keeps = record { told = found.keeps.told ∙ i.keeps.told; rewinds = found.keeps.rewinds ∙ i.keeps.rewinds; later = omega (arith, found.keeps.later, i.keeps.later) };
      steady = found.steady (λ bad. let no : ⊥ = cc in no) ∙ i.steady;
      here = λ told is. left_there told c.args.size place len _ (next told is);
      frames = λ told is. rw pushed (more_frames told c.args.size place len _ (next told is) (drop c.args.start told) offsets (i.frames told is));
      offsets_are = λ told is. rw pushed (found_more told c.args.size c.args.start place len offsets (i.offsets_are told is) (let there = next told is in there.len_is));
    }
