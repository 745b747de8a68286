-- The bytes that were read end with those of the frame, in range.
use Rattle.std.proofs.Common.{◌≡◌, ◌+◌, ◌-◌, ◌<◌, ℕ, List, length, drop, Some, sym, ◌∙◌, ap, arith, rules}
use Rattle.std.proofs.lemmas.List.{take_at}
use Rattle.fv_plane.specs.Format.{frame_bytes}
use Rattle.fv_plane.specs.Picture.{picture_of, picture_in_range, Picture}
use Rattle.fv_plane.proofs.CallerLemmas.{picture_of-take}
use Rattle.seq_source.specs.FrameSource.{end_of}
use Rattle.seq_source.proofs.FrameLemmas.{frame_at}
use Rattle.seq_source.proofs.reading.read_indexed.Goals as goal

pub returns-clause-read : goal.returns-clause-read
returns-clause-read g c =
    let index = c.args.index.now in
    let own = c.info.result.shape in
    let read : List ℕ = c.read_up_to.new.bytes in
    let size : length read ≡ c.resize.new.self.len = search rules in
    let start : ℕ = c.offset-start.result in
    let before : ℕ = start - c.in_ok-place.place in
    let kept = take_at read (drop (length read) c.resize.new.self.items) c.resize.new.self.len size in
    let frame : c.in_ok-frame.frame ≡ picture_in_range own (drop before read) = c.in_ok-frame.ensures ∙ ap (λ (l : List ℕ). picture_in_range own (drop before l)) kept in
    let shape : own ≡ index.info.shape = ap (λ i. i.shape) c.info.ensures.info in
    let size_is : c.bytes.result ≡ frame_bytes index.info.shape = c.bytes.ensures ∙ ap frame_bytes shape in
    let there : c.args.n < length index.offsets = omega (arith, c.requires.inside, c.info.ensures.index.count) in
    let known = c.in_ok-place.ensures.keeps.told in
    let ends : start + c.bytes.result ≡ end_of index c.args.n = omega (arith, c.offset-start.ensures, size_is) in
    let past : start + frame_bytes own ≡ end_of index c.args.n = ap (λ n. start + n) (sym c.bytes.ensures) ∙ ends in
    record {
      picture = λ told is.
          let cut : c.in_ok-frame.frame ≡ picture_of own (drop start told)
          = frame ∙ ap (picture_in_range own) (c.in_ok-read_up_to.ensures.bytes told (known ∙ is)) ∙ picture_of-take own (drop start told) in
          frame_at index told c.args.n there
          ∙ ap Some (sym (cut ∙ ap (λ s. picture_of s (drop start told)) shape ∙ ap (λ n. picture_of index.info.shape (drop n told)) c.offset-start.ensures));
      shape = ap (λ (p : Picture). p.shape) frame ∙ shape;
      whole = λ told is. omega (arith, c.in_ok-read_up_to.ensures.whole told (known ∙ is), past);
      end_is = ends;
      is_at = rw c.bytes.ensures c.in_ok-read_up_to.ensures.is_at;
    }
