-- What was read is the frame at its offset, and a clip's bytes have all of it.
use Rattle.std.proofs.Common.{◌≡◌, ◌∙◌, ◌<◌, length, Err, IsSome, sym, ap, subst, arith, rules}
use Rattle.std.proofs.lemmas.Option.{get_or_from_slice_get}
use Rattle.y4m_stream.proofs.CallerLemmas.{frame_inside}
use Rattle.seq_source.specs.FrameSource.{HasFrames, frames_of}
use Rattle.seq_source.specs.Faults.{IsNoChange}
use Rattle.seq_source.proofs.CallerLemmas.{clip_told}
use Rattle.seq_source.proofs.FrameLemmas.{told_at, has_told, each_inside}
use Rattle.seq_source.proofs.KeepingLemmas.{no_change}
use Rattle.seq_source.proofs.seq_source.SeqSource.frame.Goals as goal

pub returns-clause-told : goal.returns-clause-told
returns-clause-told g c frames is =
    told_at c.self.inside.index (g.S.Source.bytes c.self.inside.source) c.args.n c.in_ok-frame.frame c.in_ok-frame.ensures.read.picture frames
    (ap (frames_of g.S.Source) c.self.view_is ∙ is)

pub returns-in_err-frame-clause-kept : goal.returns-in_err-frame-clause-kept
returns-in_err-frame-clause-kept g c told =
    let index = c.self.inside.index in
    let here : IsSome (frames_of g.S.Source (record { source = c.self.inside.source; index = index; place = c.self.inside.place })) = subst (λ v. IsSome (frames_of g.S.Source v)) (sym c.self.view_is) told in
    let frames : index.info.frames ≡ c.args.self.now.index.info.frames = ap (λ v. v.index.info.frames) c.self.view_is in
    let within : c.args.n < length index.offsets = omega (arith, frames, c.requires, c.read_indexed.ensures.count) in
    let bytes = has_told index (g.S.Source.bytes c.self.inside.source) here in
    let fact : IsNoChange c.in_err-frame.field-0.0 = no_change g.S.Source c.self.inside.source c.read_indexed.new.source c.args.n _ bytes.0 bytes.1 (each_inside index bytes.0 c.args.n within bytes.2) c.in_err-frame.field-0.0 c.in_err-frame.ensures.fault in
    let is : c.from_residual.result ≡ Err c.in_err-frame.field-0.0 = search rules in
    rw is fact
