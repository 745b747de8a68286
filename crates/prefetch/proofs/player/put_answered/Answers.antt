-- The line tells the number of the frame's bytes.
use Rattle.std.proofs.Common.{◌≡◌, ◌∙◌, ◌++◌, length, sym, ap, subst}
use Rattle.fv_io.specs.Sink.{Puts, PutsPrefix}
use Rattle.fv_plane.specs.Picture.{bytes_of}
use Rattle.fv_plane.proofs.CallerLemmas.{length-bytes_of}
use Rattle.fv_session.specs.Answers.{answer_line, frame_text}
use Rattle.fv_session.specs.declared.answer.Answer.TheVariants as a
use Rattle.prefetch.proofs.player.put_answered.Goals as goal
use Rattle.prefetch.proofs.player.put_answered.Given.{Over}
use Rattle.prefetch.proofs.player.put_answered.Goals.{After-write_after}

text : (g : Over) (c : After-write_after g) → c.as_bytes.result.now ++ bytes_of c.args.frame.now ≡ frame_text c.args.n (bytes_of c.args.frame.now)
text g c =
    let size : c.bytes-length.result ≡ length (bytes_of c.args.frame.now) = c.bytes-length.ensures ∙ (let shape = c.shape.ensures.shape in rw shape (sym (length-bytes_of c.args.frame.now c.shape.ensures.sizes))) in
    let line : c.as_bytes.result.now ≡ answer_line (a.Frame c.args.n c.bytes-length.result) = c.as_bytes.ensures.value ∙ c.as_str.ensures.value ∙ c.answer_line-line.ensures in
    ap (λ l. l ++ bytes_of c.args.frame.now) (line ∙ ap (λ n. answer_line (a.Frame c.args.n n)) size)

pub returns-in-Ok-clause-put : goal.returns-in-Ok-clause-put
returns-in-Ok-clause-put g c =
    let at = goal.at.returns-in-Ok-clause-put g c in
    subst (λ l. Puts g.K.Sink c.args.out.now c.write_after.new.out l) (text g at.After-write_after) c.in-Ok.ensures.put

pub returns-in-Err-clause-cut : goal.returns-in-Err-clause-cut
returns-in-Err-clause-cut g c =
    let at = goal.at.returns-in-Err-clause-cut g c in
    subst (λ l. PutsPrefix g.K.Sink c.args.out.now c.write_after.new.out l) (text g at.After-write_after) c.in-Err.ensures.cut
