use Rattle.std.proofs.Common.{◌≡◌, ◌∙◌, ℕ, List, sym, ap, subst}
use Rattle.std.proofs.lemmas.Result.{on_ok_weaker, on_err_weaker}
use Rattle.fv_io.specs.Sink.{Puts, PutsPrefix}
use Rattle.fv_plane.specs.Picture.{bytes_of}
use Rattle.fv_session.specs.Answers.{frame_text}
use Rattle.prefetch.specs.Windows.{given}
use Rattle.serve_core.specs.CoreValue.{CoreValue}
use Rattle.serve_worker.specs.declared.instance.Instance.{Instance}
use Rattle.prefetch.specs.Played.{PlayedValue, StandsForFrames}
use Rattle.prefetch.proofs.SessionLemmas.{made_stands, unmade_stands, one_is}
use Rattle.prefetch.proofs.player.PlayedPlayer.put_frame.Goals as goal
use Rattle.prefetch.proofs.player.PlayedPlayer.put_frame.Given.{Over}
use Rattle.prefetch.proofs.player.PlayedPlayer.put_frame.Goals.{After-put_answered-put}

-- the frame has the bytes that the clip stands for
bytes_are : (g : Over) (c : After-put_answered-put g) (at : ℕ → List ℕ) → StandsForFrames g.S.Source c.args.self.now.core at → bytes_of c.in-Some.frame.now ≡ at c.args.n
bytes_are g c at stands =
    let one = c.in-Ok.ensures.frame in
    let found = c.first_of.ensures one.one (ap given c.deref.ensures.value ∙ one.only) in
    ap bytes_of (one_is c.in-Some.frame.now one.one (rw c.in-Some.is at found)) ∙ one.right at stands

pub returns-in-Err-clause-stands : goal.returns-in-Err-clause-stands
returns-in-Err-clause-stands g c = λ at stands.
    unmade_stands g.S.Source c.args.self.now c.make.new.self c.args.n at c.in-Err.stop c.in-Err.ensures.stopped c.in-Err.ensures.memory c.in-Err.ensures.write stands

pub returns-clause-put : goal.returns-clause-put
returns-clause-put g c =
    let at = goal.at.returns-clause-put g c in
    on_ok_weaker c.put_answered-put.result (λ put f stands. subst (λ l. Puts g.K.Sink c.args.out.now c.put_answered-put.new.out (frame_text c.args.n l)) (bytes_are g at.After-put_answered-put f stands) put) c.put_answered-put.ensures.put

pub returns-clause-cut : goal.returns-clause-cut
returns-clause-cut g c =
    let at = goal.at.returns-clause-cut g c in
    on_err_weaker c.put_answered-put.result (λ cut f stands. subst (λ l. PutsPrefix g.K.Sink c.args.out.now c.put_answered-put.new.out (frame_text c.args.n l)) (bytes_are g at.After-put_answered-put f stands) cut) c.put_answered-put.ensures.cut

pub returns-clause-stands : goal.returns-clause-stands
returns-clause-stands g c = λ at stands.
    subst (λ (d : CoreValue (Instance g.row.S.Denot)). StandsForFrames g.S.Source d at) (ap (λ (p : PlayedValue (Instance g.row.S.Denot)). p.core) (sym c.self.view_is) ∙ sym c.keep_memory.ensures)
    (made_stands g.S.Source c.args.self.now c.make.new.self c.args.n at c.in-Ok.ensures.made stands)
