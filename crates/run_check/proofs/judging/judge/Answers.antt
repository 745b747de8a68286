use Rattle.std.proofs.Common.{◌≡◌, suc, [], ◌∷◌, ◌++◌, length, sym, ap, subst, length-append, arith}
use Rattle.std.proofs.lemmas.Bool.{eqb-true, eqb-false}
use Rattle.run_text.specs.Journal.{IsFirstWrong}
use Rattle.run_text.specs.Progress.{unread}
use Rattle.run_text.proofs.JudgeLemmas.{Consumed, nothing_read, read_more, all_read, wrong_next}
use Rattle.run_check.proofs.StepLemmas.{no_text}
use Rattle.run_check.proofs.judging.judge.Goals as goal

pub loop-rest-init : goal.loop-rest-init
loop-rest-init c = record {
  few = omega arith;
  far = λ capacity h. record { lines = []; progress = unread; consumed = nothing_read c.args.graph.now c.args.root capacity c.args.text.now; stands = h; line_is = omega arith };
}

pub loop-rest-preserved : goal.loop-rest-preserved
loop-rest-preserved c = record {
  few = (let few = c.loop-rest.invariant.few in let back = c.split_at.ensures.back_len in let inside = rw c.in-Ok-Some.field-0-is at c.in-Ok-Some.ensures.inside in omega arith);
  far = λ capacity h.
      let f = c.loop-rest.invariant.far capacity h in
      let r = rw c.in-Ok-Some.field-0-is at (c.in-Ok-Some.ensures.steps capacity f.progress f.stands) in
      let n = length-append f.lines (r.line ∷ []) in
      let is = f.line_is in
      record {
        lines = f.lines ++ r.line ∷ [];
        progress = r.after;
        consumed = subst (λ t. Consumed c.args.graph.now c.args.root capacity c.args.text.now t (f.lines ++ r.line ∷ []) r.after) (sym c.split_at.ensures.back)
            (read_more c.args.graph.now c.args.root capacity c.args.text.now c.loop-rest.rest.now _ f.lines r.line f.progress r.after f.consumed r.text_is r.fits r.goes);
        stands = r.stands;
        line_is = omega arith;
      };
}

pub returns-in-Ok-None : goal.returns-in-Ok-None
returns-in-Ok-None c = λ capacity h.
    let f = c.loop-rest.invariant.far capacity h in
    let is = f.line_is in
    let same : suc (length f.lines) ≡ c.loop-rest.line = omega arith in
    subst (IsFirstWrong c.args.graph.now c.args.root capacity c.args.text.now) same
    (wrong_next c.args.graph.now c.args.root capacity c.args.text.now c.loop-rest.rest.now f.lines f.progress f.consumed (rw c.in-Ok-None.field-0-is at (c.in-Ok-None.ensures.steps capacity f.progress f.stands))
    (λ none. absurd (eqb-false (length c.loop-rest.rest.now) 0 (sym c.loop-rest-test.ensures) (ap length none))))

pub returns : goal.returns
returns c = λ capacity h.
    let f = c.loop-rest.invariant.far capacity h in
    let is = f.line_is in
    let none = no_text c.loop-rest.rest.now (eqb-true (length c.loop-rest.rest.now) 0 (sym c.loop-rest-test.ensures)) in
    all_read c.args.graph.now c.args.root capacity c.args.text.now f.lines f.progress (subst (λ t. Consumed c.args.graph.now c.args.root capacity c.args.text.now t f.lines f.progress) none f.consumed) (omega arith)
