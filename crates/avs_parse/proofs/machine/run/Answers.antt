use Rattle.std.proofs.Common.{◌≡◌, sym, ap, subst, ◌∙◌, ◌-◌, ◌*◌, ◌<◌, length, take, drop, arith, IfOk}
use Rattle.avs_lex.specs.Tokens.{IsTokenOf}
use Rattle.avs_tree.specs.Lexeme.{lexemes}
use Rattle.avs_tree.specs.Place as p
use Rattle.avs_frames.specs.ScriptViews.{state_view, step_view}
use Rattle.avs_parse.specs.Turns.{open_in}
use Rattle.avs_parse.specs.VerdictView.{verdict_view}
use Rattle.avs_parse.proofs.OpenLemmas.{opens_few, start_none}
use Rattle.avs_parse.proofs.TurnLemmas.{first_step, first_again, after_is, each_after, fewer_left, still_few}
use Rattle.avs_parse.proofs.machine.run.Goals as goal

pub loop-rest-init : goal.loop-rest-init
unfolding p.verdict
loop-rest-init c =
    let none = start_none c.start-state.result c.start-state.ensures in
    record { each = c.requires; runs = ap (λ z. p.run z (lexemes c.args.text.now c.args.tokens.now)) c.start-state.ensures; steps = omega (arith, none) }

pub loop-rest-preserved-in-Again : goal.loop-rest-preserved-in-Again
loop-rest-preserved-in-Again c =
    let rest = c.loop-rest.rest.now in
    let some : 0 < length rest = omega (arith, c.in-len1-up.len_at_least) in
    let same = rw c.in-Again.is at c.in-Ok.ensures.turn in
    let fewer = rw c.in-Again.is at c.in-Ok.ensures.fewer in
    record {
      each = c.loop-rest.invariant.each;
      runs = first_again c.args.text.now (state_view c.loop-rest.state) _ _ rest (state_view c.in-Again.same) some c.new.ensures same ∙ c.loop-rest.invariant.runs;
      steps = omega (arith, c.one_more-now.ensures.most, fewer, c.loop-rest.invariant.steps);
    }

pub loop-rest-smaller : goal.loop-rest-smaller
loop-rest-smaller c =
    let rest = c.loop-rest.rest.now in
    let some : 0 < length rest = omega (arith, c.in-len1-up.len_at_least) in
    let step = rw c.in-Does.is at c.in-Ok.ensures.turn in
    fewer_left rest (open_in c.loop-rest.state) (open_in c.in-Ok-judged.next) some (opens_few c.loop-rest.state c.in-Ok-judged.next _ (sym step ∙ c.in-Ok-judged.ensures.taken))

pub loop-rest-preserved : goal.loop-rest-preserved
loop-rest-preserved c =
    let text = c.args.text.now in
    let rest = c.loop-rest.rest.now in
    let some : 0 < length rest = omega (arith, c.in-len1-up.len_at_least) in
    let step = rw c.in-Does.is at c.in-Ok.ensures.turn in
    let few = opens_few c.loop-rest.state c.in-Ok-judged.next _ (sym step ∙ c.in-Ok-judged.ensures.taken) in
    record {
      each = each_after (IsTokenOf text) rest c.loop-rest.invariant.each;
      runs = c.in-Ok-judged.ensures.goes (λ z. p.run z (lexemes text (take (length rest - 1) (drop 1 rest))))
          ∙ ap (λ ts. p.go_on (step_view c.in-Does.step) (lexemes text ts) (λ z. p.run z (lexemes text ts))) (after_is rest)
          ∙ sym (first_step text (state_view c.loop-rest.state) _ _ rest (step_view c.in-Does.step) some c.new.ensures step) ∙ c.loop-rest.invariant.runs;
      steps = still_few rest c.loop-rest.turns c.one_more-now.result (open_in c.loop-rest.state) (open_in c.in-Ok-judged.next) (3 * length c.args.tokens.now) some few c.one_more-now.ensures.most c.loop-rest.invariant.steps;
    }

pub returns-in-Err-judged-clause-verdict : goal.returns-in-Err-judged-clause-verdict
returns-in-Err-judged-clause-verdict c =
    let text = c.args.text.now in
    let rest = c.loop-rest.rest.now in
    let some : 0 < length rest = omega (arith, c.in-len1-up.len_at_least) in
    let step = rw c.in-Does.is at c.in-Ok.ensures.turn in
    subst (λ z. IfOk z (λ made. verdict_view made ≡ p.verdict (lexemes text c.args.tokens.now))) (sym c.ended-in-Err-judged.ensures.answer) (
    c.in-Err-judged.ensures.ends (λ z. p.run z (lexemes text (take (length rest - 1) (drop 1 rest))))
    ∙ ap (λ ts. p.go_on (step_view c.in-Does.step) (lexemes text ts) (λ z. p.run z (lexemes text ts))) (after_is rest)
    ∙ sym (first_step text (state_view c.loop-rest.state) _ _ rest (step_view c.in-Does.step) some c.new.ensures step) ∙ c.loop-rest.invariant.runs)
