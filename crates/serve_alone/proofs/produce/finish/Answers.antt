-- Made, and then published.
use Rattle.std.proofs.Common.{◌≡◌, true, sym, refl, ap, ◌∙◌, subst}
use Rattle.clip_graph.specs.Plan.{input_keys}
use Rattle.serve_machine.specs.Events.{has_got_all}
use Rattle.serve_machine.proofs.OwnLemmas.{all_got}
use Rattle.serve_alone.proofs.KeyLemmas.{claim_at}
use Rattle.serve_alone.proofs.Producing.{unmade_after, published_ok}
use Rattle.serve_core.proofs.Tables.{none_held}
use Rattle.serve_alone.proofs.produce.finish.Goals as goal

pub make-requires-clause-claim : goal.make-requires-clause-claim
make-requires-clause-claim g c = claim_at c.args.key 0 c.args.core.now.claims c.requires.claim

pub returns-in_default-clause-err : goal.returns-in_default-clause-err
returns-in_default-clause-err g c = unmade_after g.I.Held c.args.graph.now c.args.core.now c.make.new.core c.make.new.core c.args.key c.args.frames.now c.in-Ok.frame c.in-Ok.ensures.ok refl

pub publish-requires-clause-hands : goal.publish-requires-clause-hands
publish-requires-clause-hands g c = none_held c.make.new.core.table c.in-Ok.ensures.ok.went.free

pub publish-requires-clause-got : goal.publish-requires-clause-got
publish-requires-clause-got g c =
    let went = c.in-Ok.ensures.ok.went in
    subst (λ pl. has_got_all 0 (input_keys pl c.args.key) c.make.new.core.journal ≡ true) (sym (ap (λ f. f.plan) went.fixed ∙ c.requires.alone.plan_is))
    (subst (λ es. has_got_all 0 (input_keys c.args.graph.now c.args.key) es ≡ true) (sym went.journal) (all_got 0 (input_keys c.args.graph.now c.args.key) c.args.core.now.journal _ c.requires.got))

pub returns-in-Ok-publish-clause-ok : goal.returns-in-Ok-publish-clause-ok
returns-in-Ok-publish-clause-ok g c = published_ok g.I.Held c.args.graph.now c.args.core.now c.make.new.core c.publish.new.self c.args.key c.args.frames.now c.in-Ok.frame c.in-Ok-share.kept c.requires.alone.plan_is c.in-Ok.ensures.ok c.in-Ok-share.ensures c.in-Ok-publish.ensures.ok

pub returns-in-Err-publish-clause-err : goal.returns-in-Err-publish-clause-err
returns-in-Err-publish-clause-err g c = unmade_after g.I.Held c.args.graph.now c.args.core.now c.make.new.core c.publish.new.self c.args.key c.args.frames.now c.in-Ok.frame c.in-Ok.ensures.ok c.in-Err-publish.ensures.err
