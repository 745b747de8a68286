use Rattle.std.proofs.Common.{◌≡◌, ◌<◌, true, slice_get, sym, ap, ◌∙◌, subst}
use Rattle.serve_machine.specs.Events.{may_fail, names_source}
use Rattle.serve_machine.proofs.OwnLemmas.{still_fails}
use Rattle.serve_machine.specs.Work.{abandons}
use Rattle.serve_machine.specs.Holdings.{claims_of}
use Rattle.serve_core.specs.CoreValue.{CoreValue}
use Rattle.serve_core.specs.Holds.{IsThere}
use Rattle.serve_shared.proofs.ClaimLemmas.{given_fixed, given_table, given_failed, given_journal}
use Rattle.serve_shared.proofs.steps.fail.Goals as goal

pub fail-requires-clause-worker : goal.fail-requires-clause-worker
fail-requires-clause-worker g c =
    let old = c.args.core.now in
    let n = c.args.number in
    subst (λ f. n < f.workers) (sym (ap (λ (z : CoreValue g.row.I.Denot). z.fixed) c.give_up-stroke.ensures ∙ given_fixed n (claims_of n old.claims) old)) c.requires.worker.worker

pub fail-requires-clause-fresh : goal.fail-requires-clause-fresh
fail-requires-clause-fresh g c =
    let old = c.args.core.now in
    let n = c.args.number in
    ap (λ l. slice_get l n) (ap (λ (z : CoreValue g.row.I.Denot). z.failed) c.give_up-stroke.ensures ∙ given_failed n (claims_of n old.claims) old) ∙ c.requires.worker.unfailed

pub fail-requires-clause-cause : goal.fail-requires-clause-cause
fail-requires-clause-cause g c =
    let old = c.args.core.now in
    let n = c.args.number in
    subst (λ es. may_fail n c.args.stop es ≡ true) (sym (ap (λ (z : CoreValue g.row.I.Denot). z.journal) c.give_up-stroke.ensures ∙ given_journal n (claims_of n old.claims) old))
    (still_fails n c.args.stop old.journal (abandons n (claims_of n old.claims)) c.requires.cause)

pub fail-requires-clause-source : goal.fail-requires-clause-source
fail-requires-clause-source g c =
    let old = c.args.core.now in
    let n = c.args.number in
    ap (λ f. names_source f.plan c.args.stop) (ap (λ (z : CoreValue g.row.I.Denot). z.fixed) c.give_up-stroke.ensures ∙ given_fixed n (claims_of n old.claims) old) ∙ c.requires.source

pub fail-requires-clause-there : goal.fail-requires-clause-there
fail-requires-clause-there g c =
    let old = c.args.core.now in
    let n = c.args.number in
    subst (λ t. IsThere t c.args.stop) (sym (ap (λ (z : CoreValue g.row.I.Denot). z.table) c.give_up-stroke.ensures ∙ given_table n (claims_of n old.claims) old)) c.requires.there
