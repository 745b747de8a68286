use Rattle.std.proofs.Common.{◌<◌, length, sym, refl, ap, ◌∙◌, subst}
use Rattle.frame_cache.specs.Cached.{Differ}
use Rattle.frame_cache.proofs.CallerLemmas.{differ_without}
use Rattle.serve_machine.specs.Holdings.{claims_of}
use Rattle.serve_core.specs.CoreValue.{CoreValue}
use Rattle.serve_shared.proofs.ClaimLemmas.{newest_claimed, claims_differ, closed_one, closed_none, fewer_claims}
use Rattle.serve_shared.proofs.steps.give_up.Goals as goal

pub claims-init : goal.claims-init
claims-init g c = record { fixed = refl; differ = claims_differ c.args.core.now (c.account.ensures c.requires.window); closes = refl }

pub abandon-requires-clause-claim : goal.abandon-requires-clause-claim
abandon-requires-clause-claim g c = newest_claimed c.args.number c.claims.core.claims c.claims.invariant.differ c.in-Some.key (sym c.in-Some.ensures)

pub abandon-requires-clause-worker : goal.abandon-requires-clause-worker
abandon-requires-clause-worker g c = subst (λ f. c.args.number < f.workers) (sym c.claims.invariant.fixed) c.requires.worker

pub claims-smaller : goal.claims-smaller
claims-smaller g c =
    subst (λ (z : CoreValue g.row.I.Denot). length (claims_of c.args.number z.claims) < length (claims_of c.args.number c.claims.core.claims)) (sym c.abandon.ensures)
    (fewer_claims c.args.number c.claims.core.claims c.in-Some.key c.claims.invariant.differ (sym c.in-Some.ensures))

pub claims-preserved : goal.claims-preserved
claims-preserved g c =
    let is = c.abandon.ensures in record {
      fixed = ap (λ (z : CoreValue g.row.I.Denot). z.fixed) is ∙ c.claims.invariant.fixed;
      differ = subst (λ (z : CoreValue g.row.I.Denot). Differ z.claims) (sym is) (differ_without c.in-Some.key c.claims.core.claims c.claims.invariant.differ);
      closes = closed_one c.args.number c.claims.core c.abandon.new.self c.in-Some.key c.claims.invariant.differ (sym c.in-Some.ensures) is ∙ c.claims.invariant.closes;
    }

pub returns : goal.returns
returns g c = sym (closed_none c.args.number c.claims.core (sym c.in_default.ensures)) ∙ c.claims.invariant.closes
