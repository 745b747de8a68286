use Rattle.std.proofs.Common.{◌≡◌, ◌||◌, not, rules}
use Rattle.std.specs.List.{list_any}
use Rattle.clip_term.specs.Refusals.{below}
use Rattle.clip_check.proofs.time.time_fault.Goals as goal

pub returns-in-SelectEvery : goal.returns-in-SelectEvery
returns-in-SelectEvery c =
    let bad : c.bad_every.result ≡ (below c.in-SelectEvery.step 1 || list_any (λ o. below o 0) c.in-SelectEvery.offsets) = search rules in
    let past : c.any_past.result ≡ list_any (λ o. not (below o c.args.summary.now.first.frames)) c.in-SelectEvery.offsets = search rules in
    let op_is = c.in-SelectEvery.is in
    let fault = c.every_fault.ensures in
    λ infos t. let told = rw (bad, past) at fault in rw op_is told
