-- A filter is added with the info that its check told.
use Rattle.std.proofs.Common.{◌∙◌, ℕ, sym, ap}
use Rattle.clip_term.specs.Terms.{Act, source, plain, time, space, joined, soft, fields, choice, act_of, check}
use Rattle.clip_graph.specs.Plan.{IsCounted}
use Rattle.clip_reference.specs.Ready.{IsFilter}
use Rattle.filter_tests.proofs.plans.apply.Goals as goal

-- it is not counted as a source
filter_counted : (act : Act) (before mode : ℕ) → IsFilter act → IsCounted act before mode
filter_counted (source name number info) before mode filter = absurd filter
filter_counted (plain info colour) before mode filter = absurd filter
filter_counted (time op) before mode filter = tt
filter_counted (space op) before mode filter = tt
filter_counted (joined op) before mode filter = tt
filter_counted (soft op) before mode filter = tt
filter_counted (fields op) before mode filter = tt
filter_counted (choice op) before mode filter = tt

pub add-requires-clause-told : goal.add-requires-clause-told
add-requires-clause-told g c =
    sym (ap (check (act_of c.args.op)) (c.deref.ensures.value ∙ c.in_ok-infos.ensures.infos)) ∙ sym c.check.ensures.exact ∙ c.in_ok-info.was

pub add-requires-clause-counted : goal.add-requires-clause-counted
add-requires-clause-counted g c = filter_counted (act_of c.args.op) _ 1 c.requires.filter
