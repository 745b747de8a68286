-- ApplyRange, and what it calls.
use Rattle.std.proofs.Common.{rules, ◌≡◌, ◌+◌, ◌≤◌, length, Some, arith}
use Rattle.avs_values.specs.Views.{bound_view}
use Rattle.avs_meaning.specs.Expressions.{builtin, takes, fit_or_last}
use Rattle.avs_meaning.specs.declared.builtin.Builtin.TheVariants as b
use Rattle.avs_state.specs.States.{state_of}
use Rattle.avs_state.specs.Stops.{named}
use Rattle.avs_expressions.specs.Views.{callee_view}
use Rattle.avs_eval.proofs.CallLemmas.{few_further, range_applies, range_fails, range_refused, range_shows}
use Rattle.avs_eval.specs.OutsideBy.{context_in}
use Rattle.avs_eval.specs.Ranges.{given_view}
use Rattle.avs_eval.proofs.walker.Walker.+calls.Goals as goal

pub call_builtin-apply_range-requires : goal.call_builtin-apply_range-requires
call_builtin-apply_range-requires g t c κs within =
    let same : builtin c.args.builtin ≡ builtin b.ApplyRange = search rules in
    let is : fit_or_last (takes (builtin c.args.builtin)) c.args.args.items c.args.last ≡ Some (c.in-Some.signature, bound_view c.in-Some.given) = search rules in
    let few : length c.in-Some.given.rest.items + 3 ≤ length c.args.args.items =
    few_further (builtin c.args.builtin) c.args.args.items c.args.last c.in-Some.signature (bound_view c.in-Some.given) same is in
    (omega (arith, few, c.decreases), (within.0, (within.1, c.requires.deeper)))

pub call_builtin-returns-in-ApplyRange-clause-told : goal.call_builtin-returns-in-ApplyRange-clause-told
call_builtin-returns-in-ApplyRange-clause-told g t c = λ told.
    let same : builtin c.args.builtin ≡ builtin b.ApplyRange = search rules in
    let is : fit_or_last (takes (builtin c.args.builtin)) c.args.args.items c.args.last ≡ Some (c.in-Some.signature, bound_view c.in-Some.given) = search rules in
    rw (range_applies (context_in g.H.Host c.args.self.now.depth) c.args.self.now.script_name.now c.args.line (builtin c.args.builtin) c.args.args.items c.args.last
    (state_of c.args.state.now) c.in-Some.signature (bound_view c.in-Some.given) same is)
    (c.apply_range.ensures.told told)

pub apply_range-returns-in-Err-clause-told : goal.apply_range-returns-in-Err-clause-told
apply_range-returns-in-Err-clause-told g t c = λ told.
    range_refused (context_in g.H.Host c.args.self.now.depth) c.args.self.now.script_name.now c.args.line c.args.given.now.values.items c.args.given.now.rest.items c.in-Err.kind
    (state_of c.args.state.now) (search rules)

pub apply_range-returns-in-Err-call-clause-told : goal.apply_range-returns-in-Err-call-clause-told
apply_range-returns-in-Err-call-clause-told g t c = λ told.
    range_fails (context_in g.H.Host c.args.self.now.depth) c.args.self.now.script_name.now c.args.line c.args.given.now.values.items c.args.given.now.rest.items
    (given_view c.in-Ok.range) (callee_view c.in_ok-callee.callee) c.in_ok-args.args.items (named c.args.self.now.script_name.now c.in-Err-call.stop) (state_of c.args.state.now) (search rules) (search rules)
    (rw c.deref-2.ensures.value at c.in_ok-args.ensures) (c.in-Err-call.ensures.told told)

pub apply_range-returns-clause-told : goal.apply_range-returns-clause-told
apply_range-returns-clause-told g t c = λ told.
    rw (range_shows (context_in g.H.Host c.args.self.now.depth) c.args.self.now.script_name.now c.args.line c.args.given.now.values.items c.args.given.now.rest.items
    (given_view c.in-Ok.range) (callee_view c.in_ok-callee.callee) c.in_ok-args.args.items c.in-Ok-call.shown (state_of c.args.state.now) (state_of c.call.new.state) (search rules) (search rules)
    (rw c.deref-2.ensures.value at c.in_ok-args.ensures) (c.in-Ok-call.ensures.told told))
    (search rules)
