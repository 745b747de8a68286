use Rattle.std.proofs.Common.{◌≡◌, ℕ, ◌+◌, ◌&&◌, List, Some, None, sym, ap, ◌∙◌, drop, arith, rules}
use Rattle.std.specs.Prelude.{is_some, slice_get}
use Rattle.std.proofs.lemmas.Option.{slice_get_within}
use Rattle.clip_graph.specs.Plan.{Application, input_keys}
use Rattle.serve_machine.specs.Machine.{gathered}
use Rattle.run_check.proofs.EnterLemmas.{got_input, none_left}
use Rattle.run_check.proofs.tracker.Tracker.has_got_inputs.Goals as goal

pub returns-then-not-has_got : goal.returns-then-not-has_got
returns-then-not-has_got c = λ m s is h.
    let keys = input_keys m.fixed.plan c.args.key in
    let at : slice_get keys c.loop-input.i ≡ Some c.in-Some.input = ap (λ (p : List Application). slice_get (input_keys p c.args.key) c.loop-input.i) (sym is) ∙ sym c.in-Some.ensures in
    ap (λ b. b && is_some (gathered c.args.worker (drop (c.loop-input.i + 1) keys) s.got)) (c.if-not-has_got.ensures m s h)
    ∙ sym (got_input c.args.worker keys c.loop-input.i c.in-Some.input s.got at) ∙ c.loop-input.invariant.left m s is h

pub loop-input-preserved : goal.loop-input-preserved
loop-input-preserved c = record {
  few = (let inside = slice_get_within (input_keys c.args.graph.now c.args.key) c.loop-input.i c.in-Some.input (sym c.in-Some.ensures) in
      let next : c.in-Some-checked_add.next ≡ c.loop-input.i + 1 = search rules in omega (arith, next, inside));
  left = λ m s is h.
      let keys = input_keys m.fixed.plan c.args.key in
      let next : c.in-Some-checked_add.next ≡ c.loop-input.i + 1 = search rules in
      let at : slice_get keys c.loop-input.i ≡ Some c.in-Some.input = ap (λ (p : List Application). slice_get (input_keys p c.args.key) c.loop-input.i) (sym is) ∙ sym c.in-Some.ensures in
      ap (λ (n : ℕ). is_some (gathered c.args.worker (drop n keys) s.got)) next
      ∙ (ap (λ b. b && is_some (gathered c.args.worker (drop (c.loop-input.i + 1) keys) s.got)) (c.if-not-has_got.ensures m s h)
      ∙ sym (got_input c.args.worker keys c.loop-input.i c.in-Some.input s.got at)) ∙ c.loop-input.invariant.left m s is h;
}

pub loop-input-smaller : goal.loop-input-smaller
loop-input-smaller c =
    let inside = slice_get_within (input_keys c.args.graph.now c.args.key) c.loop-input.i c.in-Some.input (sym c.in-Some.ensures) in
    let next : c.in-Some-checked_add.next ≡ c.loop-input.i + 1 = search rules in
    omega (arith, next, inside)

pub returns : goal.returns
returns c = λ m s is h.
    let none : slice_get (input_keys m.fixed.plan c.args.key) c.loop-input.i ≡ None = ap (λ (p : List Application). slice_get (input_keys p c.args.key) c.loop-input.i) (sym is) ∙ sym c.in_default.ensures in
    sym (none_left c.args.worker (input_keys m.fixed.plan c.args.key) c.loop-input.i s.got none) ∙ c.loop-input.invariant.left m s is h
