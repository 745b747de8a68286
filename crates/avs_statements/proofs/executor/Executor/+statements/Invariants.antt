-- What is left gives what the whole gives, and the state has kept what it keeps.
use Rattle.std.proofs.Common.{◌≡◌, ◌+◌, ◌-◌, ◌≤◌, map, drop, IsTrue}
use Rattle.avs_tree.specs.Sizes.{ArmsAreShort, AreShort, arms_size}
use Rattle.avs_tree.specs.View.{expr_view, arm_view, statement_view, block_of, block_view, arms_of}
use Rattle.avs_meaning.specs.Statements as m
use Rattle.avs_state.specs.States.{state_of}
use Rattle.avs_state.specs.Steps.{work}
use Rattle.avs_state.specs.Units.{steps_a_unit}
use Rattle.avs_statements.specs.Turns as r
use Rattle.avs_state.proofs.Kept.{Kept}
use Rattle.avs_statements.proofs.executor.Executor.+statements.Given as goal

abbrev pub invariant-arms_of-loop-arm : goal.invariant-arms_of-loop-arm
invariant-arms_of-loop-arm g l =
    let arms = m.arms_of (g.E.Evaluator.context l.self.evaluator.now) (g.E.Evaluator.here l.self.evaluator.now) in
    record {
      told : IsTrue g.H.Host.told → arms (arms_of (map arm_view (drop l.arm-index l.arms))) l.line (state_of l.state)
          ≡ arms (arms_of (map arm_view l.arms)) l.line (state_of l.fn.state);
      kept : Kept g.H.Host l.fn.state l.fn.host l.state l.host;
      short : ArmsAreShort steps_a_unit (arms_of (map arm_view (drop l.arm-index l.arms)));
      works : work l.state + arms_size (arms_of (map arm_view (drop l.arm-index l.arms))) ≤ work l.fn.state + arms_size (arms_of (map arm_view l.arms));
    }

abbrev pub invariant-turns-loop-turn : goal.invariant-turns-loop-turn
invariant-turns-loop-turn g l =
    let test = m.condition (g.E.Evaluator.context l.self.evaluator.now) (g.E.Evaluator.here l.self.evaluator.now) (expr_view l.test) l.line in
    let body = m.block_of (g.E.Evaluator.context l.self.evaluator.now) (g.E.Evaluator.here l.self.evaluator.now) (block_view l.body) in
    record {
      told : IsTrue g.H.Host.told → m.turns (g.E.Evaluator.here l.self.evaluator.now) (l.most - l._turn) test l.line body (state_of l.state)
          ≡ r.loop_of (g.E.Evaluator.context l.self.evaluator.now) (g.E.Evaluator.here l.self.evaluator.now) (expr_view l.test) l.line (block_view l.body) (state_of l.fn.state);
      kept : Kept g.H.Host l.fn.state l.fn.host l.state l.host;
      works : work l.state ≤ work l.fn.state;
    }

abbrev pub invariant-counts-loop-turn : goal.invariant-counts-loop-turn
invariant-counts-loop-turn g l =
    let body = m.block_of (g.E.Evaluator.context l.self.evaluator.now) (g.E.Evaluator.here l.self.evaluator.now) (block_view l.body) in
    record {
      told : IsTrue g.H.Host.told
          → m.counts (g.E.Evaluator.here l.self.evaluator.now) (l.most - l._turn) l.name l.counter.at l.counter.last l.counter.step l.line body (state_of l.state)
          ≡ r.count_of (g.E.Evaluator.context l.self.evaluator.now) (g.E.Evaluator.here l.self.evaluator.now) l.name l.fn.first.at l.fn.first.last l.fn.first.step l.line (block_view l.body) (state_of l.fn.state);
      kept : Kept g.H.Host l.fn.state l.fn.host l.state l.host;
      works : work l.state ≤ work l.fn.state;
    }

abbrev pub invariant-block_of-loop-statement : goal.invariant-block_of-loop-statement
invariant-block_of-loop-statement g l =
    let block = m.block_of (g.E.Evaluator.context l.self.evaluator.now) (g.E.Evaluator.here l.self.evaluator.now) in
    record {
      told : IsTrue g.H.Host.told → block (block_of (map statement_view (drop l.statement-index l.body))) (state_of l.state)
          ≡ block (block_view l.body) (state_of l.fn.state);
      kept : Kept g.H.Host l.fn.state l.fn.host l.state l.host;
      short : AreShort steps_a_unit (block_of (map statement_view (drop l.statement-index l.body)));
      works : work l.state ≤ work l.fn.state;
    }
