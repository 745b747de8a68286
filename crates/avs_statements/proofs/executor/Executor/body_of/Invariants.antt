-- What is left gives what the whole gives, and the state has kept what it keeps.
use Rattle.std.proofs.Common.{◌≡◌, ◌≤◌, map, drop, IsTrue}
use Rattle.avs_tree.specs.Sizes.{AreShort}
use Rattle.avs_tree.specs.View.{statement_view, block_of, block_view}
use Rattle.avs_values.specs.declared.value.Value.TheVariants.{Undefined}
use Rattle.avs_state.specs.States.{state_of}
use Rattle.avs_state.specs.Steps.{work}
use Rattle.avs_state.specs.Units.{steps_a_unit}
use Rattle.avs_meaning.specs.Statements as s
use Rattle.avs_state.proofs.Kept.{Kept}
use Rattle.avs_statements.proofs.executor.Executor.body_of.Given as goal

abbrev pub invariant-loop-statement : goal.invariant-loop-statement
invariant-loop-statement g l =
    let body = s.body_of (g.E.Evaluator.context l.self.evaluator.now) (g.E.Evaluator.here l.self.evaluator.now) in
    record {
      told : IsTrue g.H.Host.told → body (block_of (map statement_view (drop l.statement-index l.body))) l.last (state_of l.state)
          ≡ body (block_view l.body) Undefined (state_of l.fn.state);
      kept : Kept g.H.Host l.fn.state l.fn.host l.state l.host;
      short : AreShort steps_a_unit (block_of (map statement_view (drop l.statement-index l.body)));
      works : work l.state ≤ work l.fn.state;
    }
