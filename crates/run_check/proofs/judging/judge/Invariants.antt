use Rattle.std.proofs.Common.{◌≡◌, ℕ, ◌+◌, ◌≤◌, List, length}
use Rattle.clip_graph.specs.Plan.{Application}
use Rattle.run_text.specs.declared.line.Line.{Line}
use Rattle.run_text.specs.Progress.{Progress, unread}
use Rattle.run_text.proofs.JudgeLemmas.{Consumed}
use Rattle.run_check.specs.Stages.{StandsFor}
use Rattle.run_check.proofs.judging.judge.Given as goal

-- these lines were read
pub record Far (plan : List Application) (root capacity : ℕ) (Stands : Progress → Type 0) (text rest : List ℕ) (line : ℕ) : Type 0 where
  pub lines : List Line
  pub progress : Progress
  pub consumed : Consumed plan root capacity text rest lines progress
  pub stands : Stands progress
  pub line_is : line ≡ length lines + 1

abbrev pub invariant-loop-rest : goal.invariant-loop-rest
invariant-loop-rest l = record {
  few : l.line + length l.rest ≤ length l.text + 1;
  far : (capacity : ℕ) → StandsFor l.graph l.root capacity l.fn.tracker unread
      → Far l.graph l.root capacity (StandsFor l.graph l.root capacity l.tracker) l.text l.rest l.line;
}

abbrev pub decreases-loop-rest : goal.decreases-loop-rest
decreases-loop-rest l = length l.rest
