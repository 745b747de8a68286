-- What contracts see of a worker.
use Rattle.std.specs.Prelude.{ℕ, List}
use Rattle.clip_graph.specs.Plan.{Application}

-- its number, and the plan that it renders
pub record WorkerValue : Type 0 where
  pub number : ℕ
  pub plan : List Application
