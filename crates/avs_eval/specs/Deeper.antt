-- What executes the statements of a text one call deeper, over any host.
use Rattle.std.specs.Prelude.{ℕ, ◌-◌, ◌<◌, List, Result}
use Rattle.std.specs.Borrow.{Bor, MutBor}
use Rattle.std.specs.Fn.{Shared}
use Rattle.std.specs.declared.alloc.Global.{Global}
use Rattle.avs_tree.specs.Sizes.{AreShort}
use Rattle.avs_tree.specs.View.{block_view}
use Rattle.avs_tree.specs.declared.tree.Statement.{Statement}
use Rattle.avs_values.specs.Values.{Text}
use Rattle.avs_values.specs.declared.value.Value.{Value}
use Rattle.avs_meaning.specs.Meaning.{below}
use Rattle.avs_meaning.specs.declared.stop.EvalError.{EvalError}
use Rattle.avs_state.specs.Hosts.{Told}
use Rattle.avs_state.specs.declared.host.Host as host
use Rattle.avs_state.specs.declared.run_state.RunState.{RunState}
use Rattle.avs_state.specs.Steps.{Works}
use Rattle.avs_state.specs.Units.{steps_a_unit}
use Rattle.avs_state.specs.Walks.{Keeps, stop_in}
use Rattle.avs_eval.specs.OutsideBy.{outside_by}

-- a call that executes the statements of a text one call deeper
abbrev pub Asked : Type 0 → Type 0
Asked H =
    Global × (MutBor RunState × (MutBor H × (ℕ × (Bor Text × (Bor (List Statement) × Unit {0})))))

abbrev pub Answered : Type 0 → Type 0
Answered H = Result Value EvalError × (MutBor RunState × (MutBor H × Unit {0}))

-- A function value that executes the statements of a text one call deeper, for each of which a unit pays.
pub record Deeper {H F : Type 0} (h : host.Ghosts H) (depth : ℕ) (g : Shared F (Asked H) (Answered H)) (f : F)
    : Type 0 where
  pub callable : 0 < depth → (alloc : Global) (s : MutBor RunState) (x : MutBor H)
      (here : Bor Text) (body : Bor (List Statement)) → AreShort steps_a_unit (block_view body.now)
      → g.pre f (alloc, (s, (x, (depth - 1, (here, (body, tt))))))
  pub runs : 0 < depth → (alloc : Global) (s s' : MutBor RunState) (x x' : MutBor H)
      (here : Bor Text) (body : Bor (List Statement)) (result : Result Value EvalError)
      → g.post f (alloc, (s, (x, (depth - 1, (here, (body, tt)))))) (result, (s', (x', tt)))
      → Told h.told (λ v. v) (below (outside_by h.clips h.scripts) depth here.now (block_view body.now)) s.now result
      s'.now
  pub keeps : 0 < depth → (alloc : Global) (s s' : MutBor RunState) (x x' : MutBor H)
      (here : Bor Text) (body : Bor (List Statement)) (result : Result Value EvalError)
      → g.post f (alloc, (s, (x, (depth - 1, (here, (body, tt)))))) (result, (s', (x', tt)))
      → Keeps h s.now x.now (stop_in result) s'.now x'.now
  pub works : 0 < depth → (alloc : Global) (s s' : MutBor RunState) (x x' : MutBor H)
      (here : Bor Text) (body : Bor (List Statement)) (result : Result Value EvalError)
      → g.post f (alloc, (s, (x, (depth - 1, (here, (body, tt)))))) (result, (s', (x', tt))) → Works 0 s.now s'.now
