-- What the code answers, where a definition gives a tree or none.
use Rattle.std.specs.Prelude.{◌≡◌, List, map, Option, Some, None, Result, Ok, Err, Vec, Box}
use Rattle.std.specs.declared.alloc.Global.{Global}
use Rattle.clip_term.specs.declared.run.RunExpr.{RunExpr}
use Rattle.clip_term.specs.declared.run.RunStep.{RunStep}
use Rattle.clip_term.specs.Expression.{Expr, current_frame, of_plane, StepIs, expr_view, step_view}
use Rattle.avs_runtime.specs.declared.names.FrameName.{FrameName}
use Rattle.avs_runtime.specs.declared.names.FrameName.TheVariants as n
use Rattle.avs_runtime.specs.declared.fault.RunFault.{RunFault}
use Rattle.avs_runtime.specs.declared.fault.RunFault.TheVariants.{BadExpression, Memory}

abbrev pub frame_meaning : FrameName → Expr
frame_meaning n.Number = current_frame
frame_meaning (n.Plane p stat) = of_plane p stat

-- the fault comes exactly where there is no tree; out of memory says nothing
abbrev pub Faults : {A : Type 0} → Option A → RunFault → Type 0
Faults found BadExpression = found ≡ None
Faults found Memory = Unit {0}

abbrev pub Reads : Option Expr → Result RunExpr RunFault → Type 0
Reads found (Ok made) = found ≡ Some (expr_view made)
Reads found (Err fault) = Faults found fault

abbrev pub ReadsBox : Option Expr → Result (Box RunExpr Global) RunFault → Type 0
ReadsBox found (Ok made) = found ≡ Some (expr_view made.value)
ReadsBox found (Err fault) = Faults found fault

abbrev pub ReadsAll : Option (List Expr) → Result (Vec RunExpr Global) RunFault → Type 0
ReadsAll found (Ok made) = found ≡ Some (map expr_view made.items)
ReadsAll found (Err fault) = Faults found fault

abbrev pub ReadsSteps : Option (List StepIs) → Result (Vec RunStep Global) RunFault → Type 0
ReadsSteps found (Ok made) = found ≡ Some (map step_view made.items)
ReadsSteps found (Err fault) = Faults found fault
