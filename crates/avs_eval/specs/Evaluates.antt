-- What is answered of a script.
use Rattle.std.specs.Prelude.{◌≡◌, ◌<◌, ◌+◌, ◌-◌, ℕ, List, length, Result, Ok, Err}
use Rattle.fv_io.specs.Faults.{HasRisen}
use Rattle.clip_graph.specs.Plan.{IsPlan}
use Rattle.avs_meaning.specs.Faults.{script, input}
use Rattle.avs_values.specs.Values.{Text}
use Rattle.avs_meaning.specs.Meaning.{Meaning, clip, wrong, executed, start, step_limit, text_imports}
use Rattle.avs_meaning.specs.State.{Outcome, Outside}
use Rattle.avs_meaning.specs.declared.state.SourceClip.{SourceClip}
use Rattle.avs_meaning.specs.declared.stop.EvalError.{EvalError}
use Rattle.avs_meaning.specs.declared.stop.EvalError.TheVariants as s
use Rattle.avs_state.specs.declared.host.Host.{Ghosts}
use Rattle.avs_state.specs.Sources.{sources_of}
use Rattle.avs_eval.specs.OutsideBy.{outside_by}
use Rattle.avs_eval.specs.declared.evaluation.Opened.{Opened}

-- The plan, its clip and its workers, or the first fault. A failed read and out of memory say nothing of the meaning.
abbrev pub Evaluates : Meaning → Result Opened EvalError → Type 0
Evaluates meaning (Ok opened) = meaning ≡ clip opened.graph opened.root opened.prefetch
Evaluates meaning (Err (s.Fault kind name line)) = meaning ≡ wrong (script kind name line)
Evaluates meaning (Err (s.Input name why)) = meaning ≡ wrong (input name why)
Evaluates meaning (Err s.Read) = Unit {0}
Evaluates meaning (Err s.Memory) = Unit {0}

-- a clip of a plan, whose sources are those that were opened
pub record Opens (opened : Opened) (given : List SourceClip) : Type 0 where
  pub plan : IsPlan opened.graph
  pub root : opened.root < length opened.graph
  pub sources : sources_of opened.graph ≡ given

-- a failed read counts a fault and is answered, and nothing else counts one
abbrev pub CountsFaults : Result Opened EvalError → ℕ → ℕ → Type 0
CountsFaults (Err s.Read) before now = HasRisen before now
CountsFaults _ before now = now ≡ before

-- a file was fetched for each clip that is opened, and for each Import that reads a script
abbrev pub FetchesAll : {H : Type 0} → Ghosts H → List ℕ → List ℕ → H → H → Type 0
FetchesAll host name text old new = host.fetched new
    ≡ host.fetched old + (length (host.opened new) + text_imports (outside_by host.clips host.scripts) name text)

abbrev pub units_by : Outcome ℕ → ℕ
units_by (Ok ended) = step_limit - ended.1.units
units_by (Err fault) = 0

-- how many units a text pays, as the script of this name, where it has a clip
abbrev pub text_units : Outside → Text → Text → ℕ
text_units outside here text = units_by (executed outside here text start)
