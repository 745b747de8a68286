-- A core with one worker, between two of its events.
use Rattle.std.specs.Prelude.{◌≡◌, ℕ, ◌<◌, ◌≤◌, List, [], ◌∷◌, ◌++◌, Option, None}
use Rattle.std.specs.Map.{keys_of}
use Rattle.fv_plane.specs.declared.format.Info.{Info}
use Rattle.fv_plane.specs.declared.key.Key.{Key}
use Rattle.clip_graph.specs.Plan.{Application, IsPlan}
use Rattle.serve_machine.specs.declared.event.Event.{Event}
use Rattle.serve_machine.specs.SerialRun.{Serial}
use Rattle.serve_core.specs.CoreValue.{CoreValue}
use Rattle.serve_core.specs.Tables.{AllFree, held_in}

-- worker 0 is the only one, in a window that was not stopped
pub record Alone {I : Type 0} (plan : List Application) (c : CoreValue I) : Type 0 where
  pub plan_is : c.fixed.plan ≡ plan
  pub is_plan : IsPlan plan
  pub worker : 0 < c.fixed.workers
  pub window : 0 < c.fixed.count
  pub running : c.stop ≡ None
  pub free : AllFree c.table

-- all claims are on nodes from a number on
abbrev pub AllFrom : ℕ → List (Key × ℕ) → Type 0
AllFrom n [] = Unit {0}
AllFrom n (c ∷ cs) = (n ≤ (c.0).node) × AllFrom n cs

-- but for the cache and the instances, the journal alone went on
pub record Went {I : Type 0} (holds : I → Option Info) (c d : CoreValue I) (events : List Event) : Type 0 where
  pub journal : d.journal ≡ c.journal ++ events
  pub claims : d.claims ≡ c.claims
  pub fixed : d.fixed ≡ c.fixed
  pub outputs : d.outputs ≡ c.outputs
  pub failed : d.failed ≡ c.failed
  pub stop : d.stop ≡ c.stop
  pub free : AllFree d.table
  pub held : held_in holds d.table ≡ held_in holds c.table

-- it went on by a stretch of the serial run
pub record Ran {I : Type 0} (holds : I → Option Info) (c d : CoreValue I) (serial : Serial) : Type 0 where
  pub went : Went holds c d serial.events
  pub keys : keys_of d.cache ≡ serial.keys
