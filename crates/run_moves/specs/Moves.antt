-- A worker that is somewhere in its work: what it holds.
use Rattle.std.specs.Prelude.{◌≡◌, ℕ, ◌<◌, ◌≤◌, List, [], ◌∷◌, ◌++◌, length, Some}
use Rattle.fv_plane.specs.declared.key.Key.{Key}
use Rattle.clip_graph.specs.Plan.{Application, application_at, IsPlan}
use Rattle.inst_table.specs.declared.place.Place.{Place}
use Rattle.serve_machine.specs.declared.event.Event.{Event}
use Rattle.serve_machine.specs.declared.event.Event.TheVariants.{Take}
use Rattle.serve_machine.specs.Events.{frame_key, own_events}
use Rattle.serve_machine.specs.Work.{Production, Deliveries, CutDeliveries}
use Rattle.serve_machine.specs.Holdings.{claims_of, leases_of, outputs_of}
use Rattle.serve_machine.specs.Law.{start_of}
use Rattle.serve_machine.specs.Machine.{Machine, replay, State}

-- a worker's own events between two turns of its work
pub data InWork (plan : List Application) (root w : ℕ) : List Event → Type 0 where
  -- its work may be cut short here
  midway : {done closing : List Event} → CutDeliveries plan root w done closing → InWork plan root w done
  -- it has made the output that it took, and has not delivered it
  ready : {ns : List ℕ} {es fs : List Event} {n : ℕ} → Deliveries plan root w ns es
      → Production plan w (frame_key root n) fs → InWork plan root w (es ++ Take w n ∷ fs)

-- the node of the newest of these claims, which is the last, or this number where there is none
abbrev pub newest_node : ℕ → List Key → ℕ
newest_node i [] = i
newest_node i (k ∷ ks) = newest_node k.node ks

module _ {F : Type 0} (m : Machine F) where
  -- at most one claim for each filter on the way to a source, one instance, and one output
  pub record HoldsLittle (s : State F) (w : ℕ) : Type 0 where
    pub claims : length (claims_of w s.claims) ≤ (application_at m.fixed.plan m.fixed.root).depth
    pub leases : length (leases_of w s.places) ≤ 1
    pub outputs : length (outputs_of w m.fixed.first s.taken s.frames) ≤ 1

-- in every run a worker that is somewhere in its work holds little
abbrev pub WorkersHoldLittle : Type 0 → Type 0
WorkersHoldLittle F = (m : Machine F) (cache : List (Key × F)) (places : List Place) (events : List Event) (s : State F)
    (w : ℕ) → IsPlan m.fixed.plan → m.fixed.root < length m.fixed.plan
    → replay m (start_of m cache places) events ≡ Some s
    → InWork m.fixed.plan m.fixed.root w (own_events w events) → HoldsLittle m s w
