-- The report of a render: how often the frames of each node of a plan were made, found in the cache and dropped from it.
use Rattle.std.specs.Prelude.{ℕ, ◌+◌, ◌≤◌, ◌<◌, List, length, cond, slice_index_or, ◌==◌, Bool, false, ◌++◌, codes, ◌≡◌, ◌-◌, ◌⊎◌}
use Rattle.std.specs.List.{count_by, sum_by, flat_map, range_with_len}
use Rattle.std.specs.Fmt.{decimal}
use Rattle.serve_machine.specs.declared.event.Event.{Event}
use Rattle.serve_machine.specs.Events.{WindowEvents}
use Rattle.serve_text.specs.declared.counts.Counts.{Counts}
use Rattle.clip_term.specs.Filters.{name_of}
use Rattle.clip_graph.specs.Plan.{Application, application_at}
use Rattle.clip_term.specs.Terms.{filter_of}
use Rattle.serve_machine.specs.declared.event.Event.TheVariants.{Hit, Enter, Evict, Publish}
use Rattle.fv_io.specs.declared.sink.Sink.{Ghosts}
use Rattle.fv_io.specs.Sink.{Puts, PutsPrefix, IsLater, SinkFailed}

-- a frame of node i was made
abbrev pub makes : ℕ → Event → Bool
makes i (Publish worker key) = key.node == i
makes i _ = false

-- a frame of node i was cached when it was asked for
abbrev pub hits : ℕ → Event → Bool
hits i (Hit worker key) = key.node == i
hits i _ = false

-- a frame of node i went from the full cache
abbrev pub evicts : ℕ → Event → Bool
evicts i (Evict worker key) = key.node == i
evicts i _ = false

-- an instance of node i was taken
abbrev pub enters : ℕ → Event → Bool
enters i (Enter worker node instance) = node == i
enters i _ = false

-- the number of events of this kind, in all windows
abbrev pub number_of : (Event → Bool) → List WindowEvents → ℕ
number_of kind windows = sum_by (λ (window : WindowEvents). count_by kind window.events) windows

-- the number of a node, its filter, and the numbers of its events
abbrev pub node_line : ℕ → Application → ℕ → ℕ → ℕ → ℕ → List ℕ
node_line i node made hit evicted entered = decimal i ++ (codes " " ++ (name_of (filter_of node.act)
    ++ (codes " made " ++ (decimal made ++ (codes " hit " ++ (decimal hit
    ++ (codes " evicted " ++ (decimal evicted ++ (codes " entered " ++ (decimal entered ++ codes "\n"))))))))))

-- the line of node i
abbrev pub report_line : List Application → List WindowEvents → ℕ → List ℕ
report_line plan windows i = node_line i (application_at plan i) (number_of (makes i) windows)
    (number_of (hits i) windows) (number_of (evicts i) windows) (number_of (enters i) windows)

-- a line for each node
abbrev pub report : List Application → List WindowEvents → List ℕ
report plan windows = flat_map (report_line plan windows) (range_with_len 0 (length plan))

-- ---- The numbers of a node's events, counted.

abbrev pub none : Counts
none = record { made = 0; hit = 0; evicted = 0; entered = 0 }

-- one more event
abbrev pub with_event : ℕ → Event → Counts → Counts
with_event i event counts = record {
  made = counts.made + cond (makes i event) 1 0;
  hit = counts.hit + cond (hits i event) 1 0;
  evicted = counts.evicted + cond (evicts i event) 1 0;
  entered = counts.entered + cond (enters i event) 1 0;
}

-- the events of a window more
abbrev pub with_events : ℕ → List Event → Counts → Counts
with_events i events counts = record {
  made = counts.made + count_by (makes i) events;
  hit = counts.hit + count_by (hits i) events;
  evicted = counts.evicted + count_by (evicts i) events;
  entered = counts.entered + count_by (enters i) events;
}

-- the numbers of node i's events in all windows
abbrev pub counts_of : List WindowEvents → ℕ → Counts
counts_of windows i = record {
  made = number_of (makes i) windows;
  hit = number_of (hits i) windows;
  evicted = number_of (evicts i) windows;
  entered = number_of (enters i) windows;
}

pub record IsAtMost (most : ℕ) (counts : Counts) : Type 0 where
  pub made : counts.made ≤ most
  pub hit : counts.hit ≤ most
  pub evicted : counts.evicted ≤ most
  pub entered : counts.entered ≤ most

abbrev pub AreAtMost : ℕ → List Counts → Type 0
AreAtMost most table = (k : ℕ) → k < length table → IsAtMost most (slice_index_or table k none)

-- ---- Lines that were put.

-- the lines of the nodes from `first` to before `end`
abbrev pub lines_between : List Application → List WindowEvents → ℕ → ℕ → List ℕ
lines_between plan windows first end = flat_map (report_line plan windows) (range_with_len first (end - first))

-- all of this text was put but for its rest
pub record PutsUpTo {K : Type 0} (sink : Ghosts K) (old new : K) (text rest : List ℕ) : Type 0 where
  pub front : List ℕ
  pub text_is : text ≡ front ++ rest
  pub put : Puts sink old new front

-- ---- A report or a journal that is put on standard error.

module _ {E : Type 0} (lines : Ghosts E) (err said : E) (text : List ℕ) where
  -- a prefix of the text was put, and then the sink failed
  pub record CutsReport : Type 0 where
    pub cut : PutsPrefix lines err said text
    pub failed : SinkFailed lines err said

  -- the text was put, or cut short
  pub record Reports (status : ℕ) : Type 0 where
    pub ends : ((status ≡ 0) × Puts lines err said text) ⊎ ((status ≡ 5) × CutsReport)
    pub steady : status ≡ 0 → lines.faults said ≡ lines.faults err
    pub later : IsLater lines err said
