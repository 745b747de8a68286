-- A source of three frames at node 0, with one instance, and Trim(2, 0) of it at node 1.
use Rattle.std.specs.Prelude.{List, [], ◌∷◌, pos}
use Rattle.fv_plane.specs.declared.format.Info.{Info}
use Rattle.clip_graph.specs.Plan.{Application}
use Rattle.clip_term.specs.Refusals.{no_info}
use Rattle.clip_term.specs.Terms.{source, time}
use Rattle.clip_term.specs.declared.op.TimeOp.TheVariants.{Trim}
use Rattle.clip_term.specs.declared.op.TrimBound.TheVariants.{Last}
use Rattle.serve_machine.specs.declared.event.Event.{Event}
use Rattle.serve_machine.specs.declared.event.Event.TheVariants.{Claim, Enter, Leave, Evict, Publish, Abandon, Take, Deliver, Fail}
use Rattle.serve_machine.specs.declared.event.WindowStop.TheVariants.{Read}
use Rattle.serve_machine.specs.Events.{frame_key}

abbrev pub three_frames : Info
three_frames = record no_info { frames = 3 }

abbrev pub one_frame : Info
one_frame = record no_info { frames = 1 }

abbrev pub trimmed : List Application
trimmed =
    record { act = source [] 0 three_frames; inputs = []; info = three_frames; mode = 3; depth = 1 }
    ∷ record { act = time (Trim (pos 2) (Last (pos 0))); inputs = 0 ∷ []; info = one_frame; mode = 1; depth = 2 } ∷ []

-- with room for both frames
abbrev pub in_a_large_cache : List Event
in_a_large_cache =
    Take 0 0 ∷ Claim 0 (frame_key 1 0) ∷ Claim 0 (frame_key 0 2) ∷ Enter 0 0 0 ∷ Leave 0 0 0 ∷ Publish 0 (frame_key 0 2)
    ∷ Publish 0 (frame_key 1 0) ∷ Deliver 0 0 ∷ []

-- with room for one
abbrev pub in_a_cache_of_one : List Event
in_a_cache_of_one =
    Take 0 0 ∷ Claim 0 (frame_key 1 0) ∷ Claim 0 (frame_key 0 2) ∷ Enter 0 0 0 ∷ Leave 0 0 0 ∷ Publish 0 (frame_key 0 2)
    ∷ Evict 0 (frame_key 0 2) ∷ Publish 0 (frame_key 1 0) ∷ Deliver 0 0 ∷ []

-- two workers over the source alone: the read of worker 0 fails, while worker 1 waits for the instance
abbrev pub two_workers : List Event
two_workers =
    Take 0 0 ∷ Claim 0 (frame_key 0 0) ∷ Enter 0 0 0 ∷ Take 1 1 ∷ Claim 1 (frame_key 0 1) ∷ Leave 0 0 0
    ∷ Abandon 0 (frame_key 0 0) ∷ Fail 0 (Read 0) ∷ Abandon 1 (frame_key 0 1) ∷ []
