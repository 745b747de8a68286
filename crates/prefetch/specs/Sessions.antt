-- How the end of a session is told.
use Rattle.std.specs.Prelude.{◌≡◌, true, List, Option, Some, None, Result, Ok, Err}
use Rattle.fv_session.specs.declared.request.SessionFault.TheVariants as of_fault
use Rattle.clip_graph.specs.Plan.{Application}
use Rattle.serve_machine.specs.declared.event.WindowStop.{WindowStop}
use Rattle.serve_machine.specs.Events.{names_source}
use Rattle.prefetch.specs.declared.stops.RenderStop.TheVariants as of_render
use Rattle.serve_session.specs.declared.player.PlayStop.TheVariants as of_play
use Rattle.serve_session.specs.declared.serving.ServeStop.{ServeStop}
use Rattle.serve_session.specs.declared.serving.ServeStop.TheVariants.{Play, Session}
use Rattle.serve_text.specs.declared.stop.Stop.{Stop}
use Rattle.serve_text.specs.declared.stop.Stop.TheVariants as of_stop
use Rattle.prefetch.specs.declared.session.SessionStop.{SessionStop}
use Rattle.prefetch.specs.declared.session.SessionStop.TheVariants.{Stopped, ListFault}
use Rattle.prefetch.specs.Rendered.{ToldAs}

-- where a frame was not made there is the stop that cut its window short, and it names a source of the plan
abbrev pub StopNamed : List Application → Result (Unit {0}) ServeStop → Option WindowStop → Type 0
StopNamed plan (Err (Play of_play.Stopped)) None = ⊥
StopNamed plan (Err (Play of_play.Stopped)) (Some why) = names_source plan why ≡ true
StopNamed plan _ stop = Unit {0}

-- it is told as a session's stop
abbrev pub IsToldAs : List Application → ServeStop → Option WindowStop → SessionStop → Type 0
IsToldAs plan (Session of_fault.Read) stop told = told ≡ Stopped of_stop.Read
IsToldAs plan (Session fault) stop told = told ≡ ListFault fault
IsToldAs plan (Play of_play.Write) stop told = told ≡ Stopped of_stop.Write
IsToldAs plan (Play of_play.Memory) stop told = told ≡ Stopped of_stop.Memory
IsToldAs plan (Play of_play.Stopped) None told = ⊥
IsToldAs plan (Play of_play.Stopped) (Some why) told =
    (one : Stop) × (told ≡ Stopped one) × ToldAs plan (of_render.Stopped why) one

abbrev pub IsToldSession : List Application → Result (Unit {0}) ServeStop → Option WindowStop
    → Result (Unit {0}) SessionStop → Type 0
IsToldSession plan (Ok u) stop (Ok v) = Unit {0}
IsToldSession plan (Ok u) stop (Err told) = ⊥
IsToldSession plan (Err why) stop (Ok v) = ⊥
IsToldSession plan (Err why) stop (Err told) = IsToldAs plan why stop told
