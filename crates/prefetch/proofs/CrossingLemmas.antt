-- A core and a graph may go to another thread. The kit states this of no type over a recursive one, as an expression
-- of a run-time choice is.
use Rattle.std.specs.contracts.sync.Arc as arc
use Rattle.std.specs.contracts.alloc.Global as global
use Rattle.std.specs.contracts.impls.GlobalAllocator.TheImpl as global_impl
use denote.Builtin as builtin
use denote.Ref.{NamedLft}
use denote.Struct.Field.{shr_ref_field}
use denote.Struct.Tuple.{TupleAt, type_at}
use Rattle.std.proofs.Common.{ℕ, List, ◌∷◌, []}
use denote.Struct.Declared as S
use denote.Param.Send.{IsSend, IsSync, shr_send, sendable, recorded_send, view_send, struct_send, recorded_sync, struct_sync}
use Rattle.std.proofs.Crossing.{crosses}
use Rattle.clip_graph.specs.contracts.graph.Graph as graph
use Rattle.clip_graph.specs.contracts.node.Node as node
use Rattle.clip_term.proofs.run.RunExpr.TheLaws.TheKnot as knot
use Rattle.clip_term.proofs.op.TimeOp.TheSendSync as time
use Rattle.clip_term.proofs.op.SpaceOp.TheSendSync as space
use Rattle.clip_term.proofs.op.JoinOp.TheSendSync as joined
use Rattle.clip_term.proofs.op.SoftOp.TheSendSync as soft
use Rattle.clip_term.proofs.field.FieldOp.TheSendSync as fields
use Rattle.fv_plane.proofs.format.Info.TheSendSync as info
use Rattle.fv_plane.proofs.format.Colour.TheSendSync as colour
use denote.RattleType.{RattleType}
use Rattle.serve_core.specs.contracts.state.Core as core
use Rattle.serve_core.specs.contracts.state.Core.TheInside as inside
use Rattle.inst_table.specs.contracts.table.InstTable as tbl
use Rattle.inst_table.specs.declared.held.Held as H
use Rattle.frame_cache.proofs.cache.FrameCache.TheSendSync as cache
use Rattle.inst_table.proofs.table.InstTable.TheSendSync as table
use Rattle.fv_plane.proofs.frame.Frame.TheSendSync as frame
use Rattle.fv_spares.proofs.spares.Spares.TheSendSync as spares
use Rattle.serve_machine.proofs.event.Event.TheSendSync as event
use Rattle.serve_machine.proofs.event.WindowStop.TheSendSync as stop
use Rattle.fv_plane.proofs.key.Key.TheSendSync as key

ruleset expressions = (knot.send-RunExpr, knot.sync-RunExpr, knot.both_send-RunExpr, knot.both_sync-RunExpr)

ruleset sends = (sendable, crosses, expressions, time.the_field_send, space.the_field_send, joined.the_field_send, soft.the_field_send, fields.the_field_send, info.the_field_send, colour.the_field_send)

ruleset syncs = (sendable, crosses, expressions, time.the_field_sync, space.the_field_sync, joined.the_field_sync, soft.the_field_sync, fields.the_field_sync, info.the_field_sync, colour.the_field_sync)

node_send : IsSend node.the_row
node_send = search sends depth 60 fits 100000

node_sync : IsSync node.the_row
node_sync = recorded_sync _ _ _ (node.the_type).to_one (struct_sync (S.shape node.the_type) (search syncs depth 60 fits 100000, (search syncs depth 60 fits 100000, (search syncs depth 60 fits 100000, (search syncs depth 60 fits 100000, (search syncs depth 60 fits 100000, tt))))))

pub graph_send : IsSend graph.the_row
graph_send = search (sends, node_send) depth 90 fits 900000

pub graph_sync : IsSync graph.the_row
graph_sync = search (sendable, crosses, node_sync) depth 90 fits 100000

table_send : (I : RattleType) → IsSend I → IsSend (tbl.the_row I)
table_send I s = search (sendable, crosses, table.the_send, s) depth 80 fits 100000

ruleset core_parts = (sendable, crosses, graph_send, graph_sync, cache.the_send, frame.the_send, spares.the_send, event.the_field_send, stop.the_field_send, key.the_field_send)

inside_send : (I : RattleType) (d : H.Ghosts I.Denot) → IsSend I → IsSend (inside.the_row I d)
inside_send I d s = recorded_send _ _ _ (inside.the_type I d).to_one (struct_send (S.shape (inside.the_type I d)) (search core_parts depth 60 fits 20000, (search core_parts depth 60 fits 20000, (search core_parts depth 60 fits 20000, (search core_parts depth 60 fits 20000, (search core_parts depth 60 fits 20000, (search core_parts depth 60 fits 20000, (search core_parts depth 60 fits 20000, (search core_parts depth 60 fits 20000, (search core_parts depth 60 fits 20000, (search (sendable, crosses, table_send, s) depth 60 fits 20000, (search core_parts depth 60 fits 20000, (search core_parts depth 60 fits 20000, (search core_parts depth 60 fits 20000, (search core_parts depth 60 fits 20000, (search core_parts depth 60 fits 20000, (search core_parts depth 60 fits 20000, (search core_parts depth 60 fits 20000, tt))))))))))))))))))

pub core_send : (I : RattleType) (d : H.Ghosts I.Denot) → IsSend I → IsSend (core.the_row I d)
core_send I d s = view_send (inside.the_row I d) _ _ _ _ (inside_send I d s)

pub tuple_send : (ν : List ℕ) (A B C D E F : RattleType) → IsSend A → IsSend B → IsSend C → IsSend D → IsSend E → IsSend F → IsSend (TupleAt ν (A ∷ B ∷ C ∷ D ∷ E ∷ F ∷ []))
tuple_send ν A B C D E F a b c d e f = recorded_send _ _ _ (type_at ν (A ∷ B ∷ C ∷ D ∷ E ∷ F ∷ [])).to_one (struct_send (S.shape (type_at ν (A ∷ B ∷ C ∷ D ∷ E ∷ F ∷ []))) (a, (b, (c, (d, (e, (f, tt)))))))

pub lent_send : (ℓ : NamedLft) (T : RattleType) (one : builtin.One T.mir) → IsSync T → IsSend (shr_ref_field ℓ T one).row
lent_send ℓ T one s = shr_send ℓ.mir ℓ.lft T s

pub global_send : IsSend global.the_row
global_send = search (sendable, crosses)

pub shared_graph_send : IsSend (arc.the_row graph.the_row global.the_row global_impl.ghosts)
shared_graph_send = search (sendable, crosses, graph_send, graph_sync) depth 60 fits 100000
