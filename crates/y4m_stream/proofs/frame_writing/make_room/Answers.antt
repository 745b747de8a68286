-- All waits, or all was put.
use Rattle.std.proofs.Common.{take}
use Rattle.y4m_stream.proofs.WaitingLemmas.{all_waits, none_waits}
use Rattle.y4m_stream.proofs.frame_writing.make_room.Goals as goal

pub returns-then-size-buf-clause-put : goal.returns-then-size-buf-clause-put
returns-then-size-buf-clause-put g c = all_waits g.K.Sink c.args.out.now (take c.args.end c.args.buf.now)

pub returns-clause-put : goal.returns-clause-put
returns-clause-put g c = none_waits g.K.Sink c.args.out.now c.put.new.self (take c.args.end c.args.buf.now) c.in_ok-put.ensures.put
