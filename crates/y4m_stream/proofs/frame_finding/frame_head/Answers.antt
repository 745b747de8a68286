use Rattle.std.proofs.Common.{arith, sym, rules}
use Rattle.y4m_stream.proofs.WindowLemmas.{found_head, cut_head}
use Rattle.y4m_stream.proofs.frame_finding.frame_head.Goals as goal

pub returns-in-Some : goal.returns-in-Some
returns-in-Some c = found_head c.args.bytes.now c.in-Some.end (search rules) (sym c.in-Some.ensures.end)

pub returns-in-None-2 : goal.returns-in-None-2
returns-in-None-2 c = cut_head c.args.bytes.now (search rules) (sym c.in-None-2.ensures.end) (omega (arith, c.if-bytes-ge-MAX_HEAD.false))
