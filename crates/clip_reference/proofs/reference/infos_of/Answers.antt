use Rattle.std.proofs.Common.{arith}
use Rattle.clip_reference.proofs.InfoLemmas.{told, joined, joined_more, none_refused, all_joined}
use Rattle.clip_reference.proofs.reference.infos_of.Goals as goal

pub unreachable-requires : goal.unreachable-requires
unreachable-requires c = search (arith, none_refused)

pub loop-term-preserved : goal.loop-term-preserved
loop-term-preserved c = search (arith, joined, told, joined_more)

pub returns : goal.returns
returns c = all_joined c.args.terms.now c.loop-term.infos.items c.loop-term.term-index c.loop-term-test.false c.loop-term.invariant
