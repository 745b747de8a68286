use Rattle.std.proofs.Common.{arith}
use Rattle.flt_time.proofs.ShownLemmas.{shown_is_asked}
use Rattle.flt_time.proofs.shown.source_number.Goals as goal

pub info_at-requires-2 : goal.info_at-requires-2
info_at-requires-2 c =
    let a = c.args in
    let shown = c.frame_at-input in
    (shown_is_asked a.op.now c.info_at.result.now a.infos.now a.n shown.result.0 shown.result.1 c.requires.sound c.requires.lawful c.info_at.ensures shown.ensures).input

pub overflow_sub-last : goal.overflow_sub-last
overflow_sub-last c =
    let a = c.args in
    let shown = c.frame_at-input in
    let is = shown_is_asked a.op.now c.info_at.result.now a.infos.now a.n shown.result.0 shown.result.1 c.requires.sound c.requires.lawful c.info_at.ensures shown.ensures in
    let number = is.number in
    rw c.info_at-2.ensures (omega arith)

pub returns-clause-asked : goal.returns-clause-asked
returns-clause-asked c =
    let a = c.args in
    let shown = c.frame_at-input in
    let is = shown_is_asked a.op.now c.info_at.result.now a.infos.now a.n shown.result.0 shown.result.1 c.requires.sound c.requires.lawful c.info_at.ensures shown.ensures in
    rw (c.min.ensures, c.info_at-2.ensures) is
