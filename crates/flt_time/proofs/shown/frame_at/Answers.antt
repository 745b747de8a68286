use Rattle.flt_time.proofs.ShownLemmas.{duplicated_shown, kept_shown}
use Rattle.flt_time.proofs.shown.frame_at.Goals as goal

pub duplicated_number-requires : goal.duplicated_number-requires
duplicated_number-requires c =
    let shown = rw c.in-DuplicateFrame.is at c.requires.shown in
    let few = duplicated_shown c.in-DuplicateFrame.frames c.args.infos.now c.args.n shown in
    record { shown = rw (c.as_slice-in-DuplicateFrame.ensures, c.requires.first) few }

pub kept_number-requires : goal.kept_number-requires
kept_number-requires c =
    let shown = rw c.in-DeleteFrame.is at c.requires.shown in
    let few = kept_shown c.in-DeleteFrame.frames c.args.infos.now c.args.n shown in
    record { shown = rw (c.as_slice-in-DeleteFrame.ensures, c.requires.first) few }
