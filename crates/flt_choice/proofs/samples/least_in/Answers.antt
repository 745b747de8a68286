use Rattle.std.proofs.Common.{sym, ap, ◌∙◌}
use Rattle.std.specs.Prelude.{min}
use Rattle.std.specs.List.{fold}
use Rattle.fv_plane.proofs.CallerLemmas.{narrow_of_bytes, wide_of_bytes}
use Rattle.flt_choice.proofs.SampleLemmas.{not_eight}
use Rattle.flt_choice.proofs.samples.least_in.Goals as goal

pub returns-then-shape-eq8-clause-least : goal.returns-then-shape-eq8-clause-least
returns-then-shape-eq8-clause-least c = c.least_byte.ensures ∙ ap (fold min c.args.start) (sym (narrow_of_bytes c.args.shape c.args.bytes.now c.if-shape-eq8.true))

pub returns-clause-least : goal.returns-clause-least
returns-clause-least c = c.least_wide.ensures ∙ ap (fold min c.args.start) (sym (wide_of_bytes c.args.shape c.args.bytes.now (not_eight c.args.shape c.if-shape-eq8.false)))
