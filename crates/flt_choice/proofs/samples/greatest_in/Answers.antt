use Rattle.std.proofs.Common.{sym, ap, ◌∙◌}
use Rattle.std.specs.Prelude.{max}
use Rattle.std.specs.List.{fold}
use Rattle.fv_plane.proofs.CallerLemmas.{narrow_of_bytes, wide_of_bytes}
use Rattle.flt_choice.proofs.SampleLemmas.{not_eight}
use Rattle.flt_choice.proofs.samples.greatest_in.Goals as goal

pub returns-then-shape-eq8-clause-greatest : goal.returns-then-shape-eq8-clause-greatest
returns-then-shape-eq8-clause-greatest c = c.greatest_byte.ensures ∙ ap (fold max c.args.start) (sym (narrow_of_bytes c.args.shape c.args.bytes.now c.if-shape-eq8.true))

pub returns-clause-greatest : goal.returns-clause-greatest
returns-clause-greatest c = c.greatest_wide.ensures ∙ ap (fold max c.args.start) (sym (wide_of_bytes c.args.shape c.args.bytes.now (not_eight c.args.shape c.if-shape-eq8.false)))
