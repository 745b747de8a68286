use Rattle.std.proofs.Common.{◌∙◌, sym, arith, ne_eqb}
use Rattle.std.proofs.lemmas.Grind.{common_steps}
use Rattle.fv_plane.proofs.CallerLemmas.{bytes_of_narrow, bytes_of_wide}
use Rattle.clip_reference.proofs.make.write_row.Goals as goal

pub narrow_samples-requires-clause-whole : goal.narrow_samples-requires-clause-whole
narrow_samples-requires-clause-whole c = grind (arith, common_steps)

pub narrow_samples-requires-clause-fits : goal.narrow_samples-requires-clause-fits
narrow_samples-requires-clause-fits c = grind (arith, common_steps)

pub write_samples-requires : goal.write_samples-requires
write_samples-requires c = grind (arith, common_steps)

pub returns-then-shape-eq8 : goal.returns-then-shape-eq8
returns-then-shape-eq8 c = c.narrow_samples.ensures ∙ sym (bytes_of_narrow c.args.shape c.args.samples.now c.if-shape-eq8.true)

pub returns-else-shape-eq8 : goal.returns-else-shape-eq8
returns-else-shape-eq8 c = search (arith, ne_eqb, bytes_of_wide)
