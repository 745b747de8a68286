use Rattle.std.proofs.lemmas.Grind.{common_steps}
use Rattle.std.proofs.Common.{rules, ◌≡◌, ◌∙◌, ◌==◌, ◌*◌, sym, true, false, arith}
use Rattle.fv_plane.specs.Format.{scale}
use Rattle.clip_term.specs.Refusals.{nat_of}
use Rattle.clip_term.specs.declared.op.SpaceOp.TheVariants.{Limiter}
use Rattle.flt_space.proofs.KeptLemmas.{first_of, second_of}
use Rattle.flt_space.proofs.RowLemmas.{made_row}
use Rattle.flt_space.proofs.adjust.LimitRowsRowFilter.fill_samples.Goals as goal

pub returns-then-plane-eq0 : goal.returns-then-plane-eq0
returns-then-plane-eq0 c =
    let bounds = c.args.self.now in
    let input = c.args.input.now in
    let luma : (c.args.plane == 0) ≡ true = search rules in
    let low : c.scaled_bound-low.result ≡ nat_of bounds.min_luma * scale input.shape = search rules in
    let high : c.scaled_bound-high.result ≡ nat_of bounds.max_luma * scale input.shape = search rules in
    made_row (Limiter bounds.min_luma bounds.max_luma bounds.min_chroma bounds.max_chroma) input c.args.plane c.args.y c.copy_limited.new.out (search rules)
    (λ x within. c.copy_limited.ensures x (search rules) ∙ rw (low, high, c.wide_row-row.ensures.row) (sym (first_of (c.args.plane == 0) _ _ luma)))

pub returns-else-plane-eq0 : goal.returns-else-plane-eq0
returns-else-plane-eq0 c =
    let bounds = c.args.self.now in
    let input = c.args.input.now in
    let chroma : (c.args.plane == 0) ≡ false = search rules in
    let low : c.scaled_bound-low-else-plane-eq0.result ≡ nat_of bounds.min_chroma * scale input.shape = search rules in
    let high : c.scaled_bound-high-else-plane-eq0.result ≡ nat_of bounds.max_chroma * scale input.shape = search rules in
    made_row (Limiter bounds.min_luma bounds.max_luma bounds.min_chroma bounds.max_chroma) input c.args.plane c.args.y c.copy_limited-else-plane-eq0.new.out (search rules)
    (λ x within. c.copy_limited-else-plane-eq0.ensures x (search rules) ∙ rw (low, high, c.wide_row-row.ensures.row) (sym (second_of (c.args.plane == 0) _ _ chroma)))

pub scaled_bound-low-requires-else-plane-eq0-clause-value : goal.scaled_bound-low-requires-else-plane-eq0-clause-value
scaled_bound-low-requires-else-plane-eq0-clause-value c = grind (arith, common_steps)

pub scaled_bound-high-requires-else-plane-eq0-clause-value : goal.scaled_bound-high-requires-else-plane-eq0-clause-value
scaled_bound-high-requires-else-plane-eq0-clause-value c = grind (arith, common_steps)
