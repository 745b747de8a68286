use Rattle.std.proofs.Common.{rules, ◌≡◌, ◌∙◌, sym, arith, true, false}
use Rattle.std.specs.Prelude.{◌==◌, ◌*◌}
use Rattle.fv_plane.specs.Format.{scale}
use Rattle.fv_plane.specs.Picture.{row_of}
use Rattle.fv_plane.proofs.CallerLemmas.{bytes_of_narrow}
use Rattle.clip_term.specs.Refusals.{nat_of}
use Rattle.clip_term.specs.declared.op.SpaceOp.TheVariants.{Limiter}
use Rattle.flt_space.proofs.KeptLemmas.{first_of, second_of}
use Rattle.flt_space.proofs.RowLemmas.{made_row}
use Rattle.flt_turn.proofs.PartLemmas.{narrow_bytes}
use Rattle.flt_space.proofs.adjust.LimitRowsRowFilter.fill_row.Goals as goal

pub copy_limited-requires : goal.copy_limited-requires
copy_limited-requires c = omega (arith, c.row-row.ensures.whole, narrow_bytes c.args.input.now.shape c.args.plane c.requires.narrow, c.requires.whole)

pub copy_limited-requires-else-plane-eq0 : goal.copy_limited-requires-else-plane-eq0
copy_limited-requires-else-plane-eq0 c = omega (arith, c.row-row.ensures.whole, narrow_bytes c.args.input.now.shape c.args.plane c.requires.narrow, c.requires.whole)

pub returns-then-plane-eq0 : goal.returns-then-plane-eq0
returns-then-plane-eq0 c =
    let bounds = c.args.self.now in
    let input = c.args.input.now in
    let luma : (c.args.plane == 0) ≡ true = search rules in
    let row : c.row-row.result.now ≡ row_of input.planes c.args.plane c.args.y = c.row-row.ensures.row ∙ bytes_of_narrow input.shape (row_of input.planes c.args.plane c.args.y) c.requires.narrow in
    let low : c.bound.result ≡ nat_of bounds.min_luma * scale input.shape = rw c.requires.narrow (let told : c.bound.result ≡ nat_of bounds.min_luma = search rules in omega (arith, told)) in
    let high : c.bound-then-plane-eq0.result ≡ nat_of bounds.max_luma * scale input.shape = rw c.requires.narrow (let told : c.bound-then-plane-eq0.result ≡ nat_of bounds.max_luma = search rules in omega (arith, told)) in
    made_row (Limiter bounds.min_luma bounds.max_luma bounds.min_chroma bounds.max_chroma) input c.args.plane c.args.y c.copy_limited.new.out (search rules)
    (λ x within. c.copy_limited.ensures x (search rules) ∙ rw (low, high, row) (sym (first_of (c.args.plane == 0) _ _ luma)))

pub returns-else-plane-eq0 : goal.returns-else-plane-eq0
returns-else-plane-eq0 c =
    let bounds = c.args.self.now in
    let input = c.args.input.now in
    let chroma : (c.args.plane == 0) ≡ false = search rules in
    let row : c.row-row.result.now ≡ row_of input.planes c.args.plane c.args.y = c.row-row.ensures.row ∙ bytes_of_narrow input.shape (row_of input.planes c.args.plane c.args.y) c.requires.narrow in
    let low : c.bound-else-plane-eq0.result ≡ nat_of bounds.min_chroma * scale input.shape = rw c.requires.narrow (let told : c.bound-else-plane-eq0.result ≡ nat_of bounds.min_chroma = search rules in omega (arith, told)) in
    let high : c.bound-else-plane-eq0-2.result ≡ nat_of bounds.max_chroma * scale input.shape = rw c.requires.narrow (let told : c.bound-else-plane-eq0-2.result ≡ nat_of bounds.max_chroma = search rules in omega (arith, told)) in
    made_row (Limiter bounds.min_luma bounds.max_luma bounds.min_chroma bounds.max_chroma) input c.args.plane c.args.y c.copy_limited-else-plane-eq0.new.out (search rules)
    (λ x within. c.copy_limited-else-plane-eq0.ensures x (search rules) ∙ rw (low, high, row) (sym (second_of (c.args.plane == 0) _ _ chroma)))
