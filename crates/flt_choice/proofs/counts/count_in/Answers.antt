use Rattle.std.proofs.Common.{List, ℕ, sym, subst, arith}
use Rattle.fv_plane.specs.Picture.{row_of_bytes}
use Rattle.fv_plane.proofs.CallerLemmas.{narrow_of_bytes, wide_of_bytes}
use Rattle.flt_choice.specs.Counts.{AddsCounts}
use Rattle.flt_choice.proofs.SampleLemmas.{not_eight}
use Rattle.flt_choice.proofs.counts.count_in.Goals as goal

pub count_wide-requires-clause-inside : goal.count_wide-requires-clause-inside
count_wide-requires-clause-inside c = search (arith, wide_of_bytes, not_eight)

pub returns-then-shape-eq8 : goal.returns-then-shape-eq8
returns-then-shape-eq8 c =
    let size = c.requires.tables.narrow c.if-shape-eq8.true in
    subst (λ (k : ℕ). AddsCounts k c.args.counts.now (row_of_bytes c.args.shape c.args.bytes.now) c.count_bytes.new.counts) (sym size)
    (subst (λ (l : List ℕ). AddsCounts 256 c.args.counts.now l c.count_bytes.new.counts) (sym (narrow_of_bytes c.args.shape c.args.bytes.now c.if-shape-eq8.true)) c.count_bytes.ensures)

pub returns-else-shape-eq8 : goal.returns-else-shape-eq8
returns-else-shape-eq8 c =
    subst (λ (l : List ℕ). AddsCounts c.args.size c.args.counts.now l c.count_wide.new.counts) (sym (wide_of_bytes c.args.shape c.args.bytes.now (not_eight c.args.shape c.if-shape-eq8.false))) c.count_wide.ensures
