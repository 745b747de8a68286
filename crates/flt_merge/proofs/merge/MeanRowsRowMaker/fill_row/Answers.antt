use Rattle.flt_merge.proofs.RowLemmas.{means_put}
use Rattle.flt_merge.proofs.merge.MeanRowsRowMaker.fill_row.Goals as goal

pub returns-clause-row : goal.returns-clause-row
returns-clause-row c =
    let rows = c.args.self.now in
    means_put rows.a.now rows.b.now c.shape-shape.result c.args.plane c.args.y c.row.result.now c.row-2.result.now c.fill_means.new.out c.shape-shape.ensures.sizes c.shape.ensures.sizes
    c.shape-shape.ensures.shape c.requires.able c.requires.plane c.requires.inside c.row.ensures.row c.row-2.ensures.row c.fill_means.ensures
