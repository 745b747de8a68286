use Rattle.flt_space.proofs.borders.MovedRowsRowMaker.kept.Goals as goal

pub returns : goal.returns
returns g c = c.requires.able.none c.args.plane
