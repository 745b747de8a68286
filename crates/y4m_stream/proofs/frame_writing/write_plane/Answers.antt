-- A plane with no bytes between its rows is put in one piece.
use Rattle.fv_plane.proofs.CallerLemmas.{some_rows}
use Rattle.y4m_stream.proofs.frame_writing.write_plane.Goals as goal

pub rows_from-count-requires-clause-inside : goal.rows_from-count-requires-clause-inside
rows_from-count-requires-clause-inside g c = let is = c.shape.ensures.sizes in some_rows c.args.frame.now.shape c.args.plane is.legal
