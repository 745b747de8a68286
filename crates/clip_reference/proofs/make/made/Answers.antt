use Rattle.std.proofs.Common.{rules, arith, ◌≡◌, ◌∙◌, List, [], length, map, ap, refl}
use Rattle.std.proofs.lemmas.Result.{IfOk-weaker}
use Rattle.std.proofs.lemmas.Grind.{common_steps}
use Rattle.fv_plane.specs.Picture.{Picture, row_of_bytes, Look, look_in, row_from, picture_from}
use Rattle.clip_term.specs.Terms.{act_of, sample, make}
use Rattle.fv_plane.proofs.FillLemmas.{filled_put, filled_plane, filled_done}
use Rattle.fv_plane.proofs.WholePlaneLemmas.{rows_listed}
use Rattle.clip_reference.proofs.ReadyLemmas.{made_same}
use Rattle.clip_reference.proofs.RowLemmas.{row_fits, bytes_fit, bytes_again, largest_small}
use Rattle.clip_reference.proofs.make.made.Goals as goal

pub fill_row-requires-clause-fits : goal.fill_row-requires-clause-fits
fill_row-requires-clause-fits c = λ x. omega (arith, c.requires.fits c.loop-plane.plane x c.loop-y.y, largest_small c.args.info.shape c.requires.legal)

pub write_row-requires-clause-whole : goal.write_row-requires-clause-whole
write_row-requires-clause-whole c = grind (arith, common_steps)

pub write_row-requires-clause-fits : goal.write_row-requires-clause-fits
write_row-requires-clause-fits c = search (arith, row_fits)

pub put_row-requires-clause-fits : goal.put_row-requires-clause-fits
put_row-requires-clause-fits c = search (arith, bytes_fit, row_fits)

pub loop-y-preserved : goal.loop-y-preserved
loop-y-preserved c =
    let shape = c.args.info.shape in
    let at : Look = sample [] (act_of c.args.op.now) c.args.infos.now c.args.n (map look_in c.args.frames.now) in
    let p = c.loop-plane.plane in
    record {
      samples = c.fill_row.auto.row ∙ c.loop-y.invariant.samples;
      row = c.write_row.auto.bytes ∙ c.loop-y.invariant.row;
      filled = filled_put (rows_listed shape at) shape c.loop-y.made c.put_row.new.self p c.loop-y.y (row_of_bytes c.loop-y.made.shape c.write_row.new.bytes) c.loop-y.invariant.filled
          c.put_row.ensures.sizes c.put_row.ensures.shape c.put_row.ensures.rows
          (bytes_again shape c.loop-y.made.shape c.fill_row.new.row c.write_row.new.bytes c.loop-y.invariant.filled.same c.write_row.ensures ∙ c.fill_row.ensures
          ∙ ap (λ width. row_from at p width c.loop-y.y) c.loop-y.invariant.samples) (search rules) (search rules);
    }

pub loop-plane-preserved : goal.loop-plane-preserved
loop-plane-preserved c =
    let shape = c.args.info.shape in
    let at : Look = sample [] (act_of c.args.op.now) c.args.infos.now c.args.n (map look_in c.args.frames.now) in
    filled_plane (rows_listed shape at) shape c.loop-y.made c.loop-plane.plane c.loop-y.y (search rules) c.loop-y.invariant.filled

pub returns : goal.returns
returns c =
    let info = c.args.info in
    let at : Look = sample [] (act_of c.args.op.now) c.args.infos.now c.args.n (map look_in c.args.frames.now) in
    let whole : c.loop-plane.made ≡ picture_from info.shape at
    = filled_done (rows_listed info.shape at) info.shape c.loop-plane.made at c.loop-plane.plane 0 c.loop-plane.invariant (search rules) (search rules) (λ p z there inside. refl) in
    IfOk-weaker c.finish.result (λ frame. frame ≡ c.loop-plane.made)
    (λ frame. (book : List (List Picture)) → frame ≡ make book (act_of c.args.op.now) c.args.infos.now info c.args.n c.args.frames.now)
    (λ frame e book. e ∙ whole ∙ made_same (act_of c.args.op.now) c.args.infos.now info c.args.n c.args.frames.now (length c.args.frames.now) c.requires.ready book)
    c.finish.ensures
