use Rattle.std.proofs.Common.{◌≡◌, ◌∙◌, ap, drop, map, sym, subst}
use Rattle.fv_plane.specs.declared.format.Shape.{Shape}
use Rattle.fv_plane.specs.Picture.{chroma_list, decoded_rows, frame_of, Look, picture_from, Picture, IsPicture}
use Rattle.fv_plane.proofs.BytesLemmas.{whole_first}
use Rattle.fv_plane.proofs.WindowLemmas.{frame_listed, IsPicture-picture_from}
use Rattle.fv_plane.proofs.make.make_by_rows.Goals as goal

pub of_planes-requires : goal.of_planes-requires
of_planes-requires g c =
    let shape : Shape = c.shape-shape.result in
    let at : Look = g.M.RowMaker.look_made c.args.maker.now in
    let chroma : map (decoded_rows shape) (chroma_list c.in_ok-chroma.chroma) ≡ drop 1 (picture_from shape at).planes
    = c.in_ok-chroma.ensures.shown ∙ ap (λ m. drop 1 (picture_from shape (g.M.RowMaker.look_made m)).planes) c.in_ok-luma.ensures.same in
    let frame : frame_of shape c.in_ok-luma.luma c.in_ok-chroma.chroma ≡ picture_from shape at = frame_listed shape at c.in_ok-luma.luma c.in_ok-chroma.chroma c.in_ok-luma.ensures.shown chroma in
    record {
      picture = subst (λ (p : Picture). IsPicture p) (sym frame) (IsPicture-picture_from shape at c.shape-shape.ensures.legal c.shape-shape.ensures.fits);
      rows = whole_first shape c.in_ok-luma.luma (chroma_list c.in_ok-chroma.chroma) c.in_ok-luma.ensures.whole c.in_ok-chroma.ensures.whole;
    }

pub returns-clause-made : goal.returns-clause-made
returns-clause-made g c =
    let shape : Shape = c.shape-shape.result in
    let at : Look = g.M.RowMaker.look_made c.args.maker.now in
    let chroma : map (decoded_rows shape) (chroma_list c.in_ok-chroma.chroma) ≡ drop 1 (picture_from shape at).planes
    = c.in_ok-chroma.ensures.shown ∙ ap (λ m. drop 1 (picture_from shape (g.M.RowMaker.look_made m)).planes) c.in_ok-luma.ensures.same in
    c.of_planes.ensures ∙ frame_listed shape at c.in_ok-luma.luma c.in_ok-chroma.chroma c.in_ok-luma.ensures.shown chroma
    ∙ ap (λ (s : Shape). picture_from s at) c.shape-shape.ensures.shape
