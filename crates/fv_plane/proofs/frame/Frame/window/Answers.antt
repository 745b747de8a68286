use Rattle.std.proofs.Common.{◌≡◌, sym, ap, ◌∙◌, subst, get_or, []}
use Rattle.fv_plane.specs.declared.format.Shape.{Shape}
use Rattle.fv_plane.specs.Format.{window_at, window_shape}
use Rattle.fv_plane.specs.Picture.{Picture, IsPicture, frame_of, chroma_list, IsStored, picture_in}
use Rattle.fv_plane.proofs.BytesLemmas.{whole_first, whole-same}
use Rattle.fv_plane.proofs.WindowLemmas.{frame_listed, IsPicture-picture_in}
use Rattle.fv_plane.proofs.frame.Frame.window.Goals as goal

pub invariant_of-result : goal.invariant_of-result
invariant_of-result c =
    let shape : window_shape c.self.inside.shape (window_at c.args.left c.args.top c.args.width c.args.height) ≡ window_shape c.args.self.now.shape (window_at c.args.left c.args.top c.args.width c.args.height)
    = ap (λ (v : Picture). window_shape v.shape (window_at c.args.left c.args.top c.args.width c.args.height)) c.self.view_is in
    let frame : frame_of (window_shape c.self.inside.shape (window_at c.args.left c.args.top c.args.width c.args.height)) c.in_ok-plane_in.field-0 c.in_ok-chroma_in.field-0 ≡ picture_in c.args.self.now (window_at c.args.left c.args.top c.args.width c.args.height)
    = ap (λ (s : Shape). frame_of s c.in_ok-plane_in.field-0 c.in_ok-chroma_in.field-0) shape
    ∙ frame_listed (window_shape c.args.self.now.shape (window_at c.args.left c.args.top c.args.width c.args.height)) _ c.in_ok-plane_in.field-0 c.in_ok-chroma_in.field-0 c.in_ok-plane_in.ensures.shown c.in_ok-chroma_in.ensures.shown in
    let is : IsStored c.self.inside.shape c.self.inside.luma c.self.inside.chroma = c.self.invariant in
    let bits = ap (λ (v : Picture). v.shape.bits) (sym c.self.view_is) in
    let made : Shape = window_shape c.self.inside.shape (window_at c.args.left c.args.top c.args.width c.args.height) in
    record {
      picture = subst (λ (v : Picture). IsPicture v) (sym frame) (IsPicture-picture_in c.args.self.now (window_at c.args.left c.args.top c.args.width c.args.height) (subst (λ (v : Picture). IsPicture v) c.self.view_is is.picture) c.requires);
      rows = whole_first made c.in_ok-plane_in.field-0 (chroma_list c.in_ok-chroma_in.field-0)
          (whole-same c.args.self.now.shape made c.in_ok-plane_in.field-0 bits c.in_ok-plane_in.ensures.whole)
          (λ p. whole-same c.args.self.now.shape made (get_or (chroma_list c.in_ok-chroma_in.field-0) p []) bits (c.in_ok-chroma_in.ensures.whole p));
    }

pub returns : goal.returns
returns c =
    let shape : window_shape c.self.inside.shape (window_at c.args.left c.args.top c.args.width c.args.height) ≡ window_shape c.args.self.now.shape (window_at c.args.left c.args.top c.args.width c.args.height)
    = ap (λ (v : Picture). window_shape v.shape (window_at c.args.left c.args.top c.args.width c.args.height)) c.self.view_is in
    ap (λ (s : Shape). frame_of s c.in_ok-plane_in.field-0 c.in_ok-chroma_in.field-0) shape
    ∙ frame_listed (window_shape c.args.self.now.shape (window_at c.args.left c.args.top c.args.width c.args.height)) _ c.in_ok-plane_in.field-0 c.in_ok-chroma_in.field-0 c.in_ok-plane_in.ensures.shown c.in_ok-chroma_in.ensures.shown
