use Rattle.std.proofs.Common.{sym, ap, subst, get_or, []}
use Rattle.fv_plane.specs.declared.format.Shape.{Shape}
use Rattle.fv_plane.specs.Format.{half_shape}
use Rattle.fv_plane.specs.Picture.{Picture, IsPicture, chroma_list, IsStored}
use Rattle.fv_plane.proofs.BytesLemmas.{whole_first, whole-same}
use Rattle.fv_plane.proofs.FieldLemmas.{IsPicture-field_in, frame_of_field}
use Rattle.fv_plane.proofs.frame.Frame.field.Goals as goal

pub invariant_of-result : goal.invariant_of-result
invariant_of-result c =
    let f = c.self.inside in
    let is : IsStored f.shape f.luma f.chroma = c.self.invariant in
    let picture : IsPicture c.args.self.now = subst (λ (v : Picture). IsPicture v) c.self.view_is is.picture in
    let bits = ap (λ (v : Picture). v.shape.bits) (sym c.self.view_is) in
    let made : Shape = half_shape f.shape in
    let luma = c.in_ok-plane_of_field.field-0 in
    let chroma = c.in_ok-chroma_of_field.field-0 in
    record {
      picture = subst (λ (v : Picture). IsPicture v)
          (sym (frame_of_field f.shape c.args.self.now c.args.from luma chroma (ap (λ (v : Picture). v.shape) c.self.view_is) c.in_ok-plane_of_field.ensures.shown c.in_ok-chroma_of_field.ensures.shown))
          (IsPicture-field_in c.args.self.now c.args.from c.requires.even picture);
      rows = whole_first made luma (chroma_list chroma)
          (whole-same c.args.self.now.shape made luma bits c.in_ok-plane_of_field.ensures.whole)
          (λ p. whole-same c.args.self.now.shape made (get_or (chroma_list chroma) p []) bits (c.in_ok-chroma_of_field.ensures.whole p));
    }

pub returns : goal.returns
returns c =
    frame_of_field c.self.inside.shape c.args.self.now c.args.from c.in_ok-plane_of_field.field-0 c.in_ok-chroma_of_field.field-0
    (ap (λ (v : Picture). v.shape) c.self.view_is) c.in_ok-plane_of_field.ensures.shown c.in_ok-chroma_of_field.ensures.shown
