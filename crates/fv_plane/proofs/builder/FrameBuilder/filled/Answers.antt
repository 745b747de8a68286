use Rattle.std.proofs.Common.{arith, sym, subst}
use Rattle.fv_plane.specs.Picture.{Picture, IsPicture, frame_of, chroma_list}
use Rattle.fv_plane.proofs.PictureLemmas.{IsPicture-blank}
use Rattle.fv_plane.proofs.FrameLemmas.{frame_is}
use Rattle.fv_plane.proofs.BytesLemmas.{whole_first}
use Rattle.fv_plane.proofs.builder.FrameBuilder.filled.Goals as goal

made : (c : goal.In_ok-plain_chroma) → IsPicture (frame_of c.args.shape c.in_ok-plain_plane.field-0 c.in_ok-plain_chroma.field-0)
made c =
    subst (λ (p : Picture). IsPicture p) (sym (frame_is c.args.shape c.in_ok-plain_plane.field-0 c.in_ok-plain_chroma.field-0 _ _ c.in_ok-plain_plane.ensures.shown c.in_ok-plain_chroma.ensures.shown))
    (IsPicture-blank c.args.shape c.args.colour c.requires (omega arith) (omega arith) (omega arith))

pub invariant_of-result : goal.invariant_of-result
invariant_of-result c = record {
  picture = made c;
  rows = whole_first c.args.shape c.in_ok-plain_plane.field-0 (chroma_list c.in_ok-plain_chroma.field-0) c.in_ok-plain_plane.ensures.whole c.in_ok-plain_chroma.ensures.whole;
}

pub returns-clause-sizes : goal.returns-clause-sizes
returns-clause-sizes c = made c
