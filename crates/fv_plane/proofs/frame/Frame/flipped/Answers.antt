use Rattle.std.proofs.Common.{rules, ◌≡◌, ◌∙◌, sym, ap, subst, map}
use Rattle.std.specs.Prelude.{reverse}
use Rattle.fv_plane.specs.Picture.{Picture, IsPicture, chroma_list, frame_of, IsStored, upside_down}
use Rattle.fv_plane.proofs.FlipLemmas.{frame_flipped, stored_flipped, IsPicture-upside_down}
use Rattle.fv_plane.proofs.frame.Frame.flipped.Goals as goal

pub invariant_of-result : goal.invariant_of-result
invariant_of-result c =
    let f = c.self.inside in
    let is : IsStored f.shape f.luma f.chroma = c.self.invariant in
    let luma : c.in_ok-flipped.field-0 ≡ reverse f.luma = search rules in
    let chroma : chroma_list c.in_ok-flipped_chroma.field-0 ≡ map reverse (chroma_list f.chroma) = search rules in
    record {
      picture = subst (λ (v : Picture). IsPicture v) (sym (frame_flipped f.shape f.luma c.in_ok-flipped.field-0 f.chroma c.in_ok-flipped_chroma.field-0 is.picture luma chroma))
          (IsPicture-upside_down (frame_of f.shape f.luma f.chroma) is.picture);
      rows = stored_flipped f.shape f.luma c.in_ok-flipped.field-0 f.chroma c.in_ok-flipped_chroma.field-0 luma chroma is.rows;
    }

pub returns : goal.returns
returns c =
    let f = c.self.inside in
    let is : IsStored f.shape f.luma f.chroma = c.self.invariant in
    let luma : c.in_ok-flipped.field-0 ≡ reverse f.luma = search rules in
    let chroma : chroma_list c.in_ok-flipped_chroma.field-0 ≡ map reverse (chroma_list f.chroma) = search rules in
    frame_flipped f.shape f.luma c.in_ok-flipped.field-0 f.chroma c.in_ok-flipped_chroma.field-0 is.picture luma chroma
    ∙ ap upside_down c.self.view_is
