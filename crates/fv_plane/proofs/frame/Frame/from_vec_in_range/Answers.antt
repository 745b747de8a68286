use Rattle.std.proofs.Common.{◌≡◌, ◌∙◌, List, ℕ, length, take, drop, arith, sym, subst, rules}
use Rattle.std.proofs.lemmas.List.{length-drop, length-take-le}
use Rattle.fv_plane.specs.Format.{frame_bytes}
use Rattle.fv_plane.specs.Picture.{Picture, IsPicture, picture_in_range, frame_of, chroma_list}
use Rattle.fv_rows.proofs.RowLemmas.{bounded_all}
use Rattle.fv_plane.proofs.CutLemmas.{IsPicture-cut, cut-take}
use Rattle.fv_plane.proofs.BytesLemmas.{whole_first}
use Rattle.fv_plane.proofs.frame.Frame.from_vec_in_range.Goals as goal

pub plane_at-requires-clause-bytes : goal.plane_at-requires-clause-bytes
plane_at-requires-clause-bytes c = (λ k. rw c.in_ok-bytes.ensures.ok (bounded_all 255 c.args.bytes.items (λ i within. omega arith) k))

pub chroma_at-requires-clause-bytes : goal.chroma_at-requires-clause-bytes
chroma_at-requires-clause-bytes c = (λ k. rw c.in_ok-bytes.ensures.ok (bounded_all 255 c.args.bytes.items (λ i within. omega arith) k))

pub invariant_of-result : goal.invariant_of-result
invariant_of-result c =
    let shape = c.args.shape in
    let bytes : List ℕ = drop c.args.offset c.args.bytes.items in
    let is : frame_of shape c.in_ok-plane_at.field-0 c.in_ok-chroma_at.field-0 ≡ picture_in_range shape bytes = search rules in
    let long : length (take (frame_bytes shape) bytes) ≡ frame_bytes shape = length-take-le (frame_bytes shape) bytes (rw length-drop (omega (arith, c.requires.whole))) in
    record {
      picture = subst (λ (p : Picture). IsPicture p) (sym (is ∙ sym (cut-take shape bytes)))
          (IsPicture-cut shape (take (frame_bytes shape) bytes) c.requires.legal (omega (arith, long)) c.requires.fits);
      rows = whole_first shape c.in_ok-plane_at.field-0 (chroma_list c.in_ok-chroma_at.field-0) c.in_ok-plane_at.ensures.whole c.in_ok-chroma_at.ensures.whole;
    }
