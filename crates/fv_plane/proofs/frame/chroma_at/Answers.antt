use Rattle.std.proofs.Common.{rules, ◌≡◌, List, ℕ, [], ◌∷◌, drop, ap, ◌∙◌, arith, ◌<◌, inl, inr}
use Rattle.std.specs.Arc.{arc_value}
use Rattle.fv_plane.specs.Picture.{decoded_rows, plane_in, chroma_in}
use Rattle.std.specs.Prelude.{◌≢◌}
use Rattle.fv_plane.specs.Format.{planes}
use Rattle.fv_plane.proofs.PictureLemmas.{one_or_three}
use Rattle.fv_plane.proofs.CutLemmas.{plane_within, plane_end}
use Rattle.fv_plane.proofs.BytesLemmas.{whole_none, two_whole}
use Rattle.fv_plane.proofs.frame.chroma_at.Goals as goal

pub returns-clause-shown : goal.returns-clause-shown
returns-clause-shown c =
    let shape = c.args.shape in
    let bytes : List ℕ = (arc_value c.args.bytes.now).items in
    let all : List ℕ = drop c.args.offset bytes in
    let u : decoded_rows shape c.in_ok-u.u ≡ plane_in shape all 1 = c.in_ok-u.ensures.shown ∙ plane_within shape bytes c.args.offset 1 _ (omega (arith, c.plane_bytes.ensures)) in
    let v : decoded_rows shape c.in_ok-v.v ≡ plane_in shape all 2 = c.in_ok-v.ensures.shown ∙ plane_within shape bytes c.args.offset 2 _ (omega (arith, c.plane_bytes.ensures, c.plane_bytes-2.ensures)) in
    let both : plane_in shape all 1 ∷ plane_in shape all 2 ∷ [] ≡ chroma_in shape all = search rules in
    ap (λ a. a ∷ decoded_rows shape c.in_ok-v.v ∷ []) u ∙ ap (λ a. plane_in shape all 1 ∷ a ∷ []) v ∙ both

pub returns-then-planes-eq1-clause-whole : goal.returns-then-planes-eq1-clause-whole
returns-then-planes-eq1-clause-whole c = λ p. whole_none c.args.shape

pub returns-clause-whole : goal.returns-clause-whole
returns-clause-whole c = two_whole c.args.shape _ _ c.in_ok-u.ensures.whole c.in_ok-v.ensures.whole

pub plane_at-requires-2-clause-inside : goal.plane_at-requires-2-clause-inside
plane_at-requires-2-clause-inside c =
    let shape = c.args.shape in
    let more : planes shape.kind ≢ 1 = search rules in
    let three : 2 < planes shape.kind = elim (one_or_three shape.kind) [ inl one ↦ absurd (more one) | inr is ↦ omega arith ] in
    omega (arith, plane_end shape 2 three, c.plane_bytes.ensures, c.plane_bytes-2.ensures, c.requires.inside)
