use Rattle.std.proofs.Common.{rules, ◌≡◌, ℕ, List, [], None, refl, sym, ap, ◌∙◌, subst}
use Rattle.fv_plane.specs.declared.format.PixelType.TheVariants.{Y8}
use Rattle.fv_plane.specs.declared.format.Shape.{Shape}
use Rattle.fv_plane.specs.Format.{plane_width, plane_height, shape_of_plane}
use Rattle.fv_plane.specs.Picture.{Picture, IsPicture, decoded_rows, frame_of, AreWhole, plane_alone}
use Rattle.fv_plane.proofs.BytesLemmas.{decoded-same, whole_first, whole-same, whole_none}
use Rattle.fv_plane.proofs.WindowLemmas.{frame_listed, no_chroma, IsPicture-plane_alone, alone_listed}
use Rattle.fv_plane.proofs.frame.Frame.plane_of.Goals as goal
use Rattle.fv_plane.proofs.frame.Frame.plane_of.Goals.{After-plane}

-- a share of the plane is the picture of it alone
alone : (c : After-plane) (rows : List (List ℕ)) → rows ≡ c.plane.result.now
    → frame_of (record { kind = Y8; bits = c.self.inside.shape.bits; width = c.plane_width.result; height = c.plane_height.result }) rows None ≡ plane_alone c.args.self.now c.args.plane
alone c rows same =
    let shape = c.args.self.now.shape in
    let made = shape_of_plane shape c.args.plane in
    let w : c.plane_width.result ≡ plane_width shape c.args.plane = search rules in
    let h : c.plane_height.result ≡ plane_height shape c.args.plane = search rules in
    let bits : ℕ = c.self.inside.shape.bits in
    let sides : ℕ → ℕ → Shape = λ x y. record { kind = Y8; bits = bits; width = x; height = y } in
    let depth : bits ≡ shape.bits = ap (λ (v : Picture). v.shape.bits) c.self.view_is in
    ap (λ (x : ℕ). frame_of (sides x c.plane_height.result) rows None) w ∙ ap (λ (y : ℕ). frame_of (sides (plane_width shape c.args.plane) y) rows None) h
    ∙ ap (λ n. frame_of (record { kind = Y8; bits = n; width = plane_width shape c.args.plane; height = plane_height shape c.args.plane }) rows None) depth
    ∙ frame_listed made _ rows None
    (decoded-same made shape rows refl ∙ ap (λ (l : List (List ℕ)). decoded_rows shape l) same ∙ c.plane.ensures.rows ∙ alone_listed c.args.self.now c.args.plane c.plane.ensures.sizes c.requires)
    (no_chroma made _ refl)

pub invariant_of-result : goal.invariant_of-result
invariant_of-result c =
    let same : c.in_ok-share.field-0 ≡ c.plane.result.now = search rules in
    let made : Shape = record { kind = Y8; bits = c.self.inside.shape.bits; width = c.plane_width.result; height = c.plane_height.result } in
    let depth = ap (λ (v : Picture). v.shape.bits) (sym c.self.view_is) in
    record {
      picture = subst (λ (v : Picture). IsPicture v) (sym (alone (goal.at.invariant_of-result c).After-plane c.in_ok-share.field-0 same))
          (IsPicture-plane_alone c.args.self.now c.args.plane c.plane.ensures.sizes);
      rows = whole_first made c.in_ok-share.field-0 []
          (whole-same c.args.self.now.shape made c.in_ok-share.field-0 depth (subst (λ (l : List (List ℕ)). AreWhole c.args.self.now.shape l) (sym same) c.plane.ensures.whole))
          (λ p. whole_none made);
    }

pub returns : goal.returns
returns c =
    let same : c.in_ok-share.field-0 ≡ c.plane.result.now = search rules in
    alone (goal.at.returns c).After-plane c.in_ok-share.field-0 same
