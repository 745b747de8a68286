-- Pictures that are listed from what stands in them.
use Rattle.std.proofs.Common.{◌≡◌, ℕ, zero, suc, ◌+◌, ◌*◌, [], ◌∷◌, map, replicate, get_or, refl, sym, ap, ◌∙◌, arith}
use Rattle.std.specs.Prelude.{if◌then◌else◌, ◌==◌}
use Rattle.std.specs.List.{range_with_len}
use Rattle.std.proofs.lemmas.List.FromFn.{fill_by_all}
use Rattle.std.proofs.lemmas.Bool.Decides.{nat_tests}
use Rattle.fv_plane.specs.Format.{planes, scale, plane_width, plane_height}
use Rattle.fv_plane.specs.declared.format.Colour.{Colour}
use Rattle.fv_plane.specs.declared.format.PixelType.{PixelType}
use Rattle.fv_plane.specs.declared.format.Shape.{Shape}
use Rattle.fv_plane.specs.Picture.{Picture, IsPicture, row_of, blank, plain_plane, look_in, picture_from, plane_from, row_from}
use Rattle.clip_term.specs.Blank.{colour_at}

-- a picture is the listing of what stands in it
pub listed : (picture : Picture) → IsPicture picture → picture_from picture.shape (look_in picture) ≡ picture
unfolding picture_from
listed picture is =
    sym (ap (λ ps. record { shape = picture.shape; planes = ps })
    (fill_by_all (λ p. plane_from (look_in picture) p (plane_width picture.shape p) (plane_height picture.shape p)) picture.planes (planes picture.shape.kind) [] is.count
    (λ p h. let plane = is.sizes p (let k = is.count in omega arith) in
    fill_by_all (λ z. row_from (look_in picture) p (plane_width picture.shape p) z) (get_or picture.planes p []) (plane_height picture.shape p) [] plane.count
    (λ z g. fill_by_all (λ x. look_in picture p x z) (row_of picture.planes p z) (plane_width picture.shape p) 0 (plane.widths z g) (λ x i. refl)))))

const_map : {X : Type 0} (v : X) (a n : ℕ) → map (λ k. v) (range_with_len a n) ≡ replicate n v
const_map v a zero = refl
const_map v a (suc n) = ap (λ l. v ∷ l) (const_map v (a + 1) n)

plain_listed : (v w h : ℕ) → map (λ y. map (λ x. v) (range_with_len 0 w)) (range_with_len 0 h) ≡ replicate h (replicate w v)
plain_listed v w h = ap (λ row. map (λ y. row) (range_with_len 0 h)) (const_map v 0 w) ∙ const_map (replicate w v) 0 h

luma : (colour : Colour) (shape : Shape) → plane_from (colour_at colour shape) 0 (plane_width shape 0) (plane_height shape 0) ≡ plain_plane shape 0 colour.y
luma colour shape = plain_listed (colour.y * scale shape) (plane_width shape 0) (plane_height shape 0)

three : (colour : Colour) (shape : Shape)
    → map (λ p. plane_from (colour_at colour shape) p (plane_width shape p) (plane_height shape p)) (range_with_len 0 3)
    ≡ plain_plane shape 0 colour.y ∷ plain_plane shape 1 colour.u ∷ plain_plane shape 2 colour.v ∷ []
three colour shape =
    let u = plain_listed (colour.u * scale shape) (plane_width shape 1) (plane_height shape 1) in
    let v = plain_listed (colour.v * scale shape) (plane_width shape 2) (plane_height shape 2) in
    ap (λ y. y ∷ plane_from (colour_at colour shape) 1 (plane_width shape 1) (plane_height shape 1) ∷ plane_from (colour_at colour shape) 2 (plane_width shape 2) (plane_height shape 2) ∷ []) (luma colour shape)
    ∙ ap (λ l. plain_plane shape 0 colour.y ∷ l ∷ plane_from (colour_at colour shape) 2 (plane_width shape 2) (plane_height shape 2) ∷ []) u
    ∙ ap (λ l. plain_plane shape 0 colour.y ∷ plain_plane shape 1 colour.u ∷ l ∷ []) v

blank_planes : (colour : Colour) (kind : PixelType) (shape : Shape)
    → map (λ p. plane_from (colour_at colour shape) p (plane_width shape p) (plane_height shape p)) (range_with_len 0 (planes kind))
    ≡ plain_plane shape 0 colour.y ∷ (if planes kind == 1 then [] else plain_plane shape 1 colour.u ∷ plain_plane shape 2 colour.v ∷ [])
blank_planes colour kind shape = grind (arith, nat_tests, luma, three)

-- a frame of one colour is the listing of the colour
pub blank_listed : (shape : Shape) (colour : Colour) → blank shape colour ≡ picture_from shape (colour_at colour shape)
unfolding picture_from
blank_listed shape colour = ap (λ ps. record { shape = shape; planes = ps }) (sym (blank_planes colour shape.kind shape))
