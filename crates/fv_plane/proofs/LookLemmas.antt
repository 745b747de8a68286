-- A picture that was listed has what it was listed from.
use Rattle.std.proofs.Common.{◌≡◌, ℕ, zero, suc, ◌+◌, ◌<◌, [], ◌∷◌, map, refl, ap, ◌∙◌, arith}
use Rattle.std.specs.List.{range_with_len}
use Rattle.std.proofs.lemmas.List.FromFn.{get_or-map-range_with_len}
use Rattle.fv_plane.specs.declared.format.Shape.{Shape}
use Rattle.fv_plane.specs.Format.{planes, plane_width, plane_height}
use Rattle.fv_plane.specs.Picture.{Look, look_in, picture_from, plane_from, row_from}

-- a place inside a picture
pub record Inside (shape : Shape) (p x y : ℕ) : Type 0 where
  pub plane : p < planes shape.kind
  pub across : x < plane_width shape p
  pub down : y < plane_height shape p

-- two ways to see the same samples
pub record Agree (shape : Shape) (a b : Look) : Type 0 where
  pub same : (p x y : ℕ) → Inside shape p x y → a p x y ≡ b p x y

pub map_same : {X : Type 0} (f g : ℕ → X) (a n : ℕ) → ((k : ℕ) → k < a + n → f k ≡ g k) → map f (range_with_len a n) ≡ map g (range_with_len a n)
map_same f g a zero same = refl
map_same f g a (suc n) same =
    ap (λ x. x ∷ map f (range_with_len (a + 1) n)) (same a (omega arith))
    ∙ ap (λ xs. g a ∷ xs) (map_same f g (a + 1) n (λ k h. same k (omega arith)))

pub look_from : (shape : Shape) (at : Look) (p x y : ℕ) → Inside shape p x y → look_in (picture_from shape at) p x y ≡ at p x y
unfolding picture_from
look_from shape at p x y i =
    rw (get_or-map-range_with_len (λ q. plane_from at q (plane_width shape q) (plane_height shape q)) 0 (planes shape.kind) p p [] i.plane (omega arith))
    (rw (get_or-map-range_with_len (λ z. row_from at p (plane_width shape p) z) 0 (plane_height shape p) y y [] i.down (omega arith))
    (get_or-map-range_with_len (λ z. at p z y) 0 (plane_width shape p) x x 0 i.across (omega arith)))

pub picture_same : (shape : Shape) (a b : Look) → Agree shape a b → picture_from shape a ≡ picture_from shape b
unfolding picture_from
picture_same shape a b agree =
    ap (λ ps. record { shape = shape; planes = ps })
    (map_same (λ q. plane_from a q (plane_width shape q) (plane_height shape q)) (λ q. plane_from b q (plane_width shape q) (plane_height shape q)) 0 (planes shape.kind)
    (λ p hp. map_same (λ z. row_from a p (plane_width shape p) z) (λ z. row_from b p (plane_width shape p) z) 0 (plane_height shape p)
    (λ y hy. map_same (λ z. a p z y) (λ z. b p z y) 0 (plane_width shape p)
    (λ x hx. agree.same p x y (record { plane = omega arith; across = omega arith; down = omega arith })))))

-- a picture is the listing of what stands in it
pub agree_look : (shape : Shape) (at : Look) → Agree shape (look_in (picture_from shape at)) at
agree_look shape at = record { same = λ p x y i. look_from shape at p x y i }
