-- What the makers rest on, from pictures that can be joined.
use Rattle.std.proofs.Common.{◌≡◌, zero, suc, List, [], ◌∷◌, length, get_or, refl, arith, Bool, true, false, All, None, Ok, is_none}
use Rattle.std.specs.Option.{unwrap_or}
use Rattle.std.specs.List.{list_all}
use Rattle.std.proofs.lemmas.Grind.{common_steps}
use Rattle.fv_plane.specs.declared.format.Info.{Info}
use Rattle.fv_plane.specs.declared.format.PixelType.TheVariants.{Y8}
use Rattle.fv_plane.specs.declared.format.Shape.{Shape}
use Rattle.fv_plane.specs.Picture.{Picture, picture_from}
use Rattle.fv_plane.specs.Refusals.{Refusals, first_fault}
use Rattle.clip_term.specs.declared.fault.FilterFault.{FilterFault}
use Rattle.clip_term.specs.declared.op.JoinOp.{JoinOp}
use Rattle.clip_term.specs.declared.op.JoinOp.TheVariants as op
use Rattle.clip_term.specs.Refusals.{info_at, no_info, unless, same_size}
use Rattle.clip_term.specs.Join.{kind_of, join_refusals}
use Rattle.clip_term.proofs.PassedLemmas.{Passed, passed, agreed, not_false, same_number, same_format_is, all_at}
use Rattle.flt_merge.specs.Joined.{infos_in, shape_joined, join_picture, CanJoin}
use Rattle.flt_merge.specs.Rows.{look_of_two, HaveWidth, HaveHeight}

-- INPUTS

pub two_are : (pictures : List Picture) (a b : Picture) → length pictures ≡ 2 → a ≡ get_or pictures 0 a → b ≡ get_or pictures 1 b → pictures ≡ a ∷ b ∷ []
two_are pictures a b h e f = grind (arith, common_steps)

pub three_are : (pictures : List Picture) (a b c : Picture) → length pictures ≡ 3 → a ≡ get_or pictures 0 a → b ≡ get_or pictures 1 b → c ≡ get_or pictures 2 c → pictures ≡ a ∷ b ∷ c ∷ []
three_are pictures a b c h e f g = grind (arith, common_steps)

-- no test of the row is true
pub passes : (op : JoinOp) (pictures : List Picture) → CanJoin op pictures → Passed (join_refusals op (info_at (infos_in pictures) 0) (infos_in pictures))
passes op pictures can =
    let row : Refusals FilterFault = join_refusals op (info_at (infos_in pictures) 0) (infos_in pictures) in
    (passed row (unless None (unless (first_fault row) (Ok no_info))) no_info (rw can.accepted refl)).0

-- MERGES

-- pictures that agree have one shape
pub luma_agree : (a b : Picture) → CanJoin op.MergeLuma (a ∷ b ∷ []) → b.shape ≡ a.shape
luma_agree a b can = agreed (infos_in (a ∷ b ∷ [])) (passes op.MergeLuma (a ∷ b ∷ []) can) 1 (omega arith)

pub chroma_agree : (a b : Picture) → CanJoin op.MergeChroma (a ∷ b ∷ []) → b.shape ≡ a.shape
chroma_agree a b can = agreed (infos_in (a ∷ b ∷ [])) (passes op.MergeChroma (a ∷ b ∷ []) can) 1 (omega arith)

pub means_agree : (a b : Picture) → CanJoin op.Merge (a ∷ b ∷ []) → b.shape ≡ a.shape
means_agree a b can = agreed (infos_in (a ∷ b ∷ [])) (passes op.Merge (a ∷ b ∷ []) can) 1 (omega arith)

pub merge_luma_is : (a b : Picture) → b.shape ≡ a.shape → picture_from b.shape (look_of_two b a) ≡ join_picture op.MergeLuma (a ∷ b ∷ [])
merge_luma_is a b same = grind (arith, common_steps)

-- YTOUV

-- the shape whose luma is that of y and whose chroma has the size of u
abbrev pub shape_of_three : Shape → Shape → Shape
shape_of_three u y = record { kind = unwrap_or (kind_of u y) Y8; bits = u.bits; width = y.width; height = y.height }

all_infos : (test : Info → Bool) (pictures : List Picture) → list_all test (infos_in pictures) ≡ true → All (λ one. test (record no_info { shape = one.shape }) ≡ true) pictures
all_infos test [] all k d h = absurd (omega arith)
all_infos test (one ∷ more) all zero d h = (all_at test (record no_info { shape = one.shape }) (infos_in more) all).0
all_infos test (one ∷ more) all (suc k) d h = all_infos test more (all_at test (record no_info { shape = one.shape }) (infos_in more) all).1 k d (omega arith)

-- u and v have one size, y has a format, and all have as many bits
pub chroma_fits : (u v y : Picture) → CanJoin op.YToUV (u ∷ v ∷ y ∷ [])
    → (same_size u.shape v.shape ≡ true) × (is_none (kind_of u.shape y.shape) ≡ false) × ((v.shape.bits ≡ u.shape.bits) × (y.shape.bits ≡ u.shape.bits))
chroma_fits u v y can = grind (arith, common_steps)

-- STACKS

pub have_width : (pictures : List Picture) → CanJoin op.StackVertical pictures → HaveWidth (shape_joined op.StackVertical pictures) pictures
have_width pictures can k d h = search (arith, passes, all_infos, not_false, same_format_is, same_number)

pub have_height : (pictures : List Picture) → CanJoin op.StackHorizontal pictures → HaveHeight (shape_joined op.StackHorizontal pictures) pictures
have_height pictures can k d h = search (arith, passes, all_infos, not_false, same_format_is, same_number)
