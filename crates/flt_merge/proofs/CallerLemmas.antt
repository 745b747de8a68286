-- What other crates may cite: a caller who holds an accepted check can join, and what is made is the definition's.
use Rattle.std.proofs.Common.{◌≡◌, ℕ, ◌+◌, ◌-◌, List, [], ◌∷◌, length, map, refl, sym, ◌∙◌, ap, subst, Bool, not, ◌&&◌, ◌==◌, if◌then◌else◌, nat_lt, sum_by, Ok, IsTrue, Option, None, Result, arith}
use Rattle.std.specs.Option.{unwrap_or}
use Rattle.std.specs.List.{list_all}
use Rattle.std.proofs.lemmas.List.Sums.{sum_by-cons}
use Rattle.std.proofs.Math.ListN.{get_or-map}
use Rattle.std.proofs.lemmas.Grind.{common_steps}
use Rattle.fv_plane.specs.declared.format.Info.{Info}
use Rattle.fv_plane.specs.declared.format.Shape.{Shape}
use Rattle.fv_plane.specs.declared.format.PixelType.TheVariants.{Y8}
use Rattle.fv_plane.specs.Format.{IsLegal, plane_width, plane_height}
use Rattle.fv_plane.specs.Picture.{Picture, Look, look_in, picture_from}
use Rattle.fv_plane.specs.Refusals.{Refusals, first_fault}
use Rattle.fv_plane.proofs.LookLemmas.{picture_same}
use Rattle.clip_term.specs.declared.fault.FilterFault.{FilterFault}
use Rattle.clip_term.specs.declared.fault.FilterFault.TheVariants.{FormatDiffers, SizeDiffers}
use Rattle.clip_term.specs.declared.op.JoinOp.{JoinOp}
use Rattle.clip_term.specs.declared.op.JoinOp.TheVariants as op
use Rattle.clip_term.specs.Refusals.{info_at, no_info, rate_of, sized, same_format, same_size, unless, limits}
use Rattle.clip_term.specs.Join.{beside, beneath, kind_of, join_refusals, join_length, join_shape, join_at, check_join, chroma_refusals}
use Rattle.clip_term.specs.Terms.{joined, make, join_inputs}
use Rattle.clip_term.proofs.PassedLemmas.{passed, limits_shape}
use Rattle.flt_merge.specs.Joined.{infos_in, shape_joined, join_picture, CanJoin}

-- the info with nothing but its shape
abbrev plain : Info → Info
plain info = record no_info { shape = info.shape }

map-map : {A B C : Type 0} (g : B → C) (f : A → B) (l : List A) → map g (map f l) ≡ map (λ x. g (f x)) l
map-map g f [] = refl
map-map g f (x ∷ xs) = ap (λ l. g (f x) ∷ l) (map-map g f xs)

shapes_alone : (pictures : List Picture) (infos : List Info) → map (λ (q : Picture). q.shape) pictures ≡ map (λ (d : Info). d.shape) infos → infos_in pictures ≡ map plain infos
shapes_alone pictures infos same =
    let info : Shape → Info = λ s. record no_info { shape = s } in
    sym (map-map info (λ (q : Picture). q.shape) pictures) ∙ ap (map info) same ∙ map-map info (λ (d : Info). d.shape) infos

plain_at : (infos : List Info) (i : ℕ) → (info_at (map plain infos) i).shape ≡ (info_at infos i).shape
plain_at infos i = ap (λ (d : Info). d.shape) (get_or-map plain infos i no_info)

plain_all : (test : Shape → Bool) (infos : List Info) → list_all (λ (d : Info). test d.shape) (map plain infos) ≡ list_all (λ (d : Info). test d.shape) infos
plain_all test [] = refl
plain_all test (d ∷ ds) = ap (λ b. test d.shape && b) (plain_all test ds)

plain_sum : (size : Shape → ℕ) (infos : List Info) → sum_by (λ (d : Info). size d.shape) (map plain infos) ≡ sum_by (λ (d : Info). size d.shape) infos
plain_sum size [] = refl
plain_sum size (d ∷ ds) =
    sum_by-cons (λ (e : Info). size e.shape) (plain d) (map plain ds) ∙ ap (λ n. size d.shape + n) (plain_sum size ds) ∙ sym (sum_by-cons (λ (e : Info). size e.shape) d ds)

-- two tests of all shapes, against the shape of the first
abbrev tests : (Shape → Shape → Bool) → (Shape → Shape → Bool) → Shape → List Info → Refusals FilterFault
tests format size shape infos =
    (FormatDiffers, not (list_all (λ (d : Info). format d.shape shape) infos)) ∷ (SizeDiffers, not (list_all (λ (d : Info). size d.shape shape) infos)) ∷ []

plain_tests : (format size : Shape → Shape → Bool) (infos : List Info) → tests format size (info_at (map plain infos) 0).shape (map plain infos) ≡ tests format size (info_at infos 0).shape infos
plain_tests format size infos =
    let shape = (info_at infos 0).shape in
    ap (λ s. tests format size s (map plain infos)) (plain_at infos 0)
    ∙ ap (λ b. (FormatDiffers, not b) ∷ (SizeDiffers, not (list_all (λ (d : Info). size d.shape shape) (map plain infos))) ∷ []) (plain_all (λ s. format s shape) infos)
    ∙ ap (λ b. (FormatDiffers, not (list_all (λ (d : Info). format d.shape shape) infos)) ∷ (SizeDiffers, not b) ∷ []) (plain_all (λ s. size s shape) infos)

plain_refusals : (op : JoinOp) (infos : List Info) → join_refusals op (info_at (map plain infos) 0) (map plain infos) ≡ join_refusals op (info_at infos 0) infos
plain_refusals op.StackHorizontal infos = plain_tests same_format (λ s t. s.height == t.height) infos
plain_refusals op.StackVertical infos = plain_tests same_format (λ s t. s.width == t.width) infos
plain_refusals op.Merge infos = plain_tests same_format same_size infos
plain_refusals op.MergeLuma infos = plain_tests same_format same_size infos
plain_refusals op.MergeChroma infos = plain_tests same_format same_size infos
plain_refusals op.YToUV infos =
    let plains = map plain infos in
    let first = (info_at infos 0).shape in
    let bits : list_all (λ (d : Info). d.shape.bits == (info_at plains 0).shape.bits) plains ≡ list_all (λ (d : Info). d.shape.bits == first.bits) infos
    = ap (λ (s : Shape). list_all (λ (d : Info). d.shape.bits == s.bits) plains) (plain_at infos 0) ∙ plain_all (λ s. s.bits == first.bits) infos in
    let row : Shape → Shape → Shape → Refusals FilterFault = λ u v y. chroma_refusals (list_all (λ (d : Info). d.shape.bits == first.bits) infos) u v y in
    ap (λ b. chroma_refusals b (info_at plains 0).shape (info_at plains 1).shape (info_at plains 2).shape) bits
    ∙ ap (λ s. row s (info_at plains 1).shape (info_at plains 2).shape) (plain_at infos 0) ∙ ap (λ s. row (info_at infos 0).shape s (info_at plains 2).shape) (plain_at infos 1)
    ∙ ap (λ s. row (info_at infos 0).shape (info_at infos 1).shape s) (plain_at infos 2)

plain_shape : (op : JoinOp) (infos : List Info) → join_shape op (info_at (map plain infos) 0) (map plain infos) ≡ join_shape op (info_at infos 0) infos
plain_shape op.StackHorizontal infos =
    ap (λ s. sized s (sum_by (λ (d : Info). d.shape.width) (map plain infos)) s.height) (plain_at infos 0)
    ∙ ap (λ n. sized (info_at infos 0).shape n (info_at infos 0).shape.height) (plain_sum (λ s. s.width) infos)
plain_shape op.StackVertical infos =
    ap (λ s. sized s s.width (sum_by (λ (d : Info). d.shape.height) (map plain infos))) (plain_at infos 0)
    ∙ ap (λ n. sized (info_at infos 0).shape (info_at infos 0).shape.width n) (plain_sum (λ s. s.height) infos)
plain_shape op.Merge infos = plain_at infos 0
plain_shape op.MergeLuma infos = plain_at infos 0
plain_shape op.MergeChroma infos = plain_at infos 0
plain_shape op.YToUV infos =
    let made : Shape → Shape → Shape = λ u y. record { kind = unwrap_or (kind_of u y) Y8; bits = u.bits; width = y.width; height = y.height } in
    ap (λ s. made s (info_at (map plain infos) 2).shape) (plain_at infos 0) ∙ ap (made (info_at infos 0).shape) (plain_at infos 2)

plain_beside : (infos : List Info) (looks : List Look) (p x y : ℕ) → beside (map plain infos) looks p x y ≡ beside infos looks p x y
plain_beside [] looks p x y = refl
plain_beside (d ∷ ds) [] p x y = refl
plain_beside (d ∷ ds) (from ∷ looks) p x y =
    let width = plane_width d.shape p in ap (λ n. if nat_lt x width then from p x y else n) (plain_beside ds looks p (x - width) y)

plain_beneath : (infos : List Info) (looks : List Look) (p x y : ℕ) → beneath (map plain infos) looks p x y ≡ beneath infos looks p x y
plain_beneath [] looks p x y = refl
plain_beneath (d ∷ ds) [] p x y = refl
plain_beneath (d ∷ ds) (from ∷ looks) p x y =
    let height = plane_height d.shape p in ap (λ n. if nat_lt y height then from p x y else n) (plain_beneath ds looks p x (y - height))

plain_look : (op : JoinOp) (infos : List Info) (looks : List Look) (p x y : ℕ) → join_at op (map plain infos) looks p x y ≡ join_at op infos looks p x y
plain_look op.StackHorizontal infos looks p x y = plain_beside infos looks p x y
plain_look op.StackVertical infos looks p x y = plain_beneath infos looks p x y
plain_look op.Merge infos looks p x y = refl
plain_look op.MergeLuma infos looks p x y = refl
plain_look op.MergeChroma infos looks p x y = refl
plain_look op.YToUV infos looks p x y = refl

no_fault : (o : Option FilterFault) (rest : Result Info FilterFault) (info : Info) → unless o rest ≡ Ok info → o ≡ None
no_fault o rest info e = grind (arith, common_steps)

-- the shape of what is accepted is that of what is made
pub shape_accepted : (op : JoinOp) (infos : List Info) (info : Info) (pictures : List Picture) → check_join op infos ≡ Ok info → map (λ (q : Picture). q.shape) pictures ≡ map (λ (d : Info). d.shape) infos
    → shape_joined op pictures ≡ info.shape
shape_accepted op infos info pictures accepted same =
    let c = info_at infos 0 in
    let rest = (passed (join_refusals op c infos) (limits c (join_length op c infos) (rate_of c) (join_shape op c infos)) info accepted).1 in
    ap (λ l. join_shape op (info_at l 0) l) (shapes_alone pictures infos same) ∙ plain_shape op infos ∙ limits_shape c (join_length op c infos) (rate_of c) (join_shape op c infos) info rest

-- pictures of the shapes of clips that the check accepts can be joined
pub can_join : (op : JoinOp) (infos : List Info) (info : Info) (pictures : List Picture) → IsTrue (join_inputs op (length pictures)) → check_join op infos ≡ Ok info → IsLegal info.shape
    → map (λ (q : Picture). q.shape) pictures ≡ map (λ (d : Info). d.shape) infos → CanJoin op pictures
can_join op infos info pictures inputs accepted legal same =
    let c = info_at infos 0 in
    record {
      inputs = inputs;
      accepted =
          ap (λ l. first_fault (join_refusals op (info_at l 0) l)) (shapes_alone pictures infos same) ∙ ap first_fault (plain_refusals op infos)
          ∙ no_fault (first_fault (join_refusals op c infos)) (limits c (join_length op c infos) (rate_of c) (join_shape op c infos)) info accepted;
      legal = subst (λ (s : Shape). IsLegal s) (sym (shape_accepted op infos info pictures accepted same)) legal;
    }

-- what is made of them is what the definition makes, in each book and for each frame number
pub joined_is : (op : JoinOp) (infos : List Info) (info : Info) (pictures : List Picture) → check_join op infos ≡ Ok info → map (λ (q : Picture). q.shape) pictures ≡ map (λ (d : Info). d.shape) infos
    → (book : List (List Picture)) (n : ℕ) → join_picture op pictures ≡ make book (joined op) infos info n pictures
joined_is op infos info pictures accepted same book n =
    let looks = map look_in pictures in
    ap (λ (s : Shape). picture_from s (join_at op (infos_in pictures) looks)) (shape_accepted op infos info pictures accepted same)
    ∙ picture_same info.shape (join_at op (infos_in pictures) looks) (join_at op infos looks)
    (record { same = λ p x y i. ap (λ l. join_at op l looks p x y) (shapes_alone pictures infos same) ∙ plain_look op infos looks p x y })
