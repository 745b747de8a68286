-- What other crates may cite: a caller who holds an accepted check and the frames that are asked can make the picture, and
-- what is made is the definition's.
use Rattle.std.proofs.Common.{◌≡◌, ℕ, List, [], ◌∷◌, length, map, refl, sym, ◌∙◌, ap, subst, arith, Option, Some, None, Result, Ok}
use Rattle.std.specs.List.{All}
use Rattle.std.proofs.lemmas.List.{length-map}
use Rattle.std.proofs.lemmas.List.Elements.{All-nil, All-cons}
use Rattle.fv_plane.specs.declared.format.Info.{Info}
use Rattle.fv_plane.specs.declared.format.Shape.{Shape}
use Rattle.fv_plane.specs.Format.{IsLegal}
use Rattle.fv_plane.specs.Picture.{Look, look_in, picture_from, Picture}
use Rattle.fv_plane.specs.Refusals.{first_fault}
use Rattle.fv_plane.proofs.LookLemmas.{picture_same}
use Rattle.clip_term.specs.declared.fault.FilterFault.{FilterFault}
use Rattle.clip_term.specs.declared.field.FieldOp.{FieldOp}
use Rattle.clip_term.specs.declared.field.FieldOp.TheVariants as op
use Rattle.clip_term.specs.declared.op.Origin.{Origin}
use Rattle.clip_term.specs.Time.{check_field, field_asked, field_at, field_length, field_numbers, field_order, field_rate, field_refusals, field_shape, from_input, in_range}
use Rattle.clip_term.specs.Terms.{fields, make, no_picture}
use Rattle.clip_term.specs.Refusals.{info_at, limits, no_info, unless}
use Rattle.clip_term.proofs.PassedLemmas.{passed, limits_shape}
use Rattle.flt_field.specs.Made.{CanMake, field_picture, shape_of, shape_made}
use Rattle.flt_field.proofs.RowLemmas.{some_asked}

no_fault : (fault : Option FilterFault) (rest : Result Info FilterFault) (info : Info) → unless fault rest ≡ Ok info → fault ≡ None
no_fault (Some fault) rest info e = cc
no_fault None rest info e = refl

-- of the clip's info the order of fields alone counts
order_alone : (o : FieldOp) (c : Info) (n : ℕ) (looks : List Look) (p x y : ℕ) → field_at o (record no_info { field = c.field }) n looks p x y ≡ field_at o c n looks p x y
order_alone op.SeparateFields c n looks p x y = refl
order_alone op.Weave c n looks p x y = refl
order_alone op.SwapFields c n looks p x y = refl
order_alone op.AssumeTFF c n looks p x y = refl
order_alone op.AssumeBFF c n looks p x y = refl
order_alone op.ComplementParity c n looks p x y = refl

-- a filter asks as many frames for each number
as_many : (o : FieldOp) (n : ℕ) → length (field_numbers o n) ≡ length (field_numbers o 0)
as_many op.SeparateFields n = refl
as_many op.Weave n = refl
as_many op.SwapFields n = refl
as_many op.AssumeTFF n = refl
as_many op.AssumeBFF n = refl
as_many op.ComplementParity n = refl

-- pictures of the shapes of the clips of the frames that are asked
abbrev AreOfShapes : List Info → List Origin → List Picture → Type 0
AreOfShapes infos asked pictures = map (λ (q : Picture). q.shape) pictures ≡ map (λ (o : Origin). (info_at infos o.input).shape) asked

-- frames of the first clip have its shape
alike : (infos : List Info) (ks : List ℕ) (pictures : List Picture) → AreOfShapes infos (map (λ k. in_range infos (from_input 0 k)) ks) pictures → All (λ (q : Picture). q.shape ≡ (info_at infos 0).shape) pictures
alike infos [] [] same = All-nil (λ (q : Picture). q.shape ≡ (info_at infos 0).shape)
alike infos [] (q ∷ qs) same = absurd (let none : ⊥ = cc in none)
alike infos (k ∷ ks) [] same = absurd (let none : ⊥ = cc in none)
alike infos (k ∷ ks) (q ∷ qs) same =
    let here : q.shape ≡ (info_at infos 0).shape = cc in
    let rest : AreOfShapes infos (map (λ k. in_range infos (from_input 0 k)) ks) qs = cc in
    All-cons (λ (q : Picture). q.shape ≡ (info_at infos 0).shape) q qs here (alike infos ks qs rest)

module _ (o : FieldOp) (infos : List Info) (info : Info) (n : ℕ) (pictures : List Picture) (told : check_field o infos ≡ Ok info)
    (shapes : map (λ (q : Picture). q.shape) pictures ≡ map (λ (a : Origin). (info_at infos a.input).shape) (field_asked o infos n)) where
  count : length pictures ≡ length (field_numbers o 0)
  count =
      sym (length-map pictures (λ (q : Picture). q.shape)) ∙ ap length shapes ∙ length-map (field_asked o infos n) (λ (a : Origin). (info_at infos a.input).shape)
      ∙ length-map (field_numbers o n) (λ k. in_range infos (from_input 0 k)) ∙ as_many o n

  are : All (λ (q : Picture). q.shape ≡ (info_at infos 0).shape) pictures
  are = alike infos (field_numbers o n) pictures shapes

  first : shape_of pictures ≡ (info_at infos 0).shape
  first = are 0 no_picture (omega (arith, count, some_asked o))

  -- the shape of what is accepted is that of what is made
  pub shape_accepted : shape_made o pictures ≡ info.shape
  shape_accepted =
      let c = info_at infos 0 in
      let d : Info = record c { field = field_order o c.field } in
      let rest = (passed (field_refusals o c.shape) (limits d (field_length o c.frames) (field_rate o c) (field_shape o c.shape)) info told).1 in
      ap (field_shape o) first ∙ limits_shape d (field_length o c.frames) (field_rate o c) (field_shape o c.shape) info rest

  -- pictures for the frames that are asked can be made into a picture, where the check accepts the clip
  pub can_make_field : IsLegal info.shape → CanMake o pictures
  can_make_field legal =
      let c = info_at infos 0 in
      let rest = limits (record c { field = field_order o c.field }) (field_length o c.frames) (field_rate o c) (field_shape o c.shape) in
      record {
        count = count;
        alike = subst (λ (s : Shape). All (λ (q : Picture). q.shape ≡ s) pictures) (sym first) are;
        accepted = ap (λ s. first_fault (field_refusals o s)) first ∙ no_fault (first_fault (field_refusals o c.shape)) rest info told;
        legal = subst (λ (s : Shape). IsLegal s) (sym shape_accepted) legal;
      }

  -- what is made of them is what the definition makes, in each book
  pub field_is : (book : List (List Picture)) → field_picture o (info_at infos 0).field n pictures ≡ make book (fields o) infos info n pictures
  field_is book =
      let looks = map look_in pictures in
      let field = (info_at infos 0).field in
      ap (λ (s : Shape). picture_from s (field_at o (record no_info { field = field }) n looks)) shape_accepted
      ∙ picture_same info.shape (field_at o (record no_info { field = field }) n looks) (field_at o (info_at infos 0) n looks) (record { same = λ p x y i. order_alone o (info_at infos 0) n looks p x y })
