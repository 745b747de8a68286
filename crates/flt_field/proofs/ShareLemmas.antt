-- Pictures that share all the bytes of an input.
use Rattle.std.proofs.Common.{◌≡◌, ℕ, List, map, get_or, sym, ap, ◌∙◌, ◌⊎◌, inl, inr, Result, Ok, Err}
use Rattle.std.specs.Prelude.{IfOk}
use Rattle.fv_plane.specs.declared.format.Field.{Field}
use Rattle.fv_plane.specs.Picture.{look_at, look_in, picture_from, Picture, IsPicture}
use Rattle.clip_term.specs.declared.field.FieldOp.{FieldOp}
use Rattle.clip_term.specs.declared.field.FieldOp.TheVariants as op
use Rattle.clip_term.proofs.ListedLemmas.{listed}
use Rattle.flt_field.specs.Made.{CanMake, field_picture, shape_of}
use Rattle.flt_field.proofs.RowLemmas.{first_is, look_of}

-- a picture that is shared is the listing of what it shows
pub listed_done : {E : Type 0} (one : Picture) (answer : Result Picture E) → IsPicture one → IfOk answer (λ made. made ≡ one) → IfOk answer (λ made. made ≡ picture_from one.shape (look_in one))
listed_done one (Ok made) is h = h ∙ sym (listed one is)
listed_done one (Err fault) is h = tt

-- what the first picture shows
first_shown : (o : FieldOp) (pictures : List Picture) (one : Picture) → CanMake o pictures → one ≡ get_or pictures 0 one → picture_from one.shape (look_in one) ≡ picture_from (shape_of pictures) (look_at (map look_in pictures) 0)
first_shown o pictures one can is =
    ap (λ (q : Picture). picture_from q.shape (look_in q)) (first_is o pictures one can is) ∙ ap (picture_from (shape_of pictures)) (sym (look_of pictures 0))

shared_is : (o : FieldOp) (field : Field) (n : ℕ) (pictures : List Picture) (one : Picture) → CanMake o pictures → one ≡ get_or pictures 0 one
    → (o ≡ op.AssumeTFF) ⊎ ((o ≡ op.AssumeBFF) ⊎ (o ≡ op.ComplementParity)) → picture_from one.shape (look_in one) ≡ field_picture o field n pictures
shared_is o field n pictures one can is which =
    let shown = first_shown o pictures one can is in
    elim which [
      | inl tff ↦ rw tff shown
      | inr rest ↦ elim rest [ inl bff ↦ rw bff shown | inr other ↦ rw other shown ]
    ]

pub shared_done : {E : Type 0} (o : FieldOp) (field : Field) (n : ℕ) (pictures : List Picture) (one : Picture) (answer : Result Picture E) → CanMake o pictures → one ≡ get_or pictures 0 one
    → (o ≡ op.AssumeTFF) ⊎ ((o ≡ op.AssumeBFF) ⊎ (o ≡ op.ComplementParity)) → IfOk answer (λ made. made ≡ picture_from one.shape (look_in one)) → IfOk answer (λ made. made ≡ field_picture o field n pictures)
shared_done o field n pictures one (Ok made) can is which h = h ∙ shared_is o field n pictures one can is which
shared_done o field n pictures one (Err fault) can is which h = tt
