-- Pictures that are written row by row: each row is a row of an input, and they are those that are listed.
use Rattle.std.proofs.Common.{◌≡◌, ℕ, ◌-◌, ◌*◌, ◌%◌, ◌^◌, ◌==◌, ◌<◌, ◌≤◌, List, [], ◌∷◌, length, map, get_or, None, refl, sym, ap, ◌∙◌, subst, arith, Bool, true, false, Result, Ok, Err}
use Rattle.std.specs.Prelude.{if◌then◌else◌, not, IfOk}
use Rattle.std.proofs.Math.ListN.{get_or-map}
use Rattle.std.proofs.lemmas.List.{get_or_read}
use Rattle.fv_plane.specs.declared.format.Field.{Field}
use Rattle.fv_plane.specs.declared.format.Shape.{Shape}
use Rattle.fv_plane.specs.Format.{HasFields, IsLegal, planes, plane_width, plane_height, sub_h}
use Rattle.fv_plane.specs.Picture.{Look, look_at, look_in, picture_from, row_from, Picture, IsPicture, row_of, with_row, bytes_of_row, row_of_bytes, FitBytes}
use Rattle.fv_plane.specs.Refusals.{first_fault}
use Rattle.fv_plane.proofs.BytesLemmas.{bytes_of_row-same}
use Rattle.fv_plane.proofs.CallerLemmas.{fit_row, length-row, row_again}
use Rattle.fv_plane.proofs.FillLemmas.{row_listed}
use Rattle.fv_plane.proofs.LookLemmas.{picture_same}
use Rattle.clip_term.specs.declared.fault.FilterFault.TheVariants.{NotWholeChroma}
use Rattle.clip_term.specs.declared.field.FieldOp.{FieldOp}
use Rattle.clip_term.specs.declared.field.FieldOp.TheVariants as op
use Rattle.clip_term.specs.Time.{field_at, field_numbers, field_refusals, field_shape, has_fields, is_even, is_top_first, same_bool, woven_from}
use Rattle.clip_term.specs.Refusals.{no_info}
use Rattle.clip_term.specs.Terms.{no_picture}
use Rattle.clip_term.proofs.FieldFacts.{half_line, other_line}
use Rattle.clip_term.proofs.PartLemmas.{down_ratio}
use Rattle.clip_term.proofs.PassedLemmas.{same_number}
use Rattle.flt_field.specs.Made.{CanMake, shape_of, shape_made, field_picture, picture_for, row_for, takes_memory}

-- INPUTS

-- a filter asks a picture
pub some_asked : (o : FieldOp) → 0 < length (field_numbers o 0)
some_asked op.SeparateFields = omega arith
some_asked op.Weave = omega arith
some_asked op.SwapFields = omega arith
some_asked op.AssumeTFF = omega arith
some_asked op.AssumeBFF = omega arith
some_asked op.ComplementParity = omega arith

some_picture : (o : FieldOp) (pictures : List Picture) → CanMake o pictures → 0 < length pictures
some_picture o pictures can = omega (arith, some_asked o, can.count)

-- the first input, as code reads it
pub first_is : (o : FieldOp) (pictures : List Picture) (one : Picture) → CanMake o pictures → one ≡ get_or pictures 0 one → one ≡ get_or pictures 0 no_picture
first_is o pictures one can is = get_or_read pictures 0 one (some_picture o pictures can) is no_picture

pub first_shape : (o : FieldOp) (pictures : List Picture) (one : Picture) (shape : Shape) → CanMake o pictures → one ≡ get_or pictures 0 one → shape ≡ one.shape → shape ≡ shape_of pictures
first_shape o pictures one shape can is same = same ∙ ap (λ (q : Picture). q.shape) (first_is o pictures one can is)

pub first_legal : (o : FieldOp) (pictures : List Picture) (one : Picture) → CanMake o pictures → one ≡ get_or pictures 0 one → IsPicture one → IsLegal (shape_of pictures)
first_legal o pictures one can is whole = subst (λ (q : Picture). IsLegal q.shape) (first_is o pictures one can is) whole.legal

-- what a picture among them shows
pub look_of : (pictures : List Picture) (i : ℕ) → look_at (map look_in pictures) i ≡ look_in (get_or pictures i no_picture)
look_of pictures i = get_or-map look_in pictures i no_picture

none_true : (t : Bool) → first_fault ((NotWholeChroma, not t) ∷ []) ≡ None → t ≡ true
none_true true e = refl
none_true false e = cc

-- a shape that isn't refused has fields
fields_by : (shape : Shape) → first_fault ((NotWholeChroma, not (has_fields shape)) ∷ []) ≡ None → HasFields shape
fields_by shape e = same_number (shape.height % (2 * sub_h shape.kind)) 0 (none_true (has_fields shape) e)

-- ROWS

one_of_two : (t : Bool) → (if t then 0 else 1) < 2
one_of_two true = omega arith
one_of_two false = omega arith

-- the input of a row is there
input_inside : (o : FieldOp) (field : Field) (y : ℕ) (pictures : List Picture) → takes_memory o ≡ true → CanMake o pictures → picture_for o field y < length pictures
input_inside op.Weave field y pictures written can = omega (arith, one_of_two (same_bool (is_even y) (is_top_first field)), can.count)
input_inside op.SwapFields field y pictures written can = omega (arith, can.count)
input_inside op.SeparateFields field y pictures written can = cc
input_inside op.AssumeTFF field y pictures written can = cc
input_inside op.AssumeBFF field y pictures written can = cc
input_inside op.ComplementParity field y pictures written can = cc

-- and so is the row
row_inside : (o : FieldOp) (y p : ℕ) (s : Shape) → takes_memory o ≡ true → first_fault (field_refusals o s) ≡ None → s.height % sub_h s.kind ≡ 0 → y < plane_height (field_shape o s) p → row_for o y < plane_height s p
row_inside op.Weave y p s written accepted whole h = half_line (p == 0) (down_ratio s.kind) y s.height whole h
row_inside op.SwapFields y p s written accepted whole h = other_line (p == 0) (down_ratio s.kind) y s.height (is_even y) refl (fields_by s accepted) h
row_inside op.SeparateFields y p s written accepted whole h = cc
row_inside op.AssumeTFF y p s written accepted whole h = h
row_inside op.AssumeBFF y p s written accepted whole h = h
row_inside op.ComplementParity y p s written accepted whole h = h

-- the bytes of a row of an input are those of the row that is put
moved : (q : Picture) (made : Shape) (p z : ℕ) (bytes : List ℕ) → q.shape.bits ≡ made.bits → bytes ≡ bytes_of_row q.shape (row_of q.planes p z) → bytes ≡ bytes_of_row made (row_of q.planes p z)
moved q made p z bytes same told = told ∙ bytes_of_row-same q.shape made (row_of q.planes p z) same

pub copied_fits : (q : Picture) (made : Shape) (p z : ℕ) (bytes : List ℕ) → IsPicture q → q.shape.bits ≡ made.bits → bytes ≡ bytes_of_row q.shape (row_of q.planes p z) → FitBytes made bytes
copied_fits q made p z bytes is same told =
    subst (λ (l : List ℕ). FitBytes made l) (sym (moved q made p z bytes same told))
    (fit_row made (row_of q.planes p z) (λ x. subst (λ (k : ℕ). get_or (row_of q.planes p z) x 0 ≤ 2 ^ k - 1) same (is.bounded p x z)))

pub copied_again : (q : Picture) (made : Shape) (p z : ℕ) (bytes : List ℕ) → q.shape.bits ≡ made.bits → bytes ≡ bytes_of_row q.shape (row_of q.planes p z) → row_of_bytes made bytes ≡ row_of q.planes p z
copied_again q made p z bytes same told = ap (row_of_bytes made) (moved q made p z bytes same told) ∙ row_again made (row_of q.planes p z)

pub put_as : (planes : List (List (List ℕ))) (p y : ℕ) {row other : List ℕ} → row ≡ other → with_row planes p y row ≡ with_row planes p y other
put_as planes p y same = ap (with_row planes p y) same

-- a picture that is written and isn't woven has the shape of the input
pub kept_shape : (o : FieldOp) (s t : Shape) → takes_memory o ≡ true → ¬ (o ≡ op.Weave) → s ≡ t → s ≡ field_shape o t
kept_shape op.Weave s t written other same = absurd (other refl)
kept_shape op.SwapFields s t written other same = same
kept_shape op.SeparateFields s t written other same = cc
kept_shape op.AssumeTFF s t written other same = same
kept_shape op.AssumeBFF s t written other same = same
kept_shape op.ComplementParity s t written other same = same

-- the shape that is made differs in height alone
made_like : (o : FieldOp) (s : Shape) → s ≡ record (field_shape o s) { height = s.height }
made_like op.SeparateFields s = refl
made_like op.Weave s = refl
made_like op.SwapFields s = refl
made_like op.AssumeTFF s = refl
made_like op.AssumeBFF s = refl
made_like op.ComplementParity s = refl

-- what stands in the rows that are written
abbrev pub rows_look : FieldOp → Field → List Picture → Look
rows_look o field pictures p x y = look_in (get_or pictures (picture_for o field y) no_picture) p x (row_for o y)

abbrev pub wanted : FieldOp → Field → List Picture → ℕ → ℕ → List ℕ
wanted o field pictures p y = row_from (rows_look o field pictures) p (plane_width (shape_made o pictures) p) y

-- it is what the definition says
rows_show : (o : FieldOp) (field : Field) (n : ℕ) (pictures : List Picture) (p x y : ℕ) → takes_memory o ≡ true
    → rows_look o field pictures p x y ≡ field_at o (record no_info { field = field }) n (map look_in pictures) p x y
rows_show op.Weave field n pictures p x y written = ap (λ (l : Look). l p x (row_for op.Weave y)) (sym (look_of pictures (woven_from field y)))
rows_show op.SwapFields field n pictures p x y written = ap (λ (l : Look). l p x (row_for op.SwapFields y)) (sym (look_of pictures 0))
rows_show op.SeparateFields field n pictures p x y written = cc
rows_show op.AssumeTFF field n pictures p x y written = cc
rows_show op.AssumeBFF field n pictures p x y written = cc
rows_show op.ComplementParity field n pictures p x y written = cc

rows_made : (o : FieldOp) (field : Field) (pictures : List Picture) → takes_memory o ≡ true → (n : ℕ) → picture_from (shape_made o pictures) (rows_look o field pictures) ≡ field_picture o field n pictures
rows_made o field pictures written n =
    picture_same (shape_made o pictures) (rows_look o field pictures) (field_at o (record no_info { field = field }) n (map look_in pictures))
    (record { same = λ p x y i. rows_show o field n pictures p x y written })

pub rows_done : {E : Type 0} (o : FieldOp) (field : Field) (pictures : List Picture) (answer : Result Picture E) → takes_memory o ≡ true → IfOk answer (λ made. made ≡ picture_from (shape_made o pictures) (rows_look o field pictures))
    → IfOk answer (λ made. (n : ℕ) → made ≡ field_picture o field n pictures)
rows_done o field pictures (Ok made) written h = λ n. h ∙ rows_made o field pictures written n
rows_done o field pictures (Err fault) written h = tt

-- what is known of a row of an input that is put
pub record RowKnown (o : FieldOp) (field : Field) (pictures : List Picture) (p y row : ℕ) (one : Picture) (made : Shape) : Type 0 where
  pub like : one.shape ≡ record made { height = one.shape.height }
  pub plane : p < planes one.shape.kind
  pub inside : row < plane_height one.shape p
  pub wanted : IsPicture one → row_of one.planes p row ≡ wanted o field pictures p y

pub row_known : (o : FieldOp) (field : Field) (pictures : List Picture) (p y from row : ℕ) (one : Picture) (made : Shape) → CanMake o pictures → takes_memory o ≡ true → IsLegal (shape_of pictures)
    → made ≡ shape_made o pictures → p < planes made.kind → y < plane_height made p → one ≡ get_or pictures from one → from ≡ picture_for o field y → row ≡ row_for o y → RowKnown o field pictures p y row one made
row_known o field pictures p y from row one made can written legal same there inside is from_is row_is =
    let s = shape_of pictures in
    let held : from < length pictures = omega (arith, from_is, input_inside o field y pictures written can) in
    let read = get_or_read pictures from one held is no_picture in
    let one_is : one ≡ get_or pictures (picture_for o field y) no_picture = read ∙ ap (λ i. get_or pictures i no_picture) from_is in
    let shape : one.shape ≡ s = ap (λ (q : Picture). q.shape) read ∙ can.alike from no_picture held in
    let like : one.shape ≡ record made { height = one.shape.height }
    = shape ∙ made_like o s ∙ ap (λ (t : Shape). record t { height = s.height }) (sym same) ∙ ap (λ (t : Shape). record made { height = t.height }) (sym shape) in
    let plane : p < planes one.shape.kind = omega (arith, there, ap (λ (t : Shape). planes t.kind) like) in
    let low : row < plane_height one.shape p
    = omega (arith, row_is, ap (λ (t : Shape). plane_height t p) shape, row_inside o y p s written can.accepted legal.whole_height (subst (λ (t : Shape). y < plane_height t p) same inside)) in
    record {
      like = like;
      plane = plane;
      inside = low;
      wanted = λ whole. row_listed (row_of one.planes p row) (rows_look o field pictures) p (plane_width (shape_made o pictures) p) y
          (length-row one p row whole plane low ∙ ap (λ (t : Shape). plane_width t p) like ∙ ap (λ (t : Shape). plane_width t p) same)
          (λ x within. ap (λ (q : Picture). look_in q p x row) one_is ∙ ap (λ k. look_in (get_or pictures (picture_for o field y) no_picture) p x k) row_is);
    }
