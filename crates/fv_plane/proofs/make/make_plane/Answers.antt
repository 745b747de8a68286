use Rattle.std.proofs.Common.{◌≡◌, ◌∙◌, ◌*◌, ℕ, List, length, ap, sym, subst, arith}
use Rattle.std.proofs.lemmas.Result.{IfOk-weaker}
use Rattle.std.specs.Arc.{arc_value}
use Rattle.fv_rows.specs.Rows.{rows_of}
use Rattle.fv_plane.specs.declared.format.Shape.{Shape}
use Rattle.fv_plane.specs.Picture.{decoded_rows, AreWhole, bytes_of_rows, Look, plane_from, Picture}
use Rattle.fv_plane.specs.Format.{plane_width, plane_height, row_bytes}
use Rattle.fv_plane.specs.Made.{IsPlaneOf}
use Rattle.fv_plane.proofs.BytesLemmas.{whole-same}
use Rattle.fv_plane.proofs.MadeLemmas.{kept_listed, length-made, made_listed, made_whole}
use Rattle.fv_plane.proofs.make.make_plane.Goals as goal

pub returns-in-Some-clause-shown : goal.returns-in-Some-clause-shown
returns-in-Some-clause-shown g c =
    let shape : Shape = c.args.shape in
    let at : Look = g.M.RowMaker.look_made c.args.maker.now in
    let picture : Picture = c.in-Some.frame.now in
    let is : IsPlaneOf shape at c.args.plane picture c.in-Some.of = subst (λ (s : Shape). IsPlaneOf s at c.args.plane picture c.in-Some.of) (sym c.requires.shape) c.in-Some.ensures in
    IfOk-weaker c.share.result _ _
    (λ made same. ap (decoded_rows shape) same
    ∙ kept_listed shape at c.args.plane picture c.in-Some.of c.plane.result.now c.plane.ensures.sizes c.requires.plane is c.plane.ensures.rows)
    c.share.ensures

pub returns-in-Some-clause-whole : goal.returns-in-Some-clause-whole
returns-in-Some-clause-whole g c =
    let shape : Shape = c.args.shape in
    let at : Look = g.M.RowMaker.look_made c.args.maker.now in
    let picture : Picture = c.in-Some.frame.now in
    let is : IsPlaneOf shape at c.args.plane picture c.in-Some.of = subst (λ (s : Shape). IsPlaneOf s at c.args.plane picture c.in-Some.of) (sym c.requires.shape) c.in-Some.ensures in
    let whole : AreWhole shape c.plane.result.now = whole-same picture.shape shape c.plane.result.now (sym is.same.bits) c.plane.ensures.whole in
    IfOk-weaker c.share.result _ _ (λ made same. subst (λ (l : List (List ℕ)). AreWhole shape l) (sym same) whole) c.share.ensures

pub new-requires-2 : goal.new-requires-2
new-requires-2 g c =
    let at : Look = g.M.RowMaker.look_made c.args.maker.now in
    let put : c.append_rows.new.bytes.items ≡ bytes_of_rows c.args.shape (plane_from at c.args.plane (plane_width c.args.shape c.args.plane) (plane_height c.args.shape c.args.plane)) = c.in_ok-append_rows.ensures.rows in
    let bytes : length (arc_value c.in_ok-new.field-0).items ≡ plane_height c.args.shape c.args.plane * row_bytes c.args.shape c.args.plane
    = ap (λ v. length v.items) c.in_ok-new.ensures.ok ∙ length-made c.args.shape at c.args.plane c.append_rows.new.bytes.items put in
    rw (c.plane_height-height.ensures, c.row_bytes-width.ensures) (omega (arith, bytes))

pub returns-clause-shown : goal.returns-clause-shown
returns-clause-shown g c =
    let shape : Shape = c.args.shape in
    let at : Look = g.M.RowMaker.look_made c.args.maker.now in
    let p : ℕ = c.args.plane in
    let put : c.append_rows.new.bytes.items ≡ bytes_of_rows shape (plane_from at p (plane_width shape p) (plane_height shape p)) = c.in_ok-append_rows.ensures.rows in
    let rows : c.new-2.result ≡ rows_of c.append_rows.new.bytes.items (row_bytes shape p) (row_bytes shape p) (plane_height shape p)
    = c.new-2.ensures ∙ ap (λ v. rows_of v.items c.row_bytes-width.result c.row_bytes-width.result c.plane_height-height.result) c.in_ok-new.ensures.ok
    ∙ ap (λ w. rows_of c.append_rows.new.bytes.items w w c.plane_height-height.result) c.row_bytes-width.ensures
    ∙ ap (λ h. rows_of c.append_rows.new.bytes.items (row_bytes shape p) (row_bytes shape p) h) c.plane_height-height.ensures in
    ap (decoded_rows shape) rows ∙ made_listed shape at p c.append_rows.new.bytes.items put c.requires.plane

pub returns-clause-whole : goal.returns-clause-whole
returns-clause-whole g c =
    let shape : Shape = c.args.shape in
    let at : Look = g.M.RowMaker.look_made c.args.maker.now in
    let p : ℕ = c.args.plane in
    let put : c.append_rows.new.bytes.items ≡ bytes_of_rows shape (plane_from at p (plane_width shape p) (plane_height shape p)) = c.in_ok-append_rows.ensures.rows in
    let rows : c.new-2.result ≡ rows_of c.append_rows.new.bytes.items (row_bytes shape p) (row_bytes shape p) (plane_height shape p)
    = c.new-2.ensures ∙ ap (λ v. rows_of v.items c.row_bytes-width.result c.row_bytes-width.result c.plane_height-height.result) c.in_ok-new.ensures.ok
    ∙ ap (λ w. rows_of c.append_rows.new.bytes.items w w c.plane_height-height.result) c.row_bytes-width.ensures
    ∙ ap (λ h. rows_of c.append_rows.new.bytes.items (row_bytes shape p) (row_bytes shape p) h) c.plane_height-height.ensures in
    subst (λ (l : List (List ℕ)). AreWhole shape l) (sym rows) (made_whole shape at p c.append_rows.new.bytes.items put)
