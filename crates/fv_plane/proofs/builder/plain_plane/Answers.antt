use Rattle.std.proofs.Common.{◌≡◌, ◌∙◌, ◌*◌, ◌==◌, ℕ, List, false, length, replicate, ap, sym, arith, if◌then◌else◌, inl, inr, ne_eqb}
use Rattle.std.proofs.lemmas.Result.{IfOk-weaker}
use Rattle.std.proofs.lemmas.List.{length-replicate}
use Rattle.std.proofs.lemmas.Bool.{eqb-false}
use Rattle.fv_plane.specs.Format.{plane_width, plane_height, row_bytes, scale}
use Rattle.fv_plane.specs.Picture.{bytes_of_row, row_of_bytes, decoded_rows, wide_bytes, AreWhole}
use Rattle.fv_plane.proofs.PictureLemmas.{bounded_row, scaled_small}
use Rattle.fv_plane.proofs.CallerLemmas.{bytes_of_wide}
use Rattle.fv_plane.proofs.FrameLemmas.{plane_small}
use Rattle.fv_plane.proofs.BytesLemmas.{plain_row-bytes, decoded-replicate, whole-replicate, bytes-row_of_bytes, row-bytes_of_row, length-bytes_of_row}
use Rattle.fv_plane.proofs.builder.plain_plane.Goals as goal
use Rattle.fv_plane.proofs.builder.plain_plane.Goals.{After-drop-row}

pub new-requires : goal.new-requires
new-requires c = rw (c.plane_height-height.ensures, c.row_bytes.ensures) (omega (arith, plane_small c.args.shape c.args.plane c.requires))

pub overflow_mul-value : goal.overflow_mul-value
overflow_mul-value c = record {
  fits = rw c.scale.ensures (omega (arith, scaled_small c.args.shape c.args.sample c.requires.depth (omega arith)));
}

pub returns-then-shape-eq8-clause-shown : goal.returns-then-shape-eq8-clause-shown
returns-then-shape-eq8-clause-shown c =
    let shape = c.args.shape in
    let w : ℕ = plane_width shape c.args.plane in
    let h : ℕ = plane_height shape c.args.plane in
    let none : (shape.bits == 8) ≡ false → c.args.sample ≡ 0 = λ wide. elim c.then-shape-eq8.either [ inl eight ↦ absurd (eqb-false shape.bits 8 wide eight) | inr both ↦ both.1 ] in
    IfOk-weaker c.new.result _ _
    (λ made is.
    ap (decoded_rows shape) (is ∙ ap (λ n. replicate n (replicate c.row_bytes.result c.args.sample)) c.plane_height-height.ensures ∙ ap (λ n. replicate h (replicate n c.args.sample)) c.row_bytes.ensures)
    ∙ decoded-replicate shape h (replicate (row_bytes shape c.args.plane) c.args.sample) (replicate w (c.args.sample * scale shape)) (plain_row-bytes shape w c.args.sample none))
    c.new.ensures

pub returns-then-shape-eq8-clause-whole : goal.returns-then-shape-eq8-clause-whole
returns-then-shape-eq8-clause-whole c =
    let shape = c.args.shape in
    let size : ℕ = row_bytes shape c.args.plane in
    let row : List ℕ = replicate c.row_bytes.result c.args.sample in
    let long : length row ≡ size = length-replicate c.row_bytes.result c.args.sample ∙ c.row_bytes.ensures in
    let whole : bytes_of_row shape (row_of_bytes shape row) ≡ row
    = bytes-row_of_bytes shape (plane_width shape c.args.plane) row long (λ k. omega (arith, bounded_row c.row_bytes.result c.args.sample k)) in
    IfOk-weaker c.new.result _ (λ made. AreWhole shape made) (λ made is. rw is (whole-replicate shape c.plane_height-height.result row whole)) c.new.ensures

-- the bytes of a row of one value
row_is : (c : After-drop-row) → c.as_slice.result.now ≡ bytes_of_row c.args.shape (replicate (plane_width c.args.shape c.args.plane) (c.args.sample * scale c.args.shape))
row_is c =
    let shape = c.args.shape in
    let wide : (shape.bits == 8) ≡ false = ne_eqb shape.bits 8 c.if-shape-eq8.false in
    c.as_slice.ensures.value ∙ c.in_ok-row.ensures ∙ ap (λ n. wide_bytes (replicate n (c.args.sample * c.scale.result))) c.plane_width.ensures
    ∙ ap (λ n. wide_bytes (replicate (plane_width shape c.args.plane) (c.args.sample * n))) c.scale.ensures
    ∙ sym (bytes_of_wide shape (replicate (plane_width shape c.args.plane) (c.args.sample * scale shape)) wide)

pub repeated-requires : goal.repeated-requires
repeated-requires c =
    let shape = c.args.shape in
    let w : ℕ = plane_width shape c.args.plane in
    let value : ℕ = c.args.sample * scale shape in
    let wide : (shape.bits == 8) ≡ false = ne_eqb shape.bits 8 c.if-shape-eq8.false in
    let row : c.as_slice.result.now ≡ bytes_of_row shape (replicate w value)
    = c.as_slice.ensures.value ∙ c.in_ok-row.ensures ∙ ap (λ n. wide_bytes (replicate n (c.args.sample * c.scale.result))) c.plane_width.ensures
    ∙ ap (λ n. wide_bytes (replicate w (c.args.sample * n))) c.scale.ensures ∙ sym (bytes_of_wide shape (replicate w value) wide) in
    let long : length c.as_slice.result.now ≡ row_bytes shape c.args.plane
    = ap length row ∙ length-bytes_of_row shape (replicate w value) ∙ ap (λ n. n * (if shape.bits == 8 then 1 else 2)) (length-replicate w value) in
    rw (c.plane_height-height.ensures, long) (omega (arith, plane_small shape c.args.plane c.requires))

pub returns-clause-shown : goal.returns-clause-shown
returns-clause-shown c =
    let shape = c.args.shape in
    let row : List ℕ = replicate (plane_width shape c.args.plane) (c.args.sample * scale shape) in
    IfOk-weaker c.repeated.result _ _
    (λ made is.
    ap (decoded_rows shape) (is ∙ ap (λ n. replicate n c.as_slice.result.now) c.plane_height-height.ensures)
    ∙ decoded-replicate shape (plane_height shape c.args.plane) c.as_slice.result.now row (ap (row_of_bytes shape) (row_is c) ∙ row-bytes_of_row shape row))
    c.repeated.ensures

pub returns-clause-whole : goal.returns-clause-whole
returns-clause-whole c =
    let shape = c.args.shape in
    let row : List ℕ = replicate (plane_width shape c.args.plane) (c.args.sample * scale shape) in
    let whole : bytes_of_row shape (row_of_bytes shape c.as_slice.result.now) ≡ c.as_slice.result.now
    = ap (λ (l : List ℕ). bytes_of_row shape (row_of_bytes shape l)) (row_is c) ∙ ap (bytes_of_row shape) (row-bytes_of_row shape row) ∙ sym (row_is c) in
    IfOk-weaker c.repeated.result _ (λ made. AreWhole shape made) (λ made is. rw is (whole-replicate shape c.plane_height-height.result c.as_slice.result.now whole)) c.repeated.ensures
