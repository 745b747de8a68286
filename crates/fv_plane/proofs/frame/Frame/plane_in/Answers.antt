use Rattle.std.proofs.Common.{rules, refl, ◌≡◌, ◌+◌, ◌≤◌, ◌*◌, ◌∙◌, ℕ, List, [], get_or, ap, arith}
use Rattle.std.proofs.lemmas.Nat.{mul-le}
use Rattle.std.proofs.lemmas.Result.{IfOk-weaker}
use Rattle.fv_plane.specs.Format.{row_bytes, plane_width, plane_height, sample_bytes, window_shape}
use Rattle.fv_rows.specs.Rows.{IsPlane, rows_part, width_of}
use Rattle.fv_plane.specs.Picture.{decoded_rows, AreWhole, across, down, picture_in}
use Rattle.fv_plane.proofs.CallerLemmas.{some_rows}
use Rattle.fv_plane.proofs.FrameLemmas.{stored_plane}
use Rattle.fv_plane.proofs.WindowLemmas.{inside_across, inside_down, part-shown, part_listed, whole-part_of_rows}
use Rattle.fv_rows.proofs.RowLemmas.{times_add}
use Rattle.fv_plane.proofs.frame.Frame.plane_in.Goals as goal
use Rattle.fv_plane.proofs.frame.Frame.plane_in.Goals.{After-plane}

times_across : (x w width s : ℕ) → x + w ≤ width → x * s + w * s ≤ width * s
times_across x w width s inside = omega (arith, mul-le (x + w) s width s inside (omega arith), times_add x w s)

sized : (c : After-plane) → IsPlane (row_bytes c.args.self.now.shape c.args.plane) (plane_height c.args.self.now.shape c.args.plane) c.plane.result.now
sized c = stored_plane c.args.self.now.shape c.args.self.now.planes c.args.plane c.plane.result.now c.plane.ensures.sizes c.requires.plane c.plane.ensures.rows c.plane.ensures.whole

pub window-requires-clause-across : goal.window-requires-clause-across
window-requires-clause-across c =
    let shape = c.args.self.now.shape in
    let wide : width_of c.plane.result.now ≡ row_bytes shape c.args.plane = (let sizes = sized (goal.at.window-requires-clause-across c).After-plane in sizes.widths 0 (some_rows shape c.args.plane c.plane.ensures.sizes.legal)) in
    let one : c.sample_bytes-sample_bytes.result ≡ sample_bytes shape = search rules in
    let x : c.window_on-part.result.x ≡ across shape c.args.plane c.args.window.x = search rules in
    let w : c.window_on-part.result.width ≡ plane_width (window_shape shape c.args.window) c.args.plane = search rules in
    rw (one, x, w, wide) (times_across _ _ _ (sample_bytes shape) (inside_across shape c.args.window c.requires.window c.args.plane))

pub window-requires-clause-down : goal.window-requires-clause-down
window-requires-clause-down c =
    let shape = c.args.self.now.shape in
    let sizes = sized (goal.at.window-requires-clause-down c).After-plane in
    let y : c.window_on-part.result.y ≡ down shape c.args.plane c.args.window.y = search rules in
    let h : c.window_on-part.result.height ≡ plane_height (window_shape shape c.args.window) c.args.plane = search rules in
    rw (y, h, sizes.count) (inside_down shape c.args.window c.requires.window c.args.plane)

pub returns-clause-shown : goal.returns-clause-shown
returns-clause-shown c =
    let picture = c.args.self.now in
    let shape = picture.shape in
    let made = window_shape shape c.args.window in
    let p : ℕ = c.args.plane in
    let stored : List (List ℕ) = c.plane.result.now in
    let one : c.sample_bytes-sample_bytes.result ≡ sample_bytes shape = search rules in
    let x : c.window_on-part.result.x ≡ across shape p c.args.window.x = search rules in
    let y : c.window_on-part.result.y ≡ down shape p c.args.window.y = search rules in
    let w : c.window_on-part.result.width ≡ plane_width made p = search rules in
    let h : c.window_on-part.result.height ≡ plane_height made p = search rules in
    let part : rows_part stored (c.window_on-part.result.x * c.sample_bytes-sample_bytes.result) c.window_on-part.result.y (c.window_on-part.result.width * c.sample_bytes-sample_bytes.result) c.window_on-part.result.height
    ≡ rows_part stored (across shape p c.args.window.x * sample_bytes shape) (down shape p c.args.window.y) (plane_width made p * sample_bytes shape) (plane_height made p) = cc in
    IfOk-weaker c.window.result
    (λ rows. rows ≡ rows_part stored (c.window_on-part.result.x * c.sample_bytes-sample_bytes.result) c.window_on-part.result.y (c.window_on-part.result.width * c.sample_bytes-sample_bytes.result) c.window_on-part.result.height)
    (λ rows. decoded_rows made rows ≡ get_or (picture_in picture c.args.window).planes p [])
    (λ rows is.
    ap (decoded_rows made) (is ∙ part)
    ∙ part-shown shape made stored (get_or picture.planes p []) (across shape p c.args.window.x) (down shape p c.args.window.y) (plane_width made p) (plane_height made p) refl c.plane.ensures.rows
    ∙ part_listed picture c.args.window p c.plane.ensures.sizes c.requires.window c.requires.plane)
    c.window.ensures

pub returns-clause-whole : goal.returns-clause-whole
returns-clause-whole c =
    let shape = c.args.self.now.shape in
    let stored : List (List ℕ) = c.plane.result.now in
    let one : c.sample_bytes-sample_bytes.result ≡ sample_bytes shape = search rules in
    IfOk-weaker c.window.result
    (λ rows. rows ≡ rows_part stored (c.window_on-part.result.x * c.sample_bytes-sample_bytes.result) c.window_on-part.result.y (c.window_on-part.result.width * c.sample_bytes-sample_bytes.result) c.window_on-part.result.height)
    (λ rows. AreWhole shape rows)
    (λ rows is.
    rw (is, one) (whole-part_of_rows shape stored c.window_on-part.result.x c.window_on-part.result.y c.window_on-part.result.width c.window_on-part.result.height c.plane.ensures.whole))
    c.window.ensures
