use Rattle.std.proofs.Common.{rules, ◌≡◌, ◌*◌, ◌≤◌, ◌+◌, List, ℕ, length, drop, sym, subst, arith}
use Rattle.std.proofs.lemmas.List.{length-drop, get_or-drop}
use Rattle.std.specs.Arc.{arc_value}
use Rattle.fv_plane.specs.Format.{plane_width, plane_height, row_bytes}
use Rattle.fv_rows.specs.Rows.{rows_of}
use Rattle.fv_plane.specs.Picture.{AreWhole}
use Rattle.fv_plane.proofs.BytesLemmas.{whole_rows}
use Rattle.fv_plane.proofs.frame.plane_at.Goals as goal

pub returns-clause-whole : goal.returns-clause-whole
returns-clause-whole c =
    let shape = c.args.shape in
    let bytes : List ℕ = drop c.args.offset (arc_value c.args.bytes.now).items in
    let h : ℕ = plane_height shape c.args.plane in
    let w : ℕ = row_bytes shape c.args.plane in
    let is : c.new.result ≡ rows_of bytes w w h = search rules in
    let long : h * w ≤ length bytes = rw length-drop (omega (arith, c.requires.inside)) in
    subst (λ rows. AreWhole shape rows) (sym is) (whole_rows shape bytes (plane_width shape c.args.plane) h long (λ k. rw get_or-drop (c.requires.bytes (c.args.offset + k))))
