use Rattle.std.proofs.Common.{rules, ◌≡◌, ◌∙◌, ◌+◌, ◌*◌, ℕ, List, length, get_or, ap, sym}
use Rattle.fv_plane.specs.declared.format.Shape.{Shape}
use Rattle.fv_plane.specs.Format.{plane_height, sample_bytes}
use Rattle.fv_plane.specs.Picture.{row_of_bytes}
use Rattle.flt_turn.proofs.TurnLemmas.{whole_put}
use Rattle.flt_turn.proofs.turn.turned_rows.Goals as goal

pub returns-clause-long : goal.returns-clause-long
returns-clause-long g c =
    let put = whole_put c.turn_rows.new.out c.in_ok-rows.rows.items c.in_ok-rows.rows.len (search rules) in
    let size : length c.turn_rows.new.out ≡ c.size_of-size.result = search rules in
    ap length put ∙ size ∙ c.size_of-size.ensures ∙ ap (λ n. c.args.count * (n * sample_bytes c.shape-shape.result)) c.plane_height.ensures
    ∙ ap (λ (s : Shape). c.args.count * (plane_height s c.args.plane * sample_bytes s)) c.shape-shape.ensures.shape

pub returns-clause-rows : goal.returns-clause-rows
returns-clause-rows g c = λ k x few within.
    let input = c.args.input.now in
    let place : ℕ = k * plane_height input.shape c.args.plane + x in
    let put = whole_put c.turn_rows.new.out c.in_ok-rows.rows.items c.in_ok-rows.rows.len (search rules) in
    ap (λ (l : List ℕ). get_or (row_of_bytes input.shape l) place 0) put
    ∙ c.turn_rows.ensures.rows k x few within ∙ sym (c.requires.turns c.args.plane x (c.args.y + k))
