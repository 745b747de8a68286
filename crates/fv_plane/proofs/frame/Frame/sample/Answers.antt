use Rattle.std.proofs.Common.{◌≡◌, ◌∙◌, ◌+◌, ◌*◌, ◌/◌, ◌%◌, ◌==◌, ℕ, List, false, get_or, ap, sym, arith, ne_eqb}
use Rattle.fv_plane.specs.Picture.{Picture, row_of, wide_bytes}
use Rattle.fv_plane.proofs.WideLemmas.{wide_bytes-at}
use Rattle.fv_plane.proofs.CallerLemmas.{bytes_of_wide, bytes_of_narrow}
use Rattle.fv_plane.proofs.frame.Frame.sample.Goals as goal

pub returns-then-self-eq8 : goal.returns-then-self-eq8
returns-then-self-eq8 c =
    let shape = c.args.self.now.shape in
    let row : List ℕ = row_of c.args.self.now.planes c.args.plane c.args.y in
    let eight : shape.bits ≡ 8 = ap (λ (v : Picture). v.shape.bits) (sym c.self.view_is) ∙ c.if-self-eq8.true in
    ap (λ (l : List ℕ). get_or l c.args.x 0) (c.row-row.ensures.row ∙ bytes_of_narrow shape row eight)

pub returns : goal.returns
returns c =
    let shape = c.args.self.now.shape in
    let x : ℕ = c.args.x in
    let row : List ℕ = row_of c.args.self.now.planes c.args.plane c.args.y in
    let same = ap (λ (v : Picture). v.shape.bits) c.self.view_is in
    let wide : (shape.bits == 8) ≡ false = ne_eqb shape.bits 8 (λ eight. c.if-self-eq8.false (same ∙ eight)) in
    let bytes : c.row-row.result.now ≡ wide_bytes row = c.row-row.ensures.row ∙ bytes_of_wide shape row wide in
    let at = wide_bytes-at row x in
    let low : get_or c.row-row.result.now (2 * x) 0 ≡ get_or row x 0 % 256 = ap (λ (l : List ℕ). get_or l (2 * x) 0) bytes ∙ at.0 in
    let high : get_or c.row-row.result.now (2 * x + 1) 0 ≡ get_or row x 0 / 256 = ap (λ (l : List ℕ). get_or l (2 * x + 1) 0) bytes ∙ at.1 in
    omega (arith, c.wide_sample.ensures, low, high)
