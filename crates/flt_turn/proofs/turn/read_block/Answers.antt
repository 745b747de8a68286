use Rattle.std.proofs.Common.{rules, ◌≡◌, ◌∙◌, ℕ, ◌+◌, ◌*◌, ◌-◌, ◌<◌, List, length, drop, get_or, ap, arith, refl}
use Rattle.std.proofs.lemmas.List.{length-take-le, length-drop}
use Rattle.std.proofs.lemmas.List.Edits.{get_or-between}
use Rattle.fv_plane.specs.Picture.{bytes_of_row, row_of}
use Rattle.fv_plane.specs.Format.{plane_height}
use Rattle.flt_turn.proofs.BlockLemmas.{block_more, length_part, length_written}
use Rattle.flt_turn.proofs.turn.read_block.Goals as goal

pub loop-i-preserved : goal.loop-i-preserved
loop-i-preserved g c =
    let input = c.args.input.now in
    let p = c.args.plane in
    let i : ℕ = c.loop-i.i in
    let from : ℕ = c.args.from in
    let row : List ℕ = c.row-row.result.now in
    let part : List ℕ = c.copy_16.new.out in
    let bytes : ℕ → List ℕ = λ z. bytes_of_row input.shape (row_of input.planes p z) in
    let at : ℕ → ℕ = λ j. g.T.Turn.row_of (plane_height input.shape p) (c.args.x + j) in
    let want : ℕ → ℕ → ℕ = λ k j. get_or (bytes (at j)) (from + k) 0 in
    let high : c.plane_height-height.result ≡ plane_height input.shape p = search rules in
    let line : c.row.result ≡ at i = c.row.ensures.value ∙ ap (λ h. g.T.Turn.row_of h (c.args.x + i)) high in
    let n : ℕ = 16 * i + 16 - 16 * i in
    let sixteen : n ≡ 16 = omega arith in
    let long : length part ≡ n = c.copy_16.auto.out ∙ length_part (16 * i) n c.loop-i.block (omega (arith, c.loop-i.invariant.0)) in
    let seen : (k : ℕ) → k < 16 → get_or part k 0 ≡ want k i = λ k less.
    ap (λ l. get_or l k 0) c.copy_16.ensures ∙ get_or-between row from (from + 16) k 0 (omega arith)
    ∙ ap (λ l. get_or l (from + k) 0) (c.row-row.ensures.row ∙ ap bytes line) in (
      length_written (16 * i) n c.loop-i.block part long (omega (arith, c.loop-i.invariant.0)) ∙ c.loop-i.invariant.0,
      block_more c.loop-i.block part want i (16 * i) n c.loop-i.invariant.0 (omega arith) refl sixteen long seen c.loop-i.invariant.1,
    )

pub row-row-requires-clause-inside : goal.row-row-requires-clause-inside
row-row-requires-clause-inside g c =
    let high : c.plane_height-height.result ≡ plane_height c.args.input.now.shape c.args.plane = search rules in
    omega (arith, high, c.row.ensures.inside)

pub row-requires : goal.row-requires
row-requires g c =
    let high : c.plane_height-height.result ≡ plane_height c.args.input.now.shape c.args.plane = search rules in
    omega (arith, high, c.requires.down, c.loop-i-test.true)

pub slice_bounds-copy_16-end : goal.slice_bounds-copy_16-end
slice_bounds-copy_16-end g c = omega (arith, c.row-row.ensures.whole, c.requires.across)

pub returns : goal.returns
returns g c = λ k i less few. c.loop-i.invariant.1 k i less (omega (arith, few, c.loop-i-test.false))

pub loop-i-init : goal.loop-i-init
loop-i-init g c = (search rules, λ k i less few. absurd (omega arith))

pub copy_16-requires-clause-samples : goal.copy_16-requires-clause-samples
copy_16-requires-clause-samples g c =
    let row : List ℕ = c.row-row.result.now in
    let taken = length-take-le (c.args.from + 16 - c.args.from) (drop c.args.from row) (omega (arith, length-drop c.args.from row, c.row-row.ensures.whole, c.requires.across)) in
    omega (arith, taken)

pub copy_16-requires-clause-out : goal.copy_16-requires-clause-out
copy_16-requires-clause-out g c =
    let part = length_part (16 * c.loop-i.i) (16 * c.loop-i.i + 16 - 16 * c.loop-i.i) c.loop-i.block (omega (arith, c.loop-i.invariant.0)) in
    omega (arith, part)
