use Rattle.std.proofs.Common.{rules, ◌≡◌, ◌∙◌, ℕ, ◌+◌, ◌*◌, ◌-◌, ◌<◌, ◌++◌, List, length, take, drop, get_or, ap, arith, refl, inl, inr}
use Rattle.std.proofs.lemmas.Bool.{cases_lt}
use Rattle.std.proofs.lemmas.List.{get_or_append_left, get_or-append_right}
use Rattle.std.proofs.lemmas.List.Edits.{get_or-between}
use Rattle.fv_plane.specs.Format.{plane_height}
use Rattle.fv_plane.specs.Picture.{bytes_of_row, row_of}
use Rattle.fv_plane.proofs.CallerLemmas.{bytes_of_wide, is_wide}
use Rattle.flt_turn.proofs.BlockLemmas.{block_more, length_part, length_written}
use Rattle.flt_turn.proofs.TurnLemmas.{wide_value}
use Rattle.flt_turn.proofs.turn.read_wide_block.Goals as goal

pub loop-i-preserved : goal.loop-i-preserved
loop-i-preserved g c =
    let input = c.args.input.now in
    let i : ℕ = c.loop-i.i in
    let column : ℕ = c.args.column in
    let bytes : ℕ → List ℕ = λ j. bytes_of_row input.shape (row_of input.planes c.args.plane (g.T.Turn.row_of (plane_height input.shape c.args.plane) (c.args.x + j))) in
    let n : ℕ = 16 * i + 16 - 16 * i in
    let sixteen : n ≡ 16 = omega arith in
    let front : List ℕ = c.read_block.new.block in
    let back : List ℕ = c.read_block-2.new.block in
    let first : List ℕ = take n (drop (16 * i) front) in
    let last : List ℕ = take n (drop (16 * i) back) in
    let whole : length front ≡ 256 = search rules in
    let long : length first ≡ 16 = omega (arith, length_part (16 * i) n front (omega (arith, whole))) in
    let even_whole : length c.unweave.new.even ≡ n = omega (arith, c.unweave.ensures.even_whole) in
    let odd_whole : length c.unweave.new.odd ≡ n = omega (arith, c.unweave.ensures.odd_whole) in
    let seen : (m z : ℕ) → m < 32 → 2 * column + m ≡ z → get_or (first ++ last) m 0 ≡ get_or (bytes i) z 0 = λ m z less place.
    elim (cases_lt m 16) [
      | inl there ↦ get_or_append_left first last 0 m (omega (arith, long)) ∙ get_or-between front (16 * i) (16 * i + 16) m 0 (omega arith)
          ∙ c.read_block.ensures m i there c.loop-i-test.true ∙ ap (λ q. get_or (bytes i) q 0) place
      | inr past ↦ get_or-append_right first last 16 m 0 long past ∙ get_or-between back (16 * i) (16 * i + 16) (m - 16) 0 (omega arith)
          ∙ c.read_block-2.ensures (m - 16) i (omega arith) c.loop-i-test.true ∙ ap (λ q. get_or (bytes i) q 0) (omega (arith, place))
    ] in
    let even : (m : ℕ) → m < 16 → get_or c.unweave.new.even m 0 ≡ get_or (bytes i) (2 * (column + m)) 0 = λ m less.
    c.unweave.ensures.even m less ∙ seen (2 * m) (2 * (column + m)) (omega arith) (omega arith) in
    let odd : (m : ℕ) → m < 16 → get_or c.unweave.new.odd m 0 ≡ get_or (bytes i) (2 * (column + m) + 1) 0 = λ m less.
    c.unweave.ensures.odd m less ∙ seen (2 * m + 1) (2 * (column + m) + 1) (omega arith) (omega arith) in
    record {
      low_long = length_written (16 * i) n c.loop-i.low c.unweave.new.even even_whole (omega (arith, c.loop-i.invariant.low_long)) ∙ c.loop-i.invariant.low_long;
      high_long = length_written (16 * i) n c.loop-i.high c.unweave.new.odd odd_whole (omega (arith, c.loop-i.invariant.high_long)) ∙ c.loop-i.invariant.high_long;
      low = block_more c.loop-i.low c.unweave.new.even (λ k j. get_or (bytes j) (2 * (column + k)) 0) i (16 * i) n
          c.loop-i.invariant.low_long c.loop-i-test.true refl sixteen even_whole even c.loop-i.invariant.low;
      high = block_more c.loop-i.high c.unweave.new.odd (λ k j. get_or (bytes j) (2 * (column + k) + 1) 0) i (16 * i) n
          c.loop-i.invariant.high_long c.loop-i-test.true refl sixteen odd_whole odd c.loop-i.invariant.high;
    }

pub returns : goal.returns
returns g c = λ k i less few.
    let input = c.args.input.now in
    let row : List ℕ = row_of input.planes c.args.plane (g.T.Turn.row_of (plane_height input.shape c.args.plane) (c.args.x + i)) in
    let sixteen : i < c.loop-i.i = omega (arith, few, c.loop-i-test.false) in
    let value = wide_value row (bytes_of_row input.shape row) (c.args.column + k) (bytes_of_wide input.shape row (is_wide input.shape c.requires.wide)) in
    rw (c.loop-i.invariant.low k i less sixteen, c.loop-i.invariant.high k i less sixteen) value
