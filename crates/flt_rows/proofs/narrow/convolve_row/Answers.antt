use Rattle.std.proofs.Common.{ℕ, ◌-◌, ◌<◌, ◌≤◌, ◌+◌, ◌∙◌, List, length, arith}
use Rattle.flt_rows.specs.Squares.{shown, weighed_around}
use Rattle.flt_rows.proofs.NarrowLemmas.{around_at}
use Rattle.flt_rows.proofs.RowLemmas.{put_next}
use Rattle.flt_rows.proofs.narrow.convolve_row.Goals as goal

pub loop-x-init : goal.loop-x-init
loop-x-init g c =
    let above : List ℕ = g.T.Sample.of_bytes c.args.above.now in
    let row : List ℕ = g.T.Sample.of_bytes c.args.row.now in
    let below : List ℕ = g.T.Sample.of_bytes c.args.below.now in
    let out : List ℕ = g.T.Sample.numbers c.args.out.now in
    let inside : 0 < length out = rw (g.met.T.Sample.long c.args.out.now) c.requires.some in
    let first = c.show_square-first.result in
    record {
      long = c.put.auto.row;
      done = λ k h. put_next (g.T.Sample.numbers c.put.new.row) out (λ x. shown c.args.ending (weighed_around c.args.square above row below x)) 0 first c.put.ensures inside
          (around_at c.args.square (shown c.args.ending) above row below 0 0 0 c.min.result first (omega arith) (omega arith) (omega (arith, c.requires.row)) c.show_square-first.ensures.value)
          (λ j none. absurd (omega arith)) k h;
    }

pub loop-x-preserved : goal.loop-x-preserved
loop-x-preserved g c =
    let above : List ℕ = g.T.Sample.of_bytes c.args.above.now in
    let row : List ℕ = g.T.Sample.of_bytes c.args.row.now in
    let below : List ℕ = g.T.Sample.of_bytes c.args.below.now in
    let out : List ℕ = g.T.Sample.numbers c.loop-x.out in
    let x : ℕ = c.loop-x.x in
    let inside : x < length out = rw (g.met.T.Sample.long c.loop-x.out) (omega (arith, c.loop-x.invariant.long)) in
    let sample = c.show_square-sample.result in
    record {
      long = c.put-in-loop-x.auto.row ∙ c.loop-x.invariant.long;
      done = put_next (g.T.Sample.numbers c.put-in-loop-x.new.row) out (λ k. shown c.args.ending (weighed_around c.args.square above row below k)) x sample c.put-in-loop-x.ensures inside
          (around_at c.args.square (shown c.args.ending) above row below x (x - 1) x (x + 1) sample (omega arith) (omega (arith, c.requires.row)) (omega (arith, c.requires.row)) c.show_square-sample.ensures.value)
          c.loop-x.invariant.done;
    }

pub returns : goal.returns
returns g c =
    let above : List ℕ = g.T.Sample.of_bytes c.args.above.now in
    let row : List ℕ = g.T.Sample.of_bytes c.args.row.now in
    let below : List ℕ = g.T.Sample.of_bytes c.args.below.now in
    let out : List ℕ = g.T.Sample.numbers c.loop-x.out in
    let last : ℕ = length c.args.out.now - 1 in
    let inside : last < length out = rw (g.met.T.Sample.long c.loop-x.out) (omega (arith, c.loop-x.invariant.long)) in
    let reached : last ≤ c.loop-x.x = omega (arith, c.loop-x-test.false) in
    let left = c.saturating_sub-before.result in
    let end = c.show_square-end.result in
    λ k h. put_next (g.T.Sample.numbers c.put-2.new.row) out (λ x. shown c.args.ending (weighed_around c.args.square above row below x)) last end c.put-2.ensures inside
    (around_at c.args.square (shown c.args.ending) above row below last left last last end (omega arith) (omega (arith, c.requires.row)) (omega (arith, c.requires.row)) c.show_square-end.ensures.value)
    (λ j before. c.loop-x.invariant.done j (omega (arith, reached, before))) k (omega (arith, h, c.put-2.auto.row, c.loop-x.invariant.long))
