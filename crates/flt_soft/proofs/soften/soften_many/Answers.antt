use Rattle.std.proofs.Common.{◌≡◌, ◌<◌, ◌+◌, ◌/◌, ◌∙◌, ℕ, List, length, map, get_or, take, sym, ap, arith}
use Rattle.std.specs.List.{sum}
use Rattle.std.proofs.lemmas.Nat.{mul-le}
use Rattle.fv_plane.specs.Picture.{Picture, look_in, look_at}
use Rattle.clip_term.specs.Soft.{near}
use Rattle.flt_soft.specs.Pictures.{row_in}
use Rattle.flt_soft.proofs.SoftenLemmas.{nears, near_more, look_seen, many_is}
use Rattle.flt_soft.proofs.soften.soften_many.Goals as goal

pub loop-i-preserved : goal.loop-i-preserved
loop-i-preserved g c =
    let inputs : List Picture = c.args.inputs.now in
    let p = c.args.plane in
    let y = c.args.y in
    let i = c.loop-i.i in
    let half : ℕ = length inputs / 2 in
    let t = c.args.threshold in
    let middle : ℕ → ℕ = λ x. look_at (map look_in inputs) half p x y in
    record {
      made = λ x h.
          let inside : x < length c.loop-i.sums = omega arith in
          let mine : get_or (g.T.Sample.of_bytes c.row_in-row.result.now) x 0 ≡ middle x = ap (λ l. get_or l x 0) c.row_in-row.ensures.row ∙ sym (look_seen inputs half p x y (omega arith)) in
          let other : get_or (g.T.Sample.of_bytes c.row_in.result.now) x 0 ≡ get_or (row_in inputs i p y) x 0 = ap (λ l. get_or l x 0) c.row_in.ensures.row in
          c.add_near.ensures.sums x h
          ∙ ap (λ s. s + near t (get_or (g.T.Sample.of_bytes c.row_in-row.result.now) x 0) (get_or (g.T.Sample.of_bytes c.row_in.result.now) x 0)) (c.loop-i.invariant.made x inside)
          ∙ ap (λ m. sum (take i (nears t (middle x) inputs p x y)) + near t m (get_or (g.T.Sample.of_bytes c.row_in.result.now) x 0)) mine
          ∙ ap (λ q. sum (take i (nears t (middle x) inputs p x y)) + near t (middle x) q) other
          ∙ sym (near_more t (middle x) inputs i p x y c.loop-i-test.true);
      few = λ x. omega (arith, c.add_near.ensures.few x, c.loop-i.invariant.few x);
    }

pub add_near-requires-clause-room : goal.add_near-requires-clause-room
add_near-requires-clause-room g c = search (arith, mul-le)

pub returns-in_default : goal.returns-in_default
returns-in_default g c = search (arith, many_is)
