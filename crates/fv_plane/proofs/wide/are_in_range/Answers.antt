use Rattle.std.proofs.Common.{◌≡◌, ◌≤◌, ℕ, ap, arith, get_or, inl, inr}
use Rattle.std.proofs.lemmas.Bool.{cases_lt, leb-true}
use Rattle.fv_plane.proofs.BytesLemmas.{small_same}
use Rattle.fv_plane.proofs.WideLemmas.{pair, pairs_bound}
use Rattle.fv_plane.proofs.wide.are_in_range.Goals as goal

pub loop-x-preserved : goal.loop-x-preserved
loop-x-preserved c k less = elim (cases_lt k c.loop-x.x) [
  | inl before ↦ omega (arith, c.loop-x.invariant k before, c.max-highest.ensures)
  | inr here ↦
      (let same : k ≡ c.loop-x.x = omega arith in
      omega (arith, ap (pair c.args.bytes.now) same, c.max-highest.ensures, c.joined.ensures))
]

pub returns : goal.returns
returns c small =
    let bytes = c.args.bytes.now in
    let few : (k : ℕ) → get_or bytes k 0 ≤ 255 = λ k. (let byte = c.type_inv.bytes k in omega (arith, byte)) in
    small_same c.args.largest bytes c.requires few
    (λ x. omega (
      arith,
      leb-true c.loop-x.highest c.args.largest small,
      pairs_bound bytes c.loop-x.highest c.requires (λ k within. c.loop-x.invariant k (omega (arith, c.loop-x-test.false))) x,
    ))
