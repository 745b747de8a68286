use Rattle.std.proofs.Common.{◌≡◌, ◌∙◌, ℕ, ◌+◌, ◌*◌, ◌-◌, ◌<◌, List, length, get_or, get_or-take, ap, arith}
use Rattle.std.proofs.lemmas.List.{get_or-drop}
use Rattle.std.proofs.lemmas.List.Edits.{get_or-between}
use Rattle.flt_turn.proofs.BlockLemmas.{length_written, woven_more}
use Rattle.flt_turn.proofs.kernels.interleave.Goals as goal

pub loop-k-preserved : goal.loop-k-preserved
loop-k-preserved c =
    let block : List ℕ = c.args.block.now in
    let front : List ℕ = c.split_at.result.0.now in
    let back : List ℕ = c.split_at.result.1.now in
    let out : List ℕ = c.loop-k.out in
    let part : List ℕ = c.weave.new.out in
    let k : ℕ = c.loop-k.k in
    let a : ℕ = 2 * (16 * k) in
    let n : ℕ = a + 32 - a in
    let whole : n ≡ 32 = omega arith in
    let below : k < 8 = c.loop-k-test.true in
    let long : length part ≡ n = omega (arith, c.weave.ensures.whole) in
    let even : (m : ℕ) → m < 16 → get_or part (2 * m) 0 ≡ get_or block (16 * k + m) 0 = λ m less.
    c.weave.ensures.even m less ∙ get_or-between front (16 * k) (16 * k + 16) m 0 (omega arith)
    ∙ ap (λ l. get_or l (16 * k + m) 0) c.split_at.ensures.front ∙ get_or-take 128 block (16 * k + m) 0 (omega arith) in
    let odd : (m : ℕ) → m < 16 → get_or part (2 * m + 1) 0 ≡ get_or block (16 * k + m + 128) 0 = λ m less.
    c.weave.ensures.odd m less ∙ get_or-between back (16 * k) (16 * k + 16) m 0 (omega arith)
    ∙ ap (λ l. get_or l (16 * k + m) 0) c.split_at.ensures.back ∙ get_or-drop 128 block (16 * k + m) 0 ∙ ap (λ z. get_or block z 0) (omega arith) in
    record {
      long = length_written a n out part long (omega (arith, c.loop-k.invariant.long)) ∙ c.loop-k.invariant.long;
      even = woven_more out part (λ j. get_or block j 0) (λ j. 2 * j) k a n c.loop-k.invariant.long below (omega arith) whole long
          (λ j. (omega arith, omega arith)) (λ m. omega arith) even c.loop-k.invariant.even;
      odd = woven_more out part (λ j. get_or block (j + 128) 0) (λ j. 2 * j + 1) k a n c.loop-k.invariant.long below (omega arith) whole long
          (λ j. (omega arith, omega arith)) (λ m. omega arith) odd c.loop-k.invariant.odd;
    }
