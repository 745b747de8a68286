use Rattle.std.proofs.Common.{rules, arith, ◌≡◌, ◌*◌, ◌∙◌, ap, length}
use Rattle.flt_merge.proofs.RowLemmas.{wide_means_are}
use Rattle.flt_merge.proofs.kernels.merge_wide_row.Goals as goal

pub returns : goal.returns
returns c =
    let same : length c.args.out.now ≡ length c.loop-x.out = search rules in
    wide_means_are c.args.a.now c.args.b.now c.loop-x.out (c.requires.a ∙ ap (λ n. n * 2) same) (c.requires.b ∙ ap (λ n. n * 2) same) (λ k within. c.loop-x.invariant k (omega (arith, same)))
