use Rattle.std.proofs.Common.{◌≡◌, ◌∙◌, sym, ap, take, length, map, sum, arith}
use Rattle.std.proofs.Math.Seq.{take-length}
use Rattle.avs_frames.specs.Open.{opens}
use Rattle.avs_frames.proofs.OpenLemmas.{open_level_is}
use Rattle.avs_frames.proofs.nesting.open_level.Goals as goal

pub returns-clause-level : goal.returns-clause-level
returns-clause-level c =
    let fs = c.args.opened.now in
    let end : c.loop-item.item-index ≡ length fs = omega arith in
    c.loop-item.invariant.is ∙ ap (λ i. sum (map opens (take i fs))) end ∙ ap (λ xs. sum (map opens xs)) (take-length fs) ∙ sym (open_level_is fs)
