use Rattle.flt_rows.proofs.NarrowLemmas.{nine_are}
use Rattle.flt_soft.proofs.convolve.square_of.Goals as goal

pub returns : goal.returns
returns c =
    let above = c.weights_at.ensures in
    let middle = c.weights_at-2.ensures in
    let below = c.weights_at-3.ensures in
    rw (above.left, above.middle, above.right, middle.left, middle.middle, middle.right, below.left, below.middle, below.right) (nine_are c.args.weights.now c.requires.nine)
