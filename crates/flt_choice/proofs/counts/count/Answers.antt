use Rattle.std.proofs.Common.{◌+◌, ◌*◌, ◌<◌, get_or, arith}
use Rattle.flt_choice.proofs.CountLemmas.{is_place, place_few, one_counted}
use Rattle.flt_choice.proofs.counts.count.Goals as goal

pub overflow_add-counts-2 : goal.overflow_add-counts-2
overflow_add-counts-2 c =
    let is = is_place c.args.size c.args.table c.args.sample c.requires.table in
    let few : get_or c.args.counts.now (c.args.table * c.args.size + c.args.sample) 0 + 1 < 4294967296 = omega (arith, place_few c.args.size c.args.sample (c.args.table * c.args.size + c.args.sample) c.args.counts.now is, c.requires.room c.args.sample c.requires.sample) in
    search (arith, few)

pub returns : goal.returns
returns c =
    one_counted c.args.size c.args.sample (c.args.table * c.args.size + c.args.sample) c.args.counts.now c.requires.sample c.requires.long (is_place c.args.size c.args.table c.args.sample c.requires.table)
