-- A number below zero is put as its 64 bits.
use Rattle.std.proofs.Common.{arith}
use Rattle.std.proofs.lemmas.Int.{to_z-of_z}
use Rattle.std.proofs.lemmas.List.{append_assoc}
use Rattle.avs_print.proofs.PrintLemmas.{number_below}
use Rattle.avs_print.proofs.printer.Printer.number.Goals as goal

pub returns : goal.returns
returns c =
    let fits = c.ranges.number in
    let below = number_below c.args.number (simp to_z-of_z at c.if-number-ge0.false) in
    rw below (grind (arith, append_assoc, to_z-of_z))
