-- A newline replaces the last blank.
use Rattle.std.proofs.Common.{arith, inl, inr}
use Rattle.std.proofs.lemmas.Grind.{common_steps}
use Rattle.avs_print.proofs.PrintLemmas.{line_ends, line_stays}
use Rattle.avs_print.proofs.printer.Printer.end_line.Goals as goal
use Rattle.avs_print.proofs.printer.Printer.end_line.Goals.{then-size-start-via-then-size-start, then-size-start-via-else-size-start+then-as_bytes-size-ne32}

pub returns-then-size-start : goal.returns-then-size-start
returns-then-size-start c =
    elim c.then-size-start.branch [
      | then-size-start-via-then-size-start w ↦ line_stays c.args.start c.args.self.now (inl (grind (arith, w.if-size-start)))
      | then-size-start-via-else-size-start+then-as_bytes-size-ne32 w ↦ line_stays c.args.start c.args.self.now (inr (λ h. w.if-as_bytes-size-ne32.true (grind (arith, w.as_bytes.ensures.value, h))))
    ]

pub returns : goal.returns
returns c = line_ends c.args.start c.args.self.now _ (grind (arith, c.if-size-start.false)) (grind (arith, c.if-as_bytes-size-ne32.false, c.as_bytes.ensures.value)) (grind (arith, common_steps))
