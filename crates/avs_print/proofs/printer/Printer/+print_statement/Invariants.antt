-- What was put and what is left to be put are the whole list.
use Rattle.std.proofs.Common.{◌≡◌, ◌++◌, map, drop, true}
use Rattle.avs_lex.specs.Written.{written}
use Rattle.avs_print.specs.Printed as p
use Rattle.avs_tree.specs.View.{arm_view, statement_view, arms_of, block_of}
use Rattle.avs_print.proofs.printer.Printer.+print_statement.Given as goal

abbrev pub invariant-arms-loop-arm : goal.invariant-arms-loop-arm
invariant-arms-loop-arm l =
    l.self ++ written (p.arms_words l.first (arms_of (map arm_view (drop l.arm-index l.arms)))) ≡ l.fn.self ++ written (p.arms_words true (arms_of (map arm_view l.arms)))

abbrev pub invariant-block-loop-statement : goal.invariant-block-loop-statement
invariant-block-loop-statement l =
    l.self ++ written (p.block_words (block_of (map statement_view (drop l.statement-index l.body)))) ≡ l.fn.self ++ written (p.block_words (block_of (map statement_view l.body)))
