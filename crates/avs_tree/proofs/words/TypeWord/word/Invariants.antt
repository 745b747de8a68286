use Rattle.std.proofs.Common.{◌≡◌, length, map}
use denote.Enum.Bare.{sameb}
use Rattle.avs_tree.specs.contracts.words.TypeWord.{the_type}
use Rattle.avs_tree.specs.Lexeme.{word_in, word_of_type}
use Rattle.avs_tree.proofs.words.TypeWord.word.Given as goal

abbrev pub invariant-loop-table : goal.invariant-loop-table
invariant-loop-table l = word_in (map (λ row. (row.0.now, row.1)) l.table) (λ other. sameb the_type other l.self) ≡ word_of_type l.self

abbrev pub decreases-loop-table : goal.decreases-loop-table
decreases-loop-table l = length l.table
