use Rattle.std.proofs.Common.{◌≡◌, length, map}
use Rattle.avs_tree.specs.Lexeme.{meaning_in}
use Rattle.avs_tree.proofs.words.meaning.Given as goal

abbrev pub invariant-loop-table : goal.invariant-loop-table
invariant-loop-table g l = meaning_in (map (λ row. (row.0.now, row.1)) l.table) l.word ≡ meaning_in (map (λ row. (row.0.now, row.1)) l.initial.table) l.word

abbrev pub decreases-loop-table : goal.decreases-loop-table
decreases-loop-table g l = length l.table
