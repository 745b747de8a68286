use Rattle.std.proofs.Common.{◌≡◌, map, true}
use Rattle.std.specs.List.{list_all}
use Rattle.clip_term.specs.Refusals.{is_weight}
use Rattle.clip_term.proofs.MatrixLemmas.{HasRead}
use Rattle.clip_term.proofs.matrix.read_matrix.Given as goal

abbrev pub invariant-loop-word : goal.invariant-loop-word
invariant-loop-word l = record {
  read : HasRead (map (λ p. p.now) l.yielded) l.entries.items l.are_entries;
  small : list_all is_weight l.entries.items ≡ true;
}
