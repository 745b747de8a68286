use Rattle.std.proofs.Common.{rules, ◌≡◌, ℕ, ◌<◌, List, [], ◌∷◌, map, arith, subst, sym}
use Rattle.std.specs.Prelude.{Contains}
use mathlib.Core.Logic.{◌⊎◌}
use Rattle.core_tests.proofs.SeatNumbers.{one_of_four}
use Rattle.core_tests.proofs.turns.four_threads_take_turns.Goals as goal

-- src/turns.rt:131:36
pub close-notes-requires-clause-all : goal.close-notes-requires-clause-all
close-notes-requires-clause-all g c =
    let limit : c.join-seat-4.result.limit ≡ 4 = search rules in
    let next : c.join-seat-4.result.next ≡ 4 = search rules in
    let number : c.join-seat-4.result.number ≡ 0 = search rules in
    let ended : map (λ x. x.number) c.join-seat-4.result.ended ≡ 1 ∷ 2 ∷ 3 ∷ [] = search rules in
    let others : List ℕ = 1 ∷ 2 ∷ 3 ∷ [] in (
      subst (λ l. 0 < l) (sym limit) (omega arith),
      λ n less. subst (λ numbers. (n ≡ c.join-seat-4.result.number) ⊎ Contains numbers n) (sym ended)
          (subst (λ m. (n ≡ m) ⊎ Contains others n) (sym number) (one_of_four n (subst (λ m. n < m) next less))),
    )
