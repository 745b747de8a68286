-- What each filter that chooses a clip owes to the laws.
use Rattle.std.proofs.Common.{◌≡◌, ℕ, ◌<◌, List, length, ap, arith, Bool, true, Option, subst}
use Rattle.std.specs.Prelude.{ℤ, if◌then◌else◌}
use Rattle.std.proofs.lemmas.Grind.{common_steps}
use Rattle.fv_plane.specs.declared.format.Info.{Info}
use Rattle.fv_plane.specs.declared.format.Shape.{Shape}
use Rattle.fv_plane.specs.Format.{planes}
use Rattle.fv_plane.specs.Info.{IsLawful}
use Rattle.fv_plane.specs.Picture.{Look, look_at}
use Rattle.fv_plane.proofs.LookLemmas.{Agree, map_same}
use Rattle.clip_term.specs.Refusals.{info_at}
use Rattle.clip_term.specs.Terms.{AreLawful}
use Rattle.clip_term.proofs.PassedLemmas.{below_of, first_of_many, Passed, agreed, if_same, same_number}
use Rattle.clip_term.proofs.SeenLemmas.{EachSeen, each_at, each_like, agree_at}
use Rattle.clip_term.specs.declared.run.PlaneStat.{PlaneStat}
use Rattle.clip_term.specs.declared.run.RunCompare.{RunCompare}
use Rattle.clip_term.specs.Expression.{tree_of, stat_of, samples_from, value}
use Rattle.clip_term.specs.Choice.{RunAct, choose, decide, source_of, side_of, differences, RunRow, run_row}

-- What a row owes: the info that stays is lawful; the choice needs the test only inside its picture; and what is shown agrees on
-- the size that stays.
pub record RunFacts (row : RunRow) : Type 0 where
  pub lawful : (infos : List Info) → row.inputs (length infos) ≡ true → AreLawful infos → IsLawful (row.base infos)
  pub chosen : (infos : List Info) (n : ℕ) (u v : Look) → Agree (info_at infos 0).shape u v → row.chosen infos n u ≡ row.chosen infos n v
  pub shown : (infos : List Info) (n : ℕ) (test : Look) (ls ms : List Look) → Passed (row.refusals infos) → EachSeen infos ls ms
      → Agree (row.base infos).shape (look_at ls (row.chosen infos n test)) (look_at ms (row.chosen infos n test))

samples_same : (shape : Shape) (u v : Look) → Agree shape u v → (p : ℕ) → p < planes shape.kind → samples_from shape u p ≡ samples_from shape v p
samples_same shape u v agree p h = search (arith, map_same)

-- statistics are those of what stands inside the picture
pub stat_same : (shape : Shape) (u v : Look) → Agree shape u v → (p : ℕ) (stat : PlaneStat) → stat_of shape u p stat ≡ stat_of shape v p stat
stat_same shape u v agree p stat = search (arith, if_same, samples_same, below_of)

stats_same : (shape : Shape) (u v : Look) → Agree shape u v → stat_of shape u ≡ stat_of shape v
stats_same shape u v agree = λ i p stat. stat_same shape u v agree p stat i

by_test : (t : Bool) (P : ℕ → Type 0) → P 1 → P 2 → P (if t then 1 else 2)
by_test t P one two = grind (arith, common_steps)

by_side : (by : RunCompare) (a b : Option ℤ) (P : ℕ → Type 0) → P 1 → P 2 → P (side_of by a b)
by_side by a b P one two = grind (arith, common_steps)

like : (a b : Shape) → Passed (differences a b) → b ≡ a
like a b passed = grind (arith, common_steps)

-- EACH FILTER

pub run_facts : (op : RunAct) → RunFacts (run_row op)
run_facts (choose e) = record {
  lawful = λ infos fit lawful. lawful 0 (first_of_many 1 (length infos) fit);
  chosen = λ infos n u v agree. ap (λ stats. source_of (length infos) (value n stats (tree_of e))) (stats_same (info_at infos 0).shape u v agree);
  shown = λ infos n test ls ms told seen. agree_at (each_like seen (info_at infos 0).shape (agreed infos told)) _;
}
run_facts (decide e by f) = record {
  lawful = λ infos fit lawful. lawful 1 (let three = same_number (length infos) 3 fit in omega arith);
  chosen = λ infos n u v agree. ap (λ stats. side_of by (value n stats (tree_of e)) (value n stats (tree_of f))) (stats_same (info_at infos 0).shape u v agree);
  shown = λ infos n test ls ms told seen.
      let stats = stat_of (info_at infos 0).shape test in
      let a = (info_at infos 1).shape in
      by_side by (value n stats (tree_of e)) (value n stats (tree_of f)) (λ k. Agree a (look_at ls k) (look_at ms k)) (each_at seen 1)
      (subst (λ (s : Shape). Agree s (look_at ls 2) (look_at ms 2)) (like a (info_at infos 2).shape told) (each_at seen 2));
}
