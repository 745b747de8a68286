use Rattle.std.proofs.Common.{◌≡◌, ℕ, ◌<◌, [], length, map, get_or}
use Rattle.fv_plane.specs.Picture.{look_in}
use Rattle.clip_term.specs.Terms.{act_of, sample}
use Rattle.clip_reference.proofs.make.fill_row.Given as goal

abbrev pub invariant-loop-x : goal.invariant-loop-x
invariant-loop-x l = record {
  long : length l.row ≡ length l.initial.row;
  made : (k : ℕ) → k < l.x → get_or l.row k 0 ≡ sample [] (act_of l.op) l.infos l.n (map look_in l.frames) l.plane k l.y;
}
