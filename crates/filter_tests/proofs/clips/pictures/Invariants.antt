use Rattle.std.proofs.Common.{◌≡◌, length}
use Rattle.std.specs.List.{All}
use Rattle.fv_plane.specs.Picture.{IsPictureOf}
use Rattle.filter_tests.proofs.clips.pictures.Given as goal

-- so many pictures of the clip were made
abbrev pub invariant-loop-n : goal.invariant-loop-n
invariant-loop-n g l = record {
  count : length l.frames.items ≡ l.n;
  pictures : All (IsPictureOf l.info) l.frames.items;
}
