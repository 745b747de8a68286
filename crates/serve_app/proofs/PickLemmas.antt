-- What is known of files, by what they tell.
use Rattle.std.proofs.Common.{◌≡◌, refl, Option, Some, None}
use Rattle.std.specs.Prelude.{is_some}
use Rattle.std.specs.FinMap.{empty}
use Rattle.fv_io.specs.World.{World}
use Rattle.avs_files.specs.Opened.{told_of}

abbrev pub world_of : Option World → World
world_of (Some world) = world
world_of None = empty

pub picked : (o : Option World) → o ≡ told_of (is_some o) (world_of o)
picked (Some world) = refl
picked None = refl
