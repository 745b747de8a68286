-- The world of files: the bytes of each name.
use Rattle.std.specs.Prelude.{◌≡◌, ℕ, List, Option, Some}
use Rattle.std.specs.Ordering.{nat_cmp}
use Rattle.std.specs.Cmp.Lexicographic.{slice_cmp}
use Rattle.std.specs.FinMap.{FinMap}

-- from names to the bytes of files, both as lists of bytes
abbrev pub World : Type 0
World = FinMap (slice_cmp nat_cmp) (List ℕ)

-- In each world that the files tell, this holds. By the clauses of `Files::fetch` a source that was fetched then tells the
-- bytes of its name, and by those of `Source` it still does after each read and rewind.
abbrev pub InWorld : Option World → (World → Type 0) → Type 0
InWorld told P = (world : World) → told ≡ Some world → P world
