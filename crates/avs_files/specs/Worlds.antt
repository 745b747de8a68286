-- Worlds, and what it is that two of them are equal.
use Rattle.std.specs.Prelude.{◌≡◌, Option}
use Rattle.std.specs.Coded.{Coded-set, coded_option, coded_list, coded_ℕ}
use Rattle.std.specs.FinMap.{code}
use Rattle.fv_io.specs.World.{World}

pub same_world-prop : (one other : Option World) → IsProp (one ≡ other)
same_world-prop one other = Coded-set (coded_option (code (coded_list coded_ℕ) (coded_list coded_ℕ))) one other
