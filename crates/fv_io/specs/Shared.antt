-- Bytes that are shared.
use Rattle.std.specs.Prelude.{ℕ, List, Vec}
use Rattle.std.specs.declared.alloc.Global.{Global}
use Rattle.std.specs.declared.sync.Arc.{Arc}
use Rattle.std.specs.Arc.{arc_value}

abbrev pub shared_bytes : Arc (Vec ℕ Global) Global → List ℕ
shared_bytes bytes = (arc_value bytes).items
