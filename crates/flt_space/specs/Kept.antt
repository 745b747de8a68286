-- The planes that a filter shows as they are.
use Rattle.std.specs.Prelude.{ℕ, Bool}
use Rattle.clip_term.specs.declared.op.SpaceOp.{SpaceOp}
use Rattle.clip_term.specs.Space.{space_row}

-- a plane of the result is that plane of the input
abbrev pub keeps_plane : SpaceOp → ℕ → Bool
keeps_plane op = (space_row op).keeps
