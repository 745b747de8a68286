-- No sample that a row makes is over the largest one, where no sample that it takes is.
use Rattle.std.proofs.Common.{◌≡◌, List, length}
use Rattle.fv_plane.specs.declared.format.Shape.{Shape}
use Rattle.fv_plane.specs.Format.{IsLegal}
use Rattle.fv_plane.specs.Picture.{Look}
use Rattle.clip_term.specs.declared.op.SoftOp.{SoftOp}
use Rattle.clip_term.specs.declared.op.SpaceOp.{SpaceOp}
use Rattle.clip_term.specs.Soft.{soft_row, soft_at}
use Rattle.clip_term.specs.Space.{space_refusals, space_shape, space_at}
use Rattle.clip_term.proofs.PassedLemmas.{Passed}
pub use Rattle.clip_term.proofs.BoundLemmas.{IsBounded, AllBounded, none, more, bounded_at}
pub use Rattle.clip_term.proofs.SpaceFacts.{converted_few}
use Rattle.clip_term.proofs.SpaceFacts.{space_facts}
use Rattle.clip_term.proofs.SoftFacts.{soft_facts}

pub space_bounded : (inner : SpaceOp) (shape : Shape) (from : Look) → IsLegal shape → Passed (space_refusals inner shape) → IsBounded shape from → IsBounded (space_shape inner shape) (space_at inner shape from)
space_bounded inner shape from legal told few = (space_facts inner).bounded shape from told legal few

pub soft_bounded : (inner : SoftOp) (shape : Shape) (looks : List Look) → length looks ≡ (soft_row inner).count → AllBounded shape looks → IsBounded shape (soft_at inner shape looks)
soft_bounded inner shape looks long all = (soft_facts inner).bounded shape looks long all
