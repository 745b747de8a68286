use Rattle.std.proofs.Common.{subst}
use Rattle.std.specs.Prelude.{vec_capacity}
use Rattle.fv_rows.specs.Rows.{IsPlane}
use Rattle.fv_rows.proofs.RowLemmas.{IsPlane-building, IsPlane-like}
use Rattle.fv_rows.proofs.plane_builder.PlaneBuilder.put_plane.Goals as goal

pub invariant_of-self : goal.invariant_of-self
invariant_of-self c =
    let p = c.self.inside in
    let i = c.self.invariant in
    let now : IsPlane p.width p.height c.args.self.now
    = subst (λ rows. IsPlane p.width p.height rows) c.self.view_is (IsPlane-building p.bytes.items (vec_capacity p.bytes) p.width p.height p.filler p.shared i) in
    record { fits = i.fits; room = i.room; small = i.small; like = IsPlane-like p.width p.height c.args.self.now c.args.plane now c.requires }
