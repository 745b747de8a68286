use Rattle.std.proofs.Common.{◌≡◌, ◌*◌, ℕ, List, subst, ◌∙◌, ap, arith, unwrap_or}
use Rattle.std.specs.Prelude.{vec_capacity}
use Rattle.fv_rows.specs.Rows.{IsPlane, rows_put, rows_of, filled_to, bytes_put}
use Rattle.fv_rows.proofs.RowLemmas.{IsPlane-building, rows_of-like, times-like}
use Rattle.fv_rows.proofs.plane_builder.PlaneBuilder.put_rows.Goals as goal
use Rattle.fv_rows.proofs.plane_builder.PlaneBuilder.put_rows.Goals.{After-unshare}

-- the rows so far
now : (c : After-unshare) → IsPlane c.self.inside.width c.self.inside.height c.args.self.now
now c =
    let p = c.self.inside in
    subst (λ rows. IsPlane p.width p.height rows) c.self.view_is (IsPlane-building p.bytes.items (vec_capacity p.bytes) p.width p.height p.filler p.shared c.self.invariant)

pub put_at-requires-clause-inside : goal.put_at-requires-clause-inside
put_at-requires-clause-inside c = (let is = now (goal.at.put_at-requires-clause-inside c).After-unshare in omega (arith, is.count, c.requires.inside))

pub put_at-requires-clause-rows : goal.put_at-requires-clause-rows
put_at-requires-clause-rows c =
    c.requires.whole ∙ times-like c.self.inside.width c.self.inside.height c.args.y c.args.count c.args.self.now (now (goal.at.put_at-requires-clause-rows c).After-unshare) c.requires.inside

pub returns : goal.returns
returns c =
    let p = c.self.inside in
    let is : IsPlane p.width p.height c.args.self.now = now (goal.at.returns c).After-unshare in
    let so_far : List (List ℕ) = rows_of (filled_to (p.height * p.width) p.filler p.bytes.items) p.width p.width p.height in
    let before : rows_of (filled_to (p.height * p.width) p.filler c.unshare.new.bytes.items) p.width p.width p.height ≡ c.args.self.now
    = c.unshare.ensures.rows ∙ ap (λ shared. unwrap_or shared so_far) c.take.ensures.value ∙ c.self.view_is in
    let rows : bytes_put c.args.self.now c.args.y c.args.count c.args.rows.now ≡ rows_put c.args.self.now c.args.y (rows_of c.args.rows.now p.width p.width c.args.count)
    = ap (rows_put c.args.self.now c.args.y) (rows_of-like p.width p.height c.args.y c.args.count c.args.self.now c.args.rows.now is c.requires.inside) in
    rw (c.take.ensures.after, rows, ← before) c.put_at.ensures.put
