use Rattle.std.proofs.Common.{List, ℕ, Option, [], get_or, ap, subst}
use Rattle.fv_plane.specs.Picture.{Picture, AreWhole, IsStored, plane_list}
use Rattle.fv_plane.proofs.BytesLemmas.{whole-same}
use Rattle.fv_plane.proofs.frame.Frame.plane.Goals as goal

pub returns-in-0-default-clause-whole : goal.returns-in-0-default-clause-whole
returns-in-0-default-clause-whole c =
    let f = c.self.inside in
    let is : IsStored f.shape f.luma f.chroma = c.self.invariant in
    whole-same f.shape c.args.self.now.shape f.luma (ap (λ (v : Picture). v.shape.bits) c.self.view_is) (is.rows 0)

pub returns-in-1-Some-clause-whole : goal.returns-in-1-Some-clause-whole
returns-in-1-Some-clause-whole c =
    let f = c.self.inside in
    let is : IsStored f.shape f.luma f.chroma = c.self.invariant in
    whole-same f.shape c.args.self.now.shape c.in-1-Some.u (ap (λ (v : Picture). v.shape.bits) c.self.view_is)
    (subst (λ (uv : Option (List (List ℕ) × List (List ℕ))). AreWhole f.shape (get_or (plane_list f.luma uv) 1 [])) c.in-1-Some.is-1 (is.rows 1))

pub returns-in_default-Some-clause-whole : goal.returns-in_default-Some-clause-whole
returns-in_default-Some-clause-whole c =
    let f = c.self.inside in
    let is : IsStored f.shape f.luma f.chroma = c.self.invariant in
    whole-same f.shape c.args.self.now.shape c.in_default-Some.v (ap (λ (v : Picture). v.shape.bits) c.self.view_is)
    (subst (λ (uv : Option (List (List ℕ) × List (List ℕ))). AreWhole f.shape (get_or (plane_list f.luma uv) 2 [])) c.in_default-Some.is-1 (is.rows 2))
