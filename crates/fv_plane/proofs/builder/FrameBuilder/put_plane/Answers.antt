use Rattle.std.proofs.Common.{◌≡◌, [], ◌∷◌, get_or, set, map, ◌∙◌, ap, sym, subst}
use Rattle.fv_plane.specs.Picture.{decoded_rows, chroma_list, AreWhole, IsStored}
use Rattle.fv_plane.proofs.FrameLemmas.{shared_like, shared_whole, frame_share, IsPicture-share, IsStored-new}
use Rattle.fv_plane.proofs.builder.FrameBuilder.put_plane.Goals as goal
use Rattle.fv_plane.proofs.builder.FrameBuilder.put_plane.Goals.{In_ok-shared, After-put_plane_in}

-- the plane that is shared shows the plane of the other frame
shows : (c : In_ok-shared) → decoded_rows c.args.from.now.shape c.in_ok-shared.shared ≡ get_or c.args.from.now.planes c.args.of []
shows c = ap (decoded_rows c.args.from.now.shape) c.in_ok-shared.ensures ∙ c.plane.ensures.rows

-- and is whole
whole : (c : In_ok-shared) → AreWhole c.args.from.now.shape c.in_ok-shared.shared
whole c = subst (λ rows. AreWhole c.args.from.now.shape rows) (sym c.in_ok-shared.ensures) c.plane.ensures.whole

pub put_plane_in-requires-clause-like : goal.put_plane_in-requires-clause-like
put_plane_in-requires-clause-like c =
    let p = c.self.inside in
    let here = (goal.at.put_plane_in-requires-clause-like c).In_ok-shared in
    shared_like p.shape p.luma p.chroma c.args.self.now c.self.view_is c.self.invariant c.args.plane c.requires.plane c.args.from.now c.args.of c.in_ok-shared.shared c.plane.ensures.sizes c.requires.of c.requires.same (shows here) (whole here)

-- the planes with the one that is shared
planes_are : (c : After-put_plane_in) → map (decoded_rows c.self.inside.shape) (c.put_plane_in.new.luma ∷ chroma_list c.put_plane_in.new.chroma)
    ≡ set c.args.self.now.planes c.args.plane (get_or c.args.from.now.planes c.args.of [])
planes_are c =
    let p = c.self.inside in
    let here = (goal.at.returns-clause-put c).In_ok-shared in
    ap (map (decoded_rows p.shape)) c.put_plane_in.ensures
    ∙ frame_share p.shape p.luma p.chroma c.args.self.now c.self.view_is c.self.invariant c.args.plane c.requires.plane c.args.from.now c.args.of c.in_ok-shared.shared c.plane.ensures.sizes c.requires.of c.requires.same (shows here) (whole here)

-- they are stored
written : (c : After-put_plane_in) → IsStored c.self.inside.shape c.put_plane_in.new.luma c.put_plane_in.new.chroma
written c =
    let p = c.self.inside in
    let here = (goal.at.returns-clause-put c).In_ok-shared in
    IsStored-new p.shape p.luma p.chroma c.args.self.now c.self.view_is c.self.invariant c.args.plane c.requires.plane c.put_plane_in.new.luma c.put_plane_in.new.chroma c.in_ok-shared.shared _ c.put_plane_in.ensures
    (shared_whole p.shape p.luma p.chroma c.args.self.now c.self.view_is c.self.invariant c.args.plane c.requires.plane c.args.from.now c.args.of c.in_ok-shared.shared c.plane.ensures.sizes c.requires.of c.requires.same (shows here) (whole here))
    (planes_are c)
    (IsPicture-share p.shape p.luma p.chroma c.args.self.now c.self.view_is c.self.invariant c.args.plane c.requires.plane c.args.from.now c.args.of c.in_ok-shared.shared c.plane.ensures.sizes c.requires.of c.requires.same (shows here) (whole here))

pub invariant_of-self : goal.invariant_of-self
invariant_of-self c = written c

pub returns-clause-put : goal.returns-clause-put
returns-clause-put c = planes_are c

pub returns-clause-sizes : goal.returns-clause-sizes
returns-clause-sizes c = (let is : IsStored c.self.inside.shape c.put_plane_in.new.luma c.put_plane_in.new.chroma = written c in is.picture)
