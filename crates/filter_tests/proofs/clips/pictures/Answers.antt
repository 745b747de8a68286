use Rattle.std.proofs.Common.{◌∙◌, ap, length, arith}
use Rattle.std.proofs.lemmas.List.{length_push}
use Rattle.std.proofs.lemmas.List.Elements.{All-push}
use Rattle.fv_plane.specs.Picture.{IsPictureOf}
use Rattle.filter_tests.proofs.clips.pictures.Goals as goal

-- one more picture of the clip
pub loop-n-preserved : goal.loop-n-preserved
loop-n-preserved g c =
    let put = c.in_ok-push.ensures.items in
    let frame = c.in_ok-picture.field-0 in
    record {
      count = (let same = ap length put ∙ length_push c.loop-n.frames.items frame in let count = c.loop-n.invariant.count in omega arith);
      pictures = rw put (All-push (IsPictureOf c.args.info) c.loop-n.frames.items frame c.loop-n.invariant.pictures
          (record { shape = c.in_ok-picture.ensures.shape; whole = c.in_ok-picture.ensures.whole }));
    }
