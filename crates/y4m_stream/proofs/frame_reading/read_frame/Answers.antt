-- The bytes of a frame that was cut from bytes are these bytes in range.
use Rattle.std.proofs.Common.{◌≡◌, ap, ◌∙◌}
use Rattle.std.proofs.lemmas.Result.{IfOk-weaker}
use Rattle.fv_plane.specs.Picture.{Picture, bytes_of, picture_of}
use Rattle.fv_plane.proofs.CallerLemmas.{bytes_of-picture_of}
use Rattle.y4m_stream.proofs.frame_reading.read_frame.Goals as goal

pub returns-clause-bytes : goal.returns-clause-bytes
returns-clause-bytes c =
    IfOk-weaker c.from_bytes.result (λ (frame : Picture). frame ≡ picture_of c.args.shape c.args.bytes.now) _
    (λ (frame : Picture) (is : frame ≡ picture_of c.args.shape c.args.bytes.now). ap bytes_of is ∙ bytes_of-picture_of c.args.shape c.args.bytes.now c.requires.whole) c.from_bytes.ensures
