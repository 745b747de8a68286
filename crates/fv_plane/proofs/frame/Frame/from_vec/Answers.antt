use Rattle.std.proofs.Common.{◌∙◌, ◌+◌, List, ℕ, take, drop, arith}
use Rattle.std.proofs.lemmas.List.{get_or-drop}
use Rattle.std.proofs.lemmas.Result.{IfOk-weaker}
use Rattle.fv_plane.specs.Format.{frame_bytes}
use Rattle.fv_rows.proofs.RowLemmas.{bounded_all, bounded_take}
use Rattle.fv_plane.proofs.CutLemmas.{cut-limited}
use Rattle.fv_plane.proofs.BytesLemmas.{in_range-fits}
use Rattle.fv_plane.proofs.frame.Frame.from_vec.Goals as goal

pub from_vec_in_range-requires-clause-fits : goal.from_vec_in_range-requires-clause-fits
from_vec_in_range-requires-clause-fits c =
    let shape = c.args.shape in
    let bytes : List ℕ = drop c.args.offset c.args.bytes.items in
    rw c.with_samples_in_range.ensures.frame (in_range-fits shape (take (frame_bytes shape) bytes)
    (bounded_take 255 (frame_bytes shape) bytes (λ k. rw get_or-drop (bounded_all 255 c.args.bytes.items (λ i within. omega arith) (c.args.offset + k)))))

pub returns : goal.returns
returns c =
    IfOk-weaker c.from_vec_in_range.result _ _
    (λ frame is. is ∙ cut-limited c.args.shape (drop c.args.offset c.with_samples_in_range.result.items) (drop c.args.offset c.args.bytes.items) c.with_samples_in_range.ensures.frame)
    c.from_vec_in_range.ensures
