use Rattle.std.proofs.Common.{◌≡◌, ◌∙◌, length, take, ap, arith}
use Rattle.std.proofs.lemmas.List.{take_all}
use Rattle.std.proofs.lemmas.Simd.{put_chunk_whole}
use Rattle.flt_turn.proofs.kernels.copy_16.Goals as goal

pub returns : goal.returns
returns c =
    let all : take 16 c.args.samples.now ≡ c.args.samples.now = take_all 16 c.args.samples.now (omega arith) in
    put_chunk_whole c.args.out.now (take 16 c.args.samples.now) (omega (arith, ap length all)) ∙ all
