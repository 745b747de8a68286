-- The front that fitted is put.
use Rattle.std.proofs.Common.{◌-◌, ℕ, rules, min, length, take, drop, ap, sym, Some}
use Rattle.std.proofs.lemmas.List.{take-append-drop}
use Rattle.fv_io.proofs.memory.sink.MemSinkSink.put.Goals as goal

pub returns-in-Ok-extend_from_slice-clause-cut : goal.returns-in-Ok-extend_from_slice-clause-cut
returns-in-Ok-extend_from_slice-clause-cut c =
    let room : ℕ = c.self.inside.limit - c.len.result in
    let n : ℕ = min room (length c.args.piece.now) in
    (take n c.args.piece.now, drop n c.args.piece.now, sym (take-append-drop n c.args.piece.now), ap Some (search rules))
