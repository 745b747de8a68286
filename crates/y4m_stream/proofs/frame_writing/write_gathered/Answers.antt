-- Another plane waits, and what waits at the end is put.
use Rattle.std.proofs.Common.{◌≡◌, ◌<◌, ◌+◌, ◌++◌, ℕ, List, [], length, take, drop, sym, ◌∙◌, ap, arith, rules}
use Rattle.std.specs.List.{flat_map}
use Rattle.std.proofs.lemmas.List.{append_assoc, take_all, take-append-drop}
use Rattle.std.proofs.lemmas.List.Concat.{flat_map-append}
use Rattle.std.proofs.lemmas.Result.{on_err_weaker, on_ok_weaker}
use Rattle.fv_io.proofs.CallerLemmas.{gets_more}
use Rattle.fv_plane.specs.Picture.{bytes_of, bytes_of_rows}
use Rattle.y4m_stream.specs.Planes.{PutsAllBut, bytes_of_plane}
use Rattle.y4m_stream.proofs.PutLemmas.{text_more, row_inside, on_err}
use Rattle.y4m_stream.proofs.WaitingLemmas.{more_waits, fewer_wait, put_rest, cut_rest}
use Rattle.y4m_stream.proofs.frame_writing.write_gathered.Goals as goal

pub gather_plane-requires-clause-room : goal.gather_plane-requires-clause-room
gather_plane-requires-clause-room g c = let is = c.shape.ensures.sizes in omega (arith, row_inside c.args.frame.now.shape c.loop-plane.plane is.legal, c.requires)

pub loop-plane-preserved : goal.loop-plane-preserved
loop-plane-preserved g c =
    let sink = g.K.Sink in
    let i = c.loop-plane.invariant in
    let text = bytes_of_rows c.args.frame.now.shape in
    let all : List (List (List ℕ)) = c.args.frame.now.planes in
    let size = c.shape.ensures.sizes in
    let within : c.loop-plane.plane < length all = search rules in
    let line : List ℕ = c.args.line.now in
    let before : List ℕ = flat_map text (take c.loop-plane.plane all) in
    let done : List ℕ = line ++ before in
    let plane : List ℕ = bytes_of_plane c.args.frame.now c.loop-plane.plane in
    let more : line ++ flat_map text (take (c.loop-plane.plane + 1) all) ≡ done ++ plane = ap (λ (l : List ℕ). line ++ l) (text_more text all c.loop-plane.plane [] within) ∙ sym (append_assoc line before plane) in
    let waits = more_waits sink c.args.out.now c.loop-plane.out done (take c.loop-plane.end c.loop-plane.buf) plane i.put in
    record {
      inside = c.in_ok-end.ensures.inside;
      put = rw more (fewer_wait sink c.args.out.now c.loop-plane.out c.gather_plane.new.out (done ++ plane) (take c.loop-plane.end c.loop-plane.buf ++ plane) (take c.in_ok-end.end c.gather_plane.new.buf) waits c.in_ok-end.ensures.put);
      later = omega (arith, i.later, c.in_ok-end.ensures.later);
      steady = c.in_ok-end.ensures.steady ∙ i.steady;
    }

pub returns-in_err-end-clause-cut : goal.returns-in_err-end-clause-cut
returns-in_err-end-clause-cut g c =
    let sink = g.K.Sink in
    let text = bytes_of_rows c.args.frame.now.shape in
    let all : List (List (List ℕ)) = c.args.frame.now.planes in
    let size = c.shape.ensures.sizes in
    let n : ℕ = c.loop-plane.plane in
    let within : n < length all = search rules in
    let line : List ℕ = c.args.line.now in
    let before : List ℕ = flat_map text (take n all) in
    let done : List ℕ = line ++ before in
    let plane : List ℕ = bytes_of_plane c.args.frame.now n in
    let left : List ℕ = flat_map text (drop (n + 1) all) in
    let whole : line ++ bytes_of c.args.frame.now ≡ (done ++ plane) ++ left
    = ap (λ (l : List ℕ). line ++ l) (ap (flat_map text) (sym (take-append-drop (n + 1) all)) ∙ flat_map-append text (take (n + 1) all) (drop (n + 1) all) ∙ ap (λ (l : List ℕ). l ++ left) (text_more text all n [] within))
    ∙ sym (append_assoc line (before ++ plane) left) ∙ ap (λ (l : List ℕ). l ++ left) (sym (append_assoc line before plane))
    in
    let waits = more_waits sink c.args.out.now c.loop-plane.out done (take c.loop-plane.end c.loop-plane.buf) plane c.loop-plane.invariant.put in
    let cut = cut_rest sink c.args.out.now c.loop-plane.out c.gather_plane.new.out (done ++ plane) (take c.loop-plane.end c.loop-plane.buf ++ plane) waits c.in_err-end.ensures.cut in
    on_err c.from_residual.result (rw whole (gets_more (sink.bytes c.args.out.now) (sink.bytes c.gather_plane.new.out) (done ++ plane) left cut))

pub returns-clause-put : goal.returns-clause-put
returns-clause-put g c =
    let text = bytes_of_rows c.args.frame.now.shape in
    let all : List (List (List ℕ)) = c.args.frame.now.planes in
    let size = c.shape.ensures.sizes in
    let end : take c.loop-plane.plane all ≡ all = take_all c.loop-plane.plane all (search rules) in
    let waits : PutsAllBut g.K.Sink c.args.out.now c.loop-plane.out (c.args.line.now ++ flat_map text all) (take c.loop-plane.end c.loop-plane.buf) = rw end at c.loop-plane.invariant.put in
    on_ok_weaker c.put.result (put_rest g.K.Sink c.args.out.now c.loop-plane.out c.put.new.self _ (take c.loop-plane.end c.loop-plane.buf) waits) c.put.ensures.put

pub returns-clause-cut : goal.returns-clause-cut
returns-clause-cut g c =
    let text = bytes_of_rows c.args.frame.now.shape in
    let all : List (List (List ℕ)) = c.args.frame.now.planes in
    let size = c.shape.ensures.sizes in
    let end : take c.loop-plane.plane all ≡ all = take_all c.loop-plane.plane all (search rules) in
    let waits : PutsAllBut g.K.Sink c.args.out.now c.loop-plane.out (c.args.line.now ++ flat_map text all) (take c.loop-plane.end c.loop-plane.buf) = rw end at c.loop-plane.invariant.put in
    on_err_weaker c.put.result (cut_rest g.K.Sink c.args.out.now c.loop-plane.out c.put.new.self _ (take c.loop-plane.end c.loop-plane.buf) waits) c.put.ensures.cut
