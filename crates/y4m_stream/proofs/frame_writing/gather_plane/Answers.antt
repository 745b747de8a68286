-- Another row waits.
use Rattle.std.proofs.Common.{◌≡◌, ◌≤◌, ◌<◌, ◌+◌, ◌-◌, ◌++◌, ℕ, List, [], length, take, drop, get_or, sym, ◌∙◌, ap, arith, rules}
use Rattle.std.proofs.lemmas.List.{append_assoc, take_all, take-append-drop}
use Rattle.std.proofs.lemmas.List.Concat.{flat_map-append}
use Rattle.fv_io.proofs.CallerLemmas.{gets_more}
use Rattle.fv_plane.specs.Format.{plane_height}
use Rattle.fv_plane.specs.Picture.{bytes_of_row, bytes_of_rows}
use Rattle.y4m_stream.specs.Planes.{PutsAllBut}
use Rattle.fv_plane.proofs.CallerLemmas.{length-plane}
use Rattle.y4m_stream.proofs.PutLemmas.{text_more, on_err}
use Rattle.y4m_stream.proofs.WaitingLemmas.{put_from, take-put_from, length-put_from, more_waits, fewer_wait, cut_rest}
use Rattle.y4m_stream.proofs.frame_writing.gather_plane.Goals as goal

pub loop-y-preserved : goal.loop-y-preserved
loop-y-preserved g c =
    let i = c.loop-y.invariant in
    let room = c.in_ok-left.ensures.room in
    let left : ℕ = c.in_ok-left.left in
    let buf : List ℕ = c.loop-y.buf in
    let row : List ℕ = c.row-row.result.now in
    let piece : List ℕ = c.copy_from_slice.new.self in
    let size : ℕ = (left + length row) - left in
    let rows : List (List ℕ) = get_or c.args.frame.now.planes c.args.plane [] in
    let first : List ℕ = take c.args.start c.args.buf.now in
    let same : piece ≡ row = search rules in
    let fits : left + length piece ≤ length buf = omega (arith, room, ap length same) in
    let size_is : size ≡ length piece = omega (arith, ap length same) in
    let shape = c.args.frame.now.shape in
    let height : c.plane_height-y-end.result ≡ plane_height shape c.args.plane = c.plane_height-y-end.ensures ∙ ap (λ s. plane_height s c.args.plane) c.shape.ensures.shape in
    let there : c.loop-y.y < length rows = omega (arith, c.loop-y-test.true, height, length-plane c.args.frame.now c.args.plane c.shape.ensures.sizes c.requires.plane) in
    let done : List ℕ = bytes_of_rows shape (take c.loop-y.y rows) in
    let text : bytes_of_rows shape (take (c.loop-y.y + 1) rows) ≡ done ++ row = text_more (bytes_of_row shape) rows c.loop-y.y [] there ∙ ap (λ (l : List ℕ). done ++ l) (sym c.row-row.ensures.row) in
    let whole : first ++ bytes_of_rows shape (take (c.loop-y.y + 1) rows) ≡ (first ++ done) ++ row = ap (λ (l : List ℕ). first ++ l) text ∙ sym (append_assoc first done row) in
    let wait : take (left + length row) (put_from left size buf piece) ≡ take left buf ++ row
    = ap (λ n. take (left + n) (put_from left size buf piece)) (ap length (sym same)) ∙ take-put_from buf piece left size size_is fits ∙ ap (λ (l : List ℕ). take left buf ++ l) same in
    let fewer : PutsAllBut g.K.Sink c.args.out.now c.make_room.new.out (first ++ done) (take left buf)
    = fewer_wait g.K.Sink c.args.out.now c.loop-y.out c.make_room.new.out (first ++ done) (take c.loop-y.end buf) (take left buf) i.put c.in_ok-left.ensures.put in
    record {
      inside = omega (arith, room, length-put_from buf piece left size size_is fits);
      size = length-put_from buf piece left size size_is fits ∙ i.size;
      put = rw (whole, wait) (more_waits g.K.Sink c.args.out.now c.make_room.new.out (first ++ done) (take left buf) row fewer);
      later = omega (arith, i.later, c.in_ok-left.ensures.later);
      steady = c.in_ok-left.ensures.steady ∙ i.steady;
    }

pub returns-in_err-left-clause-cut : goal.returns-in_err-left-clause-cut
returns-in_err-left-clause-cut g c =
    let sink = g.K.Sink in
    let shape = c.args.frame.now.shape in
    let rows : List (List ℕ) = get_or c.args.frame.now.planes c.args.plane [] in
    let first : List ℕ = take c.args.start c.args.buf.now in
    let done : List ℕ = bytes_of_rows shape (take c.loop-y.y rows) in
    let left : List ℕ = bytes_of_rows shape (drop c.loop-y.y rows) in
    let all : first ++ bytes_of_rows shape rows ≡ (first ++ done) ++ left
    = ap (λ (l : List ℕ). first ++ l) (ap (bytes_of_rows shape) (sym (take-append-drop c.loop-y.y rows)) ∙ flat_map-append (bytes_of_row shape) (take c.loop-y.y rows) (drop c.loop-y.y rows)) ∙ sym (append_assoc first done left) in
    let cut = cut_rest sink c.args.out.now c.loop-y.out c.make_room.new.out (first ++ done) (take c.loop-y.end c.loop-y.buf) c.loop-y.invariant.put c.in_err-left.ensures.cut in
    on_err c.from_residual.result (rw all (gets_more (sink.bytes c.args.out.now) (sink.bytes c.make_room.new.out) (first ++ done) left cut))

pub returns-clause-put : goal.returns-clause-put
returns-clause-put g c =
    let shape = c.args.frame.now.shape in
    let rows : List (List ℕ) = get_or c.args.frame.now.planes c.args.plane [] in
    let height : c.plane_height-y-end.result ≡ plane_height shape c.args.plane = c.plane_height-y-end.ensures ∙ ap (λ s. plane_height s c.args.plane) c.shape.ensures.shape in
    let all : take c.loop-y.y rows ≡ rows = take_all c.loop-y.y rows (omega (arith, c.loop-y-test.false, height, length-plane c.args.frame.now c.args.plane c.shape.ensures.sizes c.requires.plane)) in
    rw all at c.loop-y.invariant.put
