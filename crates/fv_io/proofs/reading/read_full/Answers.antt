-- Another read keeps what was said of the buffer's front.
use Rattle.std.proofs.Common.{◌≡◌, ◌-◌, length, ◌∙◌, rules, arith}
use Rattle.std.proofs.lemmas.List.{length-append, length-take, length-drop}
use Rattle.fv_io.proofs.BufferLemmas.{more_given, more_inside, put_from}
use Rattle.fv_io.proofs.reading.read_full.Goals as goal

pub loop-have-preserved : goal.loop-have-preserved
loop-have-preserved g c =
    let i = c.loop-have.invariant in
    let read = c.in_ok-count.ensures in
    let room : length c.read.new.buf ≡ length c.loop-have.buf - c.loop-have.have = search rules in
    let same : length (put_from c.loop-have.have (length c.loop-have.buf - c.loop-have.have) c.loop-have.buf c.read.new.buf) ≡ length c.loop-have.buf = simp (length-append, length-take, length-drop) (omega arith) in
    record {
      fits = omega (arith, same, read.bound, i.fits, room);
      size = same ∙ i.size;
      given = λ told is. more_given told c.loop-have.buf c.read.new.buf _ _ c.loop-have.have c.in_ok-count.count i.fits room (i.given told is) i.moved read.bound (read.told told (i.keeps.told ∙ is));
      inside = λ told is. more_inside told c.loop-have.buf c.read.new.buf _ _ c.loop-have.have c.in_ok-count.count i.fits room (i.given told is) i.moved read.bound (read.told told (i.keeps.told ∙ is)) (i.inside told is);
      moved = omega (arith, read.moved, i.moved);
      keeps = record { told = read.bytes ∙ i.keeps.told; rewinds = read.rewinds ∙ i.keeps.rewinds; later = omega (arith, read.later, i.keeps.later) };
      steady = read.steady ∙ i.steady;
    }

pub returns-then-count-eq0-clause-moved : goal.returns-then-count-eq0-clause-moved
returns-then-count-eq0-clause-moved g c = omega (arith, c.in_ok-count.ensures.moved, c.loop-have.invariant.moved, c.if-count-eq0.true)
