-- What was read, and where it ends.
use Rattle.std.proofs.Common.{◌≡◌, ◌+◌, ◌≤◌, ℕ, List, Some, length, refl, arith, rules}
use Rattle.std.proofs.lemmas.List.{length-drop}
use Rattle.seq_source.proofs.PlaceLemmas.{is_further}
use Rattle.seq_source.proofs.reading.read_piece.Given.{Over}
use Rattle.seq_source.proofs.reading.read_piece.Goals as goal
use Rattle.seq_source.proofs.reading.read_piece.Goals.{In_ok-got}

-- what was read is inside the bytes
inside : (g : Over) (c : In_ok-got g) (told : List ℕ) → g.S.Source.bytes c.args.source.now ≡ Some told → c.args.place + c.in_ok-got.field-0 ≤ length told
inside g c told is =
    let at = c.requires.is_at in
    let fills = c.in_ok-got.ensures.told told is in
    omega (arith, fills.inside, at.here, at.inside told is, length-drop (g.S.Source.place c.args.source.now) told)

pub returns-then-got-place-clause-fault : goal.returns-then-got-place-clause-fault
returns-then-got-place-clause-fault g c =
    let at = c.requires.is_at in
    let room : length c.read_full.new.buf ≡ length c.args.bytes.now = search rules in
    record {
      frame_is = refl;
      want_is = refl;
      early = omega (arith, c.if-got-place.true, c.requires.inside);
      at = omega (arith, c.in_ok-got.ensures.moved, at.here);
      ended = λ told is.
          let fills = c.in_ok-got.ensures.told told is in
          omega (arith, fills.ended (omega (arith, room, c.if-got-place.true)), at.here, at.inside told is, length-drop (g.S.Source.place c.args.source.now) told);
    }

pub returns-clause-is_at : goal.returns-clause-is_at
returns-clause-is_at g c =
    let read = c.in_ok-got.ensures in
    let room : length c.read_full.new.buf ≡ length c.args.bytes.now = search rules in
    let all : c.in_ok-got.field-0 ≡ length c.args.bytes.now = omega (arith, room, read.bound, c.if-got-place.false) in
    let further = is_further g.S.Source c.args.source.now c.read_full.new.source c.args.place c.in_ok-got.field-0 c.requires.is_at read.keeps.told read.moved
    (inside g (goal.at.returns-clause-is_at g c).In_ok-got) in
    rw all at further

pub returns-clause-whole : goal.returns-clause-whole
returns-clause-whole g c told is = omega (arith, inside g (goal.at.returns-clause-whole g c).In_ok-got told is, c.if-got-place.false)
