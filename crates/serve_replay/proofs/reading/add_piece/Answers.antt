-- What was read goes over to the text.
use Rattle.std.proofs.Common.{◌≡◌, ◌++◌, take, length, false, nat_eq, rules}
use Rattle.std.proofs.lemmas.Bool.{eqb-false}
use Rattle.serve_replay.proofs.ReadLemmas.{piece_added, none_left}
use Rattle.serve_replay.proofs.reading.add_piece.Goals as goal

pub returns-clause-told : goal.returns-clause-told
returns-clause-told g c told is =
    let read = c.in-Ok.ensures in
    let added : c.extend_from_slice.new.self.items ≡ c.args.text.now.items ++ take c.in-Ok.count c.read_full.new.buf = search rules in
    piece_added told c.read_full.new.buf c.in-Ok.count _ _ (read.told told is) read.moved c.args.text.now.items _ added

pub returns-clause-ended : goal.returns-clause-ended
returns-clause-ended g c other told is =
    let read = c.in-Ok.ensures in
    let few : nat_eq c.in-Ok.count (length c.read_full.new.buf) ≡ false = cc in
    none_left told c.read_full.new.buf c.in-Ok.count _ _ (read.told told is) read.moved read.bound (eqb-false c.in-Ok.count (length c.read_full.new.buf) few)
