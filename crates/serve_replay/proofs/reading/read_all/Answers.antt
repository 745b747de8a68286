-- At the end the text is the whole, and a text that is too long is the front of a longer one.
use Rattle.std.proofs.Common.{◌∙◌, Ok, ap, ◌+◌, ◌-◌, ◌<◌, ◌≤◌, length, rules}
use Rattle.serve_replay.specs.Verdicts.{longest}
use Rattle.serve_replay.proofs.ReadLemmas.{whole_text, too_long, room_left}
use Rattle.serve_replay.proofs.reading.read_all.Goals as goal

pub returns-in-Ok-false-clause-told : goal.returns-in-Ok-false-clause-told
returns-in-Ok-false-clause-told g c told is =
    let i = c.loop-text.invariant in
    let read = c.in-Ok-false.ensures in
    let here = i.keeps.told ∙ is in
    whole_text c.add_piece.new.text.items told _ (read.told told here ∙ i.told told is) (read.ended (ap Ok c.in-Ok-false.field-0-test) told here)

pub returns-in-Ok-false-clause-short : goal.returns-in-Ok-false-clause-short
returns-in-Ok-false-clause-short g c =
    let few : length c.loop-text.text.items ≤ longest = search rules in
    let room : c.min-room.result ≤ longest + 1 - length c.loop-text.text.items = search rules in
    let fewer : length c.add_piece.new.text.items < length c.loop-text.text.items + c.min-room.result = search rules in
    room_left (length c.loop-text.text.items) (length c.add_piece.new.text.items) longest c.min-room.result few room fewer

pub returns-clause-long : goal.returns-clause-long
returns-clause-long g c none told is =
    let i = c.loop-text.invariant in
    let long : longest < length c.loop-text.text.items = search rules in
    too_long c.loop-text.text.items told _ longest (i.told told is) long
