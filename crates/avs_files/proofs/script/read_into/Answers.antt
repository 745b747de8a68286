-- What is read is the whole script, or is longer than a script may be.
use Rattle.std.proofs.Common.{◌≡◌, ◌∙◌, take, ◌+◌, ◌^◌, Ok, sym, ap, length, rules}
use Rattle.avs_files.proofs.FileLemmas.{read_whole, longer, short_enough, too_long, a_script, no_text}
use Rattle.avs_files.proofs.script.read_into.Goals as goal

pub returns-then-count-buf-clause-told : goal.returns-then-count-buf-clause-told
returns-then-count-buf-clause-told g c told is =
    let room : length c.read_full.new.buf ≡ 2 ^ 20 + 1 = search rules in
    too_long told (longer told c.read_full.new.buf c.in-Ok.count _ (2 ^ 20) c.requires.start (c.in-Ok.ensures.told told is) room c.if-count-buf.true)

pub returns-in_default-from_utf8-clause-told : goal.returns-in_default-from_utf8-clause-told
returns-in_default-from_utf8-clause-told g c told is =
    let room : length c.read_full.new.buf ≡ 2 ^ 20 + 1 = search rules in
    let whole : take c.in-Ok.count c.read_full.new.buf ≡ told = read_whole told c.read_full.new.buf c.in-Ok.count _ c.requires.start (c.in-Ok.ensures.told told is) c.in-Ok.ensures.bound c.if-count-buf.false in
    no_text told (short_enough told c.read_full.new.buf c.in-Ok.count (2 ^ 20) whole room c.in-Ok.ensures.bound c.if-count-buf.false) (λ utf8. c.in_default-from_utf8.ensures.cases.0 (rw whole utf8))

pub returns-in-Ok-from_str-clause-told : goal.returns-in-Ok-from_str-clause-told
returns-in-Ok-from_str-clause-told g c told is =
    let room : length c.read_full.new.buf ≡ 2 ^ 20 + 1 = search rules in
    let whole : take c.in-Ok.count c.read_full.new.buf ≡ told = read_whole told c.read_full.new.buf c.in-Ok.count _ c.requires.start (c.in-Ok.ensures.told told is) c.in-Ok.ensures.bound c.if-count-buf.false in
    let same : c.in-Ok-from_str.text ≡ told = c.in-Ok-from_str.ensures ∙ c.in-Ok-from_utf8.ensures.cases.0 ∙ whole in
    a_script told (short_enough told c.read_full.new.buf c.in-Ok.count (2 ^ 20) whole room c.in-Ok.ensures.bound c.if-count-buf.false) (rw (sym whole) c.in-Ok-from_utf8.ensures.cases.1) ∙ ap Ok (sym same)
