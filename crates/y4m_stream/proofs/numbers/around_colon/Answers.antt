use Rattle.std.proofs.Common.{◌+◌, ◌-◌, List, ℕ, length, drop, sym, ◌∙◌, arith}
use Rattle.std.proofs.lemmas.List.{take_all, length-drop}
use Rattle.y4m_stream.proofs.NumberLemmas.{around, no_colon}
use Rattle.y4m_stream.proofs.numbers.around_colon.Goals as goal

pub returns-in-Some-clause-front : goal.returns-in-Some-clause-front
returns-in-Some-clause-front c = (around c.args.text.now c.in-Some.colon (sym c.in-Some.ensures.colon)).0

pub returns-in-Some-clause-back : goal.returns-in-Some-clause-back
returns-in-Some-clause-back c =
    let rest : List ℕ = drop (c.in-Some.colon + 1) c.args.text.now in
    take_all (length c.args.text.now - (c.in-Some.colon + 1)) rest (omega (arith, length-drop (c.in-Some.colon + 1) c.args.text.now)) ∙ (around c.args.text.now c.in-Some.colon (sym c.in-Some.ensures.colon)).1

pub returns-in-None-clause-front : goal.returns-in-None-clause-front
returns-in-None-clause-front c = (no_colon c.args.text.now (sym c.in-None.ensures.colon)).0

pub returns-in-None-clause-back : goal.returns-in-None-clause-back
returns-in-None-clause-back c = (no_colon c.args.text.now (sym c.in-None.ensures.colon)).1
