use Rattle.std.proofs.Common.{rules, ◌≡◌}
use Rattle.avs_values.specs.Operators as v
use Rattle.avs_meaning.specs.Expressions as m
use Rattle.avs_meaning.specs.State.{lifted}
use Rattle.avs_state.specs.States.{state_of}
use Rattle.avs_expressions.proofs.MemoryLemmas.{hides_lifted}
use Rattle.avs_expressions.proofs.operate.combined.Goals as goal

pub returns-in-Plus-Clip-Clip-clause-memory : goal.returns-in-Plus-Clip-Clip-clause-memory
returns-in-Plus-Clip-Clip-clause-memory c = λ here.
    rw (c.in-Plus-Clip-Clip.is-0, c.in-Plus-Clip-Clip.is-1, c.in-Plus-Clip-Clip.is-2) (c.make.ensures.memory here)

pub returns-in-PlusPlus-Clip-Clip-clause-memory : goal.returns-in-PlusPlus-Clip-Clip-clause-memory
returns-in-PlusPlus-Clip-Clip-clause-memory c = λ here.
    rw (c.in-PlusPlus-Clip-Clip.is-0, c.in-PlusPlus-Clip-Clip.is-1, c.in-PlusPlus-Clip-Clip.is-2)
    (c.make-in-PlusPlus-Clip-Clip.ensures.memory here)

pub returns-in_default-clause-memory : goal.returns-in_default-clause-memory
returns-in_default-clause-memory c = λ here.
    let state = state_of c.args.state.now in
    let answer = m.placed here c.args.line (v.binary (m.binary_of c.args.op) c.args.left.now c.args.right.now) in
    let plain : m.combined here c.args.op c.args.line c.args.left.now c.args.right.now state ≡ lifted answer state = search rules in
    rw plain (hides_lifted answer state c.compared.result (c.compared.ensures.memory here))
