use Rattle.std.proofs.Common.{rules}
use Rattle.avs_calls.proofs.settings.set_mode.Goals as goal

pub returns-in-Ok-clause-memory : goal.returns-in-Ok-clause-memory
returns-in-Ok-clause-memory c = λ here. search (rules, c.set_mode.ensures.memory here)
