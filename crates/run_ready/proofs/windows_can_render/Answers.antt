use Rattle.run_ready.proofs.ReadyLemmas.{windows_can_render}
use Rattle.run_ready.proofs.windows_can_render.Goals as goal

pub returns : goal.returns
returns c = windows_can_render
