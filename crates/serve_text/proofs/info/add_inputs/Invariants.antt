use Rattle.std.proofs.Common.{◌≡◌, ◌++◌, take}
use Rattle.serve_text.specs.InfoText.{inputs_text}
use Rattle.serve_text.proofs.info.add_inputs.Given as goal

-- the inputs before were added
abbrev pub invariant-loop-input : goal.invariant-loop-input
invariant-loop-input l = l.text.items ≡ l.fn.text.items ++ inputs_text (take l.input-index l.inputs)
