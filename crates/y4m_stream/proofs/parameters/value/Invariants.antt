use Rattle.std.proofs.Common.{◌≡◌, map}
use Rattle.std.specs.Option.{option_copied}
use Rattle.y4m_stream.specs.Head.{value}
use Rattle.y4m_stream.proofs.parameters.value.Given as goal

-- the value among the parameters so far
abbrev pub invariant-loop-parameter : goal.invariant-loop-parameter
invariant-loop-parameter l = option_copied l.found ≡ value l.letter (map (λ p. p.now) l.yielded)
