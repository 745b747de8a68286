use Rattle.std.proofs.Common.{◌≡◌, ◌+◌, ◌-◌, map}
use Rattle.std.specs.List.{range_with_len}
use Rattle.clip_term.specs.Time.{from_input, in_range}
use Rattle.clip_reference.proofs.asked.around.Given as goal

abbrev pub invariant-loop-k : goal.invariant-loop-k
invariant-loop-k l = l.origins.items ≡ map (λ k. in_range l.infos (from_input 0 (l.n + k - l.radius))) (range_with_len 0 l.k)
