use Rattle.std.proofs.Common.{◌≡◌, map}
use Rattle.std.specs.List.{range_with_len}
use Rattle.clip_term.specs.Time.{from_input, in_range}
use Rattle.clip_reference.proofs.asked.one_of_each.Given as goal

abbrev pub invariant-loop-i : goal.invariant-loop-i
invariant-loop-i l = l.origins.items ≡ map (λ i. in_range l.infos (from_input i l.n)) (range_with_len 0 l.i)
