use Rattle.std.proofs.Common.{◌≡◌}
use Rattle.avs_meaning.specs.Table as d
use Rattle.avs_calls.proofs.forms.clip_and_numbers.Given as goal

abbrev pub invariant-loop-i : goal.invariant-loop-i
invariant-loop-i l = l.params.items ≡ d.clip_and_numbers l._i
