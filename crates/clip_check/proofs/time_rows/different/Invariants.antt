use Rattle.std.proofs.Common.{◌≡◌, ◌+◌, ◌≤◌, length}
use Rattle.clip_term.specs.Time.{different}
use Rattle.clip_check.proofs.time_rows.different.Given as goal

abbrev pub invariant-loop-number : goal.invariant-loop-number
invariant-loop-number l = (l.count + different l.rest ≡ different l.numbers) × (l.count + length l.rest ≤ length l.numbers)

abbrev pub decreases-loop-number : goal.decreases-loop-number
decreases-loop-number l = length l.rest
