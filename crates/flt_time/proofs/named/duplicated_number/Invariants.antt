use Rattle.std.proofs.Common.{◌≡◌, ◌-◌, ◌≤◌, drop}
use Rattle.clip_term.specs.Time.{duplicated}
use Rattle.flt_time.proofs.NumberLemmas.{duplicated_from}
use Rattle.flt_time.proofs.named.duplicated_number.Given as goal

abbrev pub invariant-loop-named : goal.invariant-loop-named
invariant-loop-named l =
    record {
      reached : l.low ≤ l.number;
      few : l.number ≤ l.n;
      same : drop (l.number - l.low) (duplicated_from l.frames l.low (l.count - l.low)) ≡ drop l.n (duplicated l.frames l.count);
    }

abbrev pub decreases-loop-named : goal.decreases-loop-named
decreases-loop-named l = 4294967296 - l.low
