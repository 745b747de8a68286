use Rattle.std.proofs.Common.{◌≡◌, ◌+◌, ◌-◌, ◌<◌, ◌≤◌, length, drop}
use Rattle.clip_term.specs.Time.{spliced}
use Rattle.flt_time.proofs.rows.spliced.Given as goal

abbrev pub invariant-loop-input : goal.invariant-loop-input
invariant-loop-input l =
    record {
      inside : l.input < length l.infos;
      few : l.input + l.number ≤ l.n;
      same : spliced l.input (drop l.input l.infos) l.number ≡ spliced 0 l.infos l.n;
    }

abbrev pub decreases-loop-input : goal.decreases-loop-input
decreases-loop-input l = length l.infos - l.input
