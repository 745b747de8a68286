use Rattle.std.proofs.Common.{◌≡◌, ℕ, ◌+◌, ◌*◌, ◌^◌, ◌<◌, length, map, take, get_or}
use Rattle.serve_machine.specs.Events.{window_of}
use Rattle.serve_text.specs.Report.{none, counts_of, AreAtMost}
use Rattle.serve_text.proofs.counts.count_windows.Given as goal

-- the windows before are counted
abbrev pub invariant-loop-windowed : goal.invariant-loop-windowed
invariant-loop-windowed l = record {
  counts : (k : ℕ) → k < length l.fn.table → get_or l.table k none ≡ counts_of (map window_of (take l.windowed-index l.journal.windows.items)) (l.first + k);
  most : AreAtMost (l.windowed-index * 2 ^ 64) l.table;
  size : length l.table ≡ length l.fn.table;
}
