use Rattle.std.proofs.Common.{◌≡◌, ℕ, ◌+◌, ◌<◌, length, take, get_or}
use Rattle.serve_text.specs.Report.{none, with_events}
use Rattle.serve_text.proofs.counts.count_window.Given as goal

-- the events before are counted
abbrev pub invariant-loop-event : goal.invariant-loop-event
invariant-loop-event l = record {
  counts : (k : ℕ) → k < length l.fn.table → get_or l.table k none ≡ with_events (l.first + k) (take l.event-index l.events) (get_or l.fn.table k none);
  size : length l.table ≡ length l.fn.table;
}
