use Rattle.std.proofs.Common.{◌≡◌, ℕ, ◌<◌, length, get_or}
use Rattle.serve_text.specs.Report.{none}
use Rattle.serve_text.proofs.counts.clear.Given as goal

-- the counts before are zero
abbrev pub invariant-loop-counts : goal.invariant-loop-counts
invariant-loop-counts l = record {
  zero : (k : ℕ) → k < l.counts-index → get_or l.table k none ≡ none;
  size : length l.table ≡ length l.fn.table;
}
