-- The instances are taken one by one.
use Rattle.std.proofs.Common.{◌≡◌, length}
use Rattle.serve_app.proofs.ClosingLemmas.{Taken}
use Rattle.serve_app.proofs.closing.close_table.Given as goal

abbrev pub invariant-loop-instance : goal.invariant-loop-instance
invariant-loop-instance g l = record {
  taken : Taken g.H.Src.Source l.fn.table l.table (g.H.HeldFiles.given l.fn.files) (g.H.HeldFiles.given l.files) (g.H.HeldFiles.faults l.fn.files) (g.H.HeldFiles.faults l.files);
  fetched : g.H.HeldFiles.fetched l.files ≡ g.H.HeldFiles.fetched l.fn.files;
  world : g.H.HeldFiles.world l.files ≡ g.H.HeldFiles.world l.fn.files;
  borrow : g.H.HeldFiles.borrow l.files ≡ g.H.HeldFiles.borrow l.fn.files;
}

abbrev pub decreases-loop-instance : goal.decreases-loop-instance
decreases-loop-instance g l = length l.table
