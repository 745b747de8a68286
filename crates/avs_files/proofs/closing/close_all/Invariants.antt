-- The faults of the sources that are left are those that are still to count.
use Rattle.std.proofs.Common.{◌≡◌, ◌≤◌, ◌-◌, length}
use Rattle.fv_io.specs.Faults.{with_faults}
use Rattle.avs_files.specs.Closed.{faults_among}
use Rattle.avs_files.proofs.closing.close_all.Given as goal

abbrev pub invariant-loop-source : goal.invariant-loop-source
invariant-loop-source g l =
    let files = g.H.HeldFiles in
    let source = g.H.Src.Source in
    record {
      few : length l.sources.items ≤ length l.fn.sources.items;
      given : files.given l.files ≡ files.given l.fn.files - (length l.fn.sources.items - length l.sources.items);
      faults : with_faults (files.faults l.files) (faults_among source l.sources.items) ≡ with_faults (files.faults l.fn.files) (faults_among source l.fn.sources.items);
      fetched : files.fetched l.files ≡ files.fetched l.fn.files;
      world : files.world l.files ≡ files.world l.fn.files;
      borrow : files.borrow l.files ≡ files.borrow l.fn.files;
    }

abbrev pub decreases-loop-source : goal.decreases-loop-source
decreases-loop-source g l = goal.left-loop-source g l
