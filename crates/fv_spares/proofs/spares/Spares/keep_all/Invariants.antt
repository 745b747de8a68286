use Rattle.std.proofs.Common.{ℕ, ◌*◌, length}
use Rattle.fv_spares.specs.Spares.{HasKept, HaveBytes}
use Rattle.fv_spares.proofs.spares.Spares.keep_all.Given as goal

abbrev pub invariant-loop-frame : goal.invariant-loop-frame
invariant-loop-frame l = record {
  luma : (bytes : ℕ) → HaveBytes 0 bytes l.yielded → HasKept 16 (length l.yielded) bytes l.fn.self.luma l.self.luma;
  chroma : (bytes : ℕ) → HaveBytes 1 bytes l.yielded → HasKept 32 (2 * length l.yielded) bytes l.fn.self.chroma l.self.chroma;
}
