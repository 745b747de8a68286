-- The place of a source after a read.
use Rattle.std.proofs.Common.{◌≡◌, ℕ, ◌+◌, ◌≤◌, List, length, Some, sym, ◌∙◌, arith}
use Rattle.fv_io.specs.declared.source.Source.{Ghosts}
use Rattle.seq_source.specs.FrameSource.{IsAt}

-- it is further by the number of bytes read
pub is_further : {S : Type 0} (source : Ghosts S) (old new : S) (place count : ℕ) → IsAt source old place → source.bytes new ≡ source.bytes old
    → source.place new ≡ source.place old + count
    → ((told : List ℕ) → source.bytes old ≡ Some told → place + count ≤ length told) → IsAt source new (place + count)
is_further source old new place count is_at same moved inside = record {
  here = omega (arith, moved, is_at.here);
  inside = λ told is. inside told (sym same ∙ is);
}
