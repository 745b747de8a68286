-- The windows of a core are runs one after the other.
use Rattle.std.proofs.Common.{◌≡◌, List, [], ◌∷◌, sym, refl, ap, ◌∙◌}
use Rattle.std.specs.Map.{keys_of}
use Rattle.fv_plane.specs.declared.key.Key.{Key}
use Rattle.serve_machine.specs.Machine.{replay}
use Rattle.serve_machine.specs.Law.{keys_machine}
use Rattle.serve_core.specs.Runs.{keys_alone, opening_of, state_of, WindowsAreRuns}
use Rattle.serve_core.proofs.StepLemmas.{keys_again}

keys_back : (ks : List Key) → ks ≡ keys_of (keys_alone ks)
keys_back [] = refl
keys_back (k ∷ ks) = ap (λ l. k ∷ l) (keys_back ks)

pub windows_are_runs : (I : Type 0) → WindowsAreRuns I
windows_are_runs I c r =
    let same = keys_back c.fixed.opening in
    record {
      state = state_of c r.got r.entered;
      ran = ap (λ ks. replay (keys_machine (record c.fixed { opening = ks })) (opening_of c) c.journal) (sym same) ∙ r.runs;
      left = sym (keys_again c.cache);
    }
