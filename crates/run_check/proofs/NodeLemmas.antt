-- Nodes past the last, and frames that the plan has.
use Rattle.std.proofs.Common.{◌≡◌, ℕ, ◌≤◌, true, false, length, List, ap}
use Rattle.std.specs.Prelude.{nat_lt}
use Rattle.std.proofs.lemmas.Bool.{ltb-true}
use Rattle.std.proofs.lemmas.List.{get_or_past}
use Rattle.fv_plane.specs.declared.key.Key.{Key}
use Rattle.clip_graph.specs.Plan.{Application, application_at, no_application, is_source, IsKeyBelow}
use Rattle.frame_cache.proofs.CallerLemmas.{left_true, right_true}
use Rattle.serve_machine.specs.Events.{mode_at}
use Rattle.serve_machine.specs.Machine.{is_key}

pub mode_past : (plan : List Application) (i : ℕ) → length plan ≤ i → mode_at plan i ≡ 1
mode_past plan i past = ap (λ (a : Application). a.mode) (get_or_past plan i no_application past)

pub source_past : (plan : List Application) (i : ℕ) → length plan ≤ i → is_source (application_at plan i).act ≡ false
source_past plan i past = ap (λ (a : Application). is_source a.act) (get_or_past plan i no_application past)

pub key_below : (plan : List Application) (k : Key) → is_key plan k ≡ true → IsKeyBelow plan (length plan) k
key_below plan k h = record {
  node = ltb-true k.node (length plan) (left_true (nat_lt k.node (length plan)) (nat_lt k.n (application_at plan k.node).info.frames) h);
  number = ltb-true k.n (application_at plan k.node).info.frames (right_true (nat_lt k.node (length plan)) (nat_lt k.n (application_at plan k.node).info.frames) h);
}
