-- The serial run, key by key, and that it is whole work.
use Rattle.std.proofs.Common.{◌≡◌, ℕ, zero, suc, ◌+◌, ◌-◌, ◌<◌, true, false, List, [], ◌∷◌, ◌++◌, length, slice_get, sym, ap, ◌∙◌, subst, ⊎_elim, arith, append_assoc, append-nil}
use Rattle.std.specs.List.{All, range_with_len}
use Rattle.std.proofs.lemmas.List.Elements.{All-head, All-tail}
use Rattle.fv_plane.specs.declared.key.Key.{Key}
use Rattle.clip_graph.specs.Plan.{Application, IsPlan, input_keys, IsKeyBelow}
use Rattle.clip_graph.proofs.UnfoldingLemmas.{inputs_are_keys}
use Rattle.serve_machine.specs.declared.event.Event.{Event}
use Rattle.serve_machine.specs.declared.event.Event.TheVariants.{Take, Fail}
use Rattle.serve_machine.specs.declared.event.WindowStop.{WindowStop}
use Rattle.serve_machine.specs.Events.{frame_key, has}
use Rattle.serve_machine.specs.SerialRun.{Serial, each_produced, serial_production_within, serial_production, serial_window}
use Rattle.serve_machine.specs.Work.{Production, Productions, hit, made, done, more, Deliveries, none, also, CutShort, untaken, taken, FailedWork, failed, SerialIsWhole}
use Rattle.serve_machine.proofs.KeyLemmas.{test}

-- one more key, produced after the others
pub produced_more : (produce : List Key → Key → Serial) (keys : List Key) (ks : List Key) (k : Key)
    → each_produced produce keys (ks ++ k ∷ [])
    ≡ (let before = each_produced produce keys ks in
    let one = produce before.keys k in
    record { events = before.events ++ one.events; keys = one.keys })
produced_more produce keys [] k =
    ap (λ es. record { events = es; keys = (produce keys k).keys }) (append-nil (produce keys k).events)
produced_more produce keys (j ∷ js) k =
    let ih = produced_more produce (produce keys j).keys js k in
    let rest = each_produced produce (produce keys j).keys js in
    ap (λ (s : Serial). record { events = (produce keys j).events ++ s.events; keys = s.keys }) ih
    ∙ ap (λ es. record { events = es; keys = (produce rest.keys k).keys })
    (sym (append_assoc (produce keys j).events rest.events (produce rest.keys k).events))

-- where each of the keys is produced whole, so are all
pub each_whole : (plan : List Application) (produce : List Key → Key → Serial) (i : ℕ)
    → ((keys : List Key) (k : Key) → k.node < i → Production plan 0 k (produce keys k).events)
    → (keys : List Key) (ks : List Key) → All (IsKeyBelow plan i) ks → Productions plan 0 ks (each_produced produce keys ks).events
each_whole plan produce i whole keys [] below = done
each_whole plan produce i whole keys (k ∷ ks) below =
    more (whole keys k (All-head (IsKeyBelow plan i) k ks below).node)
    (each_whole plan produce i whole (produce keys k).keys ks (All-tail (IsKeyBelow plan i) k ks below))

pub whole_within : (plan : List Application) → IsPlan plan → (capacity most : ℕ) (keys : List Key) (k : Key) → k.node < most → k.node < length plan
    → Production plan 0 k (serial_production_within most plan capacity keys k).events
whole_within plan is capacity zero keys k less there = absurd (omega arith)
whole_within plan is capacity (suc most) keys k less there = ⊎_elim
    (λ (e : has k keys ≡ true). rw e hit)
    (λ (e : has k keys ≡ false). rw e (made (slice_get (each_produced (serial_production_within most plan capacity) keys (input_keys plan k)).keys (capacity - 1))
    (each_whole plan (serial_production_within most plan capacity) k.node
    (λ js j lower. whole_within plan is capacity most js j (omega arith) (omega arith)) keys (input_keys plan k) (inputs_are_keys plan k is there))))
    (test (has k keys))

window_whole : (plan : List Application) (root capacity : ℕ) (keys : List Key) (first count : ℕ) → IsPlan plan → root < length plan
    → Deliveries plan root 0 (range_with_len first count) (serial_window plan root capacity keys first count).events
window_whole plan root capacity keys first zero is there = none
window_whole plan root capacity keys first (suc count) is there =
    let one = serial_production plan capacity keys (frame_key root first) in
    also (whole_within plan is capacity (suc root) keys (frame_key root first) (omega arith) there)
    (window_whole plan root capacity one.keys (first + 1) count is there)

pub serial_is_whole : SerialIsWhole
serial_is_whole = record {
  key = λ plan capacity keys k is there. whole_within plan is capacity (suc k.node) keys k (omega arith) there;
  window = window_whole;
}

-- the two ways in which a failed worker's events end
pub failed_between : (plan : List Application) (root w : ℕ) (ns : List ℕ) (es : List Event) (why : WindowStop) → Deliveries plan root w ns es
    → FailedWork plan root w why (es ++ Fail w why ∷ [])
failed_between plan root w ns es why whole = failed (untaken whole)

pub failed_within : (plan : List Application) (root w : ℕ) (ns : List ℕ) (n : ℕ) (es fs closing : List Event) (why : WindowStop)
    → Deliveries plan root w ns es → CutShort plan w (frame_key root n) fs closing
    → FailedWork plan root w why (es ++ (Take w n ∷ ((fs ++ closing) ++ Fail w why ∷ [])))
failed_within plan root w ns n es fs closing why whole cut =
    subst (FailedWork plan root w why)
    (append_assoc es (Take w n ∷ fs) (closing ++ Fail w why ∷ []) ∙ ap (λ l. es ++ Take w n ∷ l) (sym (append_assoc fs closing (Fail w why ∷ []))))
    (failed (taken whole cut))
