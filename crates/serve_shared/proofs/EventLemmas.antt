-- The events of a worker, and the failure that stopped a window.
use Rattle.std.proofs.Common.{◌≡◌, ℕ, ◌==◌, true, false, if◌then◌else◌, List, [], ◌∷◌, Contains, Some, None, sym, refl, ap, ◌∙◌, eq-eqb, arith}
use Rattle.std.proofs.lemmas.List.Elements.{Contains-append_right}
use Rattle.turn_lock.specs.Entries.{entries_of}
use Rattle.serve_machine.specs.declared.event.Event.{Event}
use Rattle.serve_machine.specs.declared.event.Event.TheVariants.{Hit, Claim, Enter, Leave, Evict, Publish, Abandon, Take, Deliver, Fail}
use Rattle.serve_machine.specs.declared.event.WindowStop.{WindowStop}
use Rattle.serve_machine.specs.Events.{worker_of, own_events}
use Rattle.serve_machine.specs.Machine.{stop_of, earlier, first_stop}
use Rattle.serve_machine.proofs.TruthLemmas.{some_same}

pub entries_own : (w : ℕ) (es : List Event) → entries_of worker_of w es ≡ own_events w es
entries_own w [] = refl
entries_own w (e ∷ es) =
    let ih = entries_own w es in
    elim (worker_of e == w) as (λ b. (if b then e ∷ entries_of worker_of w es else entries_of worker_of w es) ≡ (if b then e ∷ own_events w es else own_events w es)) [ true ↦ ap (λ l. e ∷ l) ih | false ↦ ih ]

-- The first stop is a failure, and another's where the worker's own events have none.

pub record IsOthers (w : ℕ) (why : WindowStop) (es : List Event) : Type 0 where
  pub other : ℕ
  pub differs : other ≡ w → ⊥
  pub fails : Contains es (Fail other why)

one_more : (w : ℕ) (why : WindowStop) (e : Event) (es : List Event) → IsOthers w why es → IsOthers w why (e ∷ es)
one_more w why e es o = record { other = o.other; differs = o.differs; fails = Contains-append_right (e ∷ []) es (Fail o.other why) o.fails }

later_none : (w : ℕ) (e : Event) (es : List Event) → first_stop (own_events w (e ∷ es)) ≡ None → stop_of e ≡ None → first_stop (own_events w es) ≡ None
later_none w e es h quiet = elim (worker_of e == w) as (λ b. first_stop (if b then e ∷ own_events w es else own_events w es) ≡ None → first_stop (own_events w es) ≡ None)
    [ true ↦ (λ g. sym (ap (λ o. earlier o (first_stop (own_events w es))) quiet) ∙ g) | false ↦ (λ g. g) ] h

pub stopped_by : (w : ℕ) (why : WindowStop) (es : List Event) → first_stop es ≡ Some why → first_stop (own_events w es) ≡ None → IsOthers w why es
stopped_by w why [] h own = absurd (cc)
stopped_by w why (Fail v first ∷ es) h own = record {
  other = v;
  differs = λ same. let mine : first_stop (own_events w (Fail v first ∷ es)) ≡ Some first = rw (eq-eqb v w same) refl in let bad : None ≡ Some first = sym own ∙ mine in absurd (cc);
  fails = (0, omega arith, ap (λ z. Fail v z) (some_same h));
}
stopped_by w why (Hit v k ∷ es) h own = one_more w why (Hit v k) es (stopped_by w why es h (later_none w (Hit v k) es own refl))
stopped_by w why (Claim v k ∷ es) h own = one_more w why (Claim v k) es (stopped_by w why es h (later_none w (Claim v k) es own refl))
stopped_by w why (Enter v i j ∷ es) h own = one_more w why (Enter v i j) es (stopped_by w why es h (later_none w (Enter v i j) es own refl))
stopped_by w why (Leave v i j ∷ es) h own = one_more w why (Leave v i j) es (stopped_by w why es h (later_none w (Leave v i j) es own refl))
stopped_by w why (Evict v k ∷ es) h own = one_more w why (Evict v k) es (stopped_by w why es h (later_none w (Evict v k) es own refl))
stopped_by w why (Publish v k ∷ es) h own = one_more w why (Publish v k) es (stopped_by w why es h (later_none w (Publish v k) es own refl))
stopped_by w why (Abandon v k ∷ es) h own = one_more w why (Abandon v k) es (stopped_by w why es h (later_none w (Abandon v k) es own refl))
stopped_by w why (Take v n ∷ es) h own = one_more w why (Take v n) es (stopped_by w why es h (later_none w (Take v n) es own refl))
stopped_by w why (Deliver v n ∷ es) h own = one_more w why (Deliver v n) es (stopped_by w why es h (later_none w (Deliver v n) es own refl))
