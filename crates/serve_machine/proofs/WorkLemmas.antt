-- Work that a stop cut short.
use Rattle.std.proofs.Common.{◌≡◌, ℕ, zero, suc, ◌+◌, ◌<◌, ◌≤◌, ◌==◌, true, false, List, [], ◌∷◌, length, refl, sym, ap, ◌∙◌, inl, inr, ⊎_elim, arith, length-append}
use Rattle.std.specs.Prelude.{slice_index_or}
use Rattle.std.proofs.lemmas.Bool.{eqb-true}
use Rattle.clip_graph.specs.Plan.{Application}
use Rattle.serve_machine.specs.declared.event.Event.{Event}
use Rattle.serve_machine.specs.declared.event.Event.TheVariants.{Claim, Enter, Leave, Abandon, Take, Fail}
use Rattle.serve_machine.specs.declared.event.WindowStop.{WindowStop}
use Rattle.serve_machine.specs.declared.event.WindowStop.TheVariants.{Read}
use Rattle.serve_machine.specs.Events.{worker_of, frame_key, own_events}
use Rattle.serve_machine.specs.SerialExamples.{trimmed, two_workers}
use Rattle.serve_machine.specs.Work.{done, none, inside, between, unpublished, taken, FailedWork, failed, StoppedWork, AloneFails}
use Rattle.serve_machine.proofs.KeyLemmas.{test}

-- a worker's events are some of all
own_few : (w : ℕ) (es : List Event) → length (own_events w es) ≤ length es
own_few w [] = omega arith
own_few w (e ∷ es) = let ih = own_few w es in ⊎_elim
    (λ (g : (worker_of e == w) ≡ true). rw g (omega (arith, ih)))
    (λ (g : (worker_of e == w) ≡ false). rw g (omega (arith, ih)))
    (test (worker_of e == w))

-- and fewer where another's event is among them
own_fewer : (w : ℕ) (e : Event) → (worker_of e ≡ w → ⊥) → (es : List Event) (i : ℕ) → i < length es → slice_index_or es i e ≡ e
    → length (own_events w es) < length es
own_fewer w e other [] i less at = absurd (omega (arith, less))
own_fewer w e other (x ∷ es) zero less at = let few = own_few w es in ⊎_elim
    (λ (g : (worker_of x == w) ≡ true). absurd (other (ap worker_of (sym at) ∙ eqb-true (worker_of x) w g)))
    (λ (g : (worker_of x == w) ≡ false). rw g (omega (arith, few)))
    (test (worker_of x == w))
own_fewer w e other (x ∷ es) (suc i) less at = let ih = own_fewer w e other es i (omega (arith, less)) at in ⊎_elim
    (λ (g : (worker_of x == w) ≡ true). rw g (omega (arith, ih)))
    (λ (g : (worker_of x == w) ≡ false). rw g (omega (arith, ih)))
    (test (worker_of x == w))

never_alone : (plan : List Application) (root w : ℕ) (why : WindowStop) (journal : List Event) → StoppedWork plan root w why journal journal → ⊥
never_alone plan root w why journal s =
    let there = s.fails in
    let fewer = own_fewer w (Fail s.other why) s.differs s.before there.0 there.1 there.2 in
    let few = own_few w s.after in
    let all : length journal ≡ length s.before + length s.after = ap length s.journal_is ∙ length-append s.before s.after in
    let own : length journal ≡ length (own_events w s.before) + length (own_events w s.after) = ap length s.own_is ∙ length-append (own_events w s.before) (own_events w s.after) in
    omega (arith, fewer, few, all, own)

pub alone_fails : AloneFails
alone_fails plan root w why journal (inl own) = own
alone_fails plan root w why journal (inr s) = absurd (never_alone plan root w why journal s)

-- TWO WORKERS

pub first_failed : FailedWork trimmed 0 0 (Read 0) (own_events 0 two_workers)
first_failed = failed (taken none (unpublished done))

pub second_stopped : StoppedWork trimmed 0 1 (Read 0) two_workers (own_events 1 two_workers)
second_stopped = record {
  before = Take 0 0 ∷ Claim 0 (frame_key 0 0) ∷ Enter 0 0 0 ∷ Take 1 1 ∷ Claim 1 (frame_key 0 1) ∷ Leave 0 0 0 ∷ Abandon 0 (frame_key 0 0) ∷ Fail 0 (Read 0) ∷ [];
  after = Abandon 1 (frame_key 0 1) ∷ [];
  journal_is = refl;
  own_is = refl;
  cut = taken none (inside (between [] refl done));
  other = 0;
  differs = omega arith;
  fails = (7, omega arith, refl);
}
