-- In a run the stop that is kept is that of the first failure.
use Rattle.std.proofs.Common.{◌≡◌, true, false, List, [], ◌∷◌, Option, Some, None, sym, refl, ap, ◌∙◌, ⊎_elim}
use Rattle.frame_cache.proofs.CallerLemmas.{test}
use Rattle.serve_machine.specs.declared.event.Event.{Event}
use Rattle.serve_machine.specs.declared.event.Event.TheVariants.{Hit, Claim, Enter, Leave, Evict, Publish, Abandon, Take, Deliver, Fail}
use Rattle.serve_machine.specs.declared.event.WindowStop.{WindowStop}
use Rattle.serve_machine.specs.Law.{keys_machine}
use Rattle.serve_machine.specs.Machine.{Machine, allowed, change, replay, State, kept_stop, stop_of, earlier, first_stop}
use Rattle.serve_machine.proofs.TruthLemmas.{some_same}
use Rattle.serve_core.specs.CoreValue.{CoreValue}
use Rattle.serve_core.specs.Runs.{IsRun, opening_of, state_of}

none_later : (o : Option WindowStop) → o ≡ earlier o None
none_later None = refl
none_later (Some why) = refl

kept_is : (o : Option WindowStop) (why : WindowStop) → Some (kept_stop o why) ≡ earlier o (Some why)
kept_is None why = refl
kept_is (Some first) why = refl

joined : (o p q : Option WindowStop) → earlier (earlier o p) q ≡ earlier o (earlier p q)
joined None p q = refl
joined (Some why) p q = refl

module _ {F : Type 0} (m : Machine F) where
  stop_after : (s : State F) (e : Event) → (change m s e).stop ≡ earlier s.stop (stop_of e)
  stop_after s (Hit w k) = none_later s.stop
  stop_after s (Claim w k) = none_later s.stop
  stop_after s (Enter w i j) = none_later s.stop
  stop_after s (Leave w i j) = none_later s.stop
  stop_after s (Evict w k) = none_later s.stop
  stop_after s (Publish w k) = none_later s.stop
  stop_after s (Abandon w k) = none_later s.stop
  stop_after s (Take w n) = none_later s.stop
  stop_after s (Deliver w n) = none_later s.stop
  stop_after s (Fail w why) = kept_is s.stop why

  stop_is : (es : List Event) (s t : State F) → replay m s es ≡ Some t → t.stop ≡ earlier s.stop (first_stop es)
  stop_is [] s t ran = ap (λ (z : State F). z.stop) (sym (some_same ran)) ∙ none_later s.stop
  stop_is (e ∷ es) s t ran = ⊎_elim
      (λ (ok : allowed m s e ≡ true).
      stop_is es (change m s e) t (rw ok at ran)
      ∙ (ap (λ o. earlier o (first_stop es)) (stop_after s e) ∙ joined s.stop (stop_of e) (first_stop es)))
      (λ (bad : allowed m s e ≡ false). let none : None ≡ Some t = rw bad at ran in absurd (cc)) (test (allowed m s e))

pub first_is_kept : {I : Type 0} (c : CoreValue I) → IsRun c → c.stop ≡ first_stop c.journal
first_is_kept c r = stop_is (keys_machine c.fixed) c.journal (opening_of c) (state_of c r.got r.entered) r.runs
