-- A seat from one turn to the next.
use Rattle.std.proofs.Common.{◌≡◌, ℕ, List, [], ◌∷◌, ◌++◌, None, Result, Ok, Err, IfSome, sym, refl, ap, ◌∙◌, subst, append_assoc, append-nil}
use Rattle.fv_plane.specs.Picture.{Picture}
use Rattle.fv_plane.specs.declared.key.Key.{Key}
use Rattle.clip_graph.specs.Plan.{Application}
use Rattle.inst_table.specs.declared.held.Held.{Ghosts}
use Rattle.inst_table.specs.Lent.{Lent}
use Rattle.turn_lock.proofs.EntryLemmas.{prefix_of_itself}
use Rattle.serve_machine.specs.declared.event.Event.{Event}
use Rattle.serve_machine.specs.declared.event.Event.TheVariants.{Claim}
use Rattle.serve_machine.specs.declared.event.WindowStop.{WindowStop}
use Rattle.serve_machine.specs.Work.{abandons}
use Rattle.serve_machine.specs.Holdings.{Holdings, holdings_after, own_holdings}
use Rattle.serve_machine.specs.Machine.{first_stop}
use Rattle.serve_machine.proofs.ClosingLemmas.{holdings_after-append, none_stop}
use Rattle.serve_core.specs.Stands.{IsRight, Fits}
use Rattle.serve_core.specs.Turns.{HasCount, ForAllOf}
use Rattle.serve_core.specs.WorkerValue.{WorkerValue}
use Rattle.serve_shared.specs.declared.steps.Found.{Found}
use Rattle.serve_shared.specs.declared.steps.Found.TheVariants.{Hit, Claimed, Taken}
use Rattle.serve_shared.specs.declared.steps.Entry.{Entry}
use Rattle.serve_shared.specs.declared.steps.Entry.TheVariants.{Leased, Busy}
use Rattle.serve_shared.specs.Seats.{CoreSeat, seat_holdings, HasSeat, AtWork, IsSeat, Adds, RightFor}
use Rattle.serve_shared.specs.Shares.{Closes, StopsNow}
use Rattle.serve_shared.specs.Turns.{IsLent, HasHit, TurnAsks, HasEntered, TurnEnters}

module _ {I : Type 0} where
  pub seat_itself : (seat : CoreSeat I) → IsSeat seat seat
  seat_itself seat = record { same = refl; seen = prefix_of_itself seat.seen }

  pub seat_more : (a b c : CoreSeat I) → IsSeat a b → IsSeat b c → IsSeat a c
  seat_more a b c p q = record {
    same = q.same ∙ ap (λ (z : CoreSeat I). record z { seen = c.seen; own = c.own }) p.same;
    seen = (p.seen.0 ++ q.seen.0, sym (append_assoc a.seen p.seen.0 q.seen.0) ∙ (ap (λ l. l ++ q.seen.0) p.seen.1 ∙ q.seen.1));
  }

  pub adds_nothing : (seat : CoreSeat I) → Adds [] seat seat
  adds_nothing seat = record { seat_is = seat_itself seat; own = sym (append-nil seat.own) }

  pub adds_more : (es fs : List Event) (a b c : CoreSeat I) → Adds es a b → Adds fs b c → Adds (es ++ fs) a c
  adds_more es fs a b c p q = record { seat_is = seat_more a b c p.seat_is q.seat_is; own = q.own ∙ (ap (λ l. l ++ fs) p.own ∙ append_assoc a.own es fs) }

  pub same_tag : (seat later : CoreSeat I) → IsSeat seat later → later.tag ≡ seat.tag
  same_tag seat later s = ap (λ z. z.tag) s.same

  pub same_lock : (seat later : CoreSeat I) → IsSeat seat later → later.lock ≡ seat.lock
  same_lock seat later s = ap (λ z. z.lock) s.same

  module _ (me : WorkerValue) (es : List Event) (seat later : CoreSeat I) (a : Adds es seat later) where
    pub holdings_later : seat_holdings me later ≡ holdings_after me.plan (seat_holdings me seat) es
    holdings_later = ap (own_holdings me.plan) a.own ∙ holdings_after-append me.plan (record { claims = []; leases = []; outputs = [] }) seat.own es

    pub sits_later : HasSeat me seat → first_stop es ≡ None → HasSeat me later
    sits_later s quiet = record {
      is_plan = s.is_plan;
      start = s.start;
      tag = same_tag seat later a.seat_is ∙ s.tag;
      number = ap (λ z. z.number) a.seat_is.same ∙ s.number;
      window = s.window;
      running = ap first_stop a.own ∙ none_stop seat.own es s.running quiet;
    }

    pub work_later : AtWork me seat → first_stop es ≡ None → (holdings_after me.plan (seat_holdings me seat) es).leases ≡ [] → AtWork me later
    work_later w quiet unlent = record { sits = sits_later w.sits quiet; unlent = ap (λ (h : Holdings). h.leases) holdings_later ∙ unlent }

  -- What is said of a later seat of the same own events holds of the first.

  pub right_since : (of : Ghosts I) (plan : List Application) (seat later : CoreSeat I) (k : Key) (x : Picture) → later.tag ≡ seat.tag → RightFor of plan later k x → RightFor of plan seat k x
  right_since of plan seat later k x tag right = subst (λ o. IfSome o (λ s. ForAllOf of.feed of.faults s (λ book numbers. IsRight book plan k x))) tag right

  module _ (me : WorkerValue) (seat mid : CoreSeat I) (waits : Adds [] seat mid) where
    own_same : mid.own ≡ seat.own
    own_same = waits.own ∙ append-nil seat.own

    pub work_waits : AtWork me seat → AtWork me mid
    work_waits w = work_later me [] seat mid waits w refl w.unlent

    pub holdings_wait : seat_holdings me mid ≡ seat_holdings me seat
    holdings_wait = ap (own_holdings me.plan) own_same

    pub adds_since : (es : List Event) (later : CoreSeat I) → Adds es mid later → Adds es seat later
    adds_since es later a = adds_more [] es seat mid later waits a

    pub stops_since : (why : WindowStop) (later : CoreSeat I) → StopsNow me why [] mid later → StopsNow me why [] seat later
    stops_since why later s = record {
      seat_is = seat_more seat mid later waits.seat_is s.seat_is;
      own_seen = s.own_seen;
      closes = subst (λ own. Closes me.number why own (abandons me.number (own_holdings me.plan own).claims) later) own_same s.closes;
    }

    module _ (of : Ghosts I) where
      -- no other worker has the claim any more
      pub asks_hit : (later : CoreSeat I) (k : Key) (x : Picture) (r : Result Found WindowStop) → r ≡ Ok (Hit x) → TurnAsks of me mid k r later → HasHit of me seat k x later
      asks_hit later k x r e a = let h = subst (λ z. TurnAsks of me mid k z later) e a in record { adds = adds_since _ later h.adds; shape = h.shape; right = right_since of me.plan seat mid k x (same_tag seat mid waits.seat_is) h.right }

      pub asks_claimed : (later : CoreSeat I) (k : Key) (r : Result Found WindowStop) → r ≡ Ok Claimed → TurnAsks of me mid k r later → Adds (Claim me.number k ∷ []) seat later
      asks_claimed later k r e a = adds_since (Claim me.number k ∷ []) later (subst (λ z. TurnAsks of me mid k z later) e a)

      pub asks_stopped : (later : CoreSeat I) (k : Key) (why : WindowStop) (r : Result Found WindowStop) → r ≡ Err why → TurnAsks of me mid k r later → StopsNow me why [] seat later
      asks_stopped later k why r e a = stops_since why later (subst (λ z. TurnAsks of me mid k z later) e a)

      pub asks_again : (later : CoreSeat I) (k : Key) (heard : ℕ) (r : Result Found WindowStop) → r ≡ Ok (Taken heard) → TurnAsks of me mid k r later → Adds [] seat later
      asks_again later k heard r e a = adds_since [] later (subst (λ z. TurnAsks of me mid k z later) e a)

      lent_since : (i : ℕ) (l : Lent I) → IsLent of me mid i l → IsLent of me seat i l
      lent_since i l s = record {
        place = s.place;
        source = s.source;
        fits = subst (λ o. IfSome o (λ z. ForAllOf of.feed of.faults z (λ book numbers. Fits of.feed of.faults book numbers me.plan l.place l.value))) (same_tag seat mid waits.seat_is) s.fits;
        count = subst (λ o. IfSome o (λ z. HasCount of.faults z.table l.place l.value)) (same_tag seat mid waits.seat_is) s.count;
      }

      pub gets_lent : (later : CoreSeat I) (i : ℕ) (l : Lent I) (r : Result (Entry I) WindowStop) → r ≡ Ok (Leased l) → TurnEnters of me mid i r later → HasEntered of me seat i l later
      gets_lent later i l r is a = let e = subst (λ z. TurnEnters of me mid i z later) is a in record { adds = adds_since _ later e.adds; lent = lent_since i l e.lent }

      pub gets_stopped : (later : CoreSeat I) (i : ℕ) (why : WindowStop) (r : Result (Entry I) WindowStop) → r ≡ Err why → TurnEnters of me mid i r later → StopsNow me why [] seat later
      gets_stopped later i why r e a = stops_since why later (subst (λ z. TurnEnters of me mid i z later) e a)

      pub gets_again : (later : CoreSeat I) (i : ℕ) (heard : ℕ) (r : Result (Entry I) WindowStop) → r ≡ Ok (Busy heard) → TurnEnters of me mid i r later → Adds [] seat later
      gets_again later i heard r e a = adds_since [] later (subst (λ z. TurnEnters of me mid i z later) e a)
