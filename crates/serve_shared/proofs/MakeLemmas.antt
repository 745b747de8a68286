-- The frame of a key, made of those of its inputs, and work that a stop cut short.
use Rattle.std.proofs.Common.{◌≡◌, ℕ, ◌≤◌, ◌==◌, true, false, if◌then◌else◌, List, [], ◌∷◌, ◌++◌, map, Option, Some, None, Result, Ok, Err, IfSome, IfOk, IfErr, sym, refl, ap, ◌∙◌, subst, append_assoc, append-nil, ne_eqb, eq-eqb}
use Rattle.fv_plane.specs.Picture.{Picture}
use Rattle.fv_plane.specs.declared.key.Key.{Key}
use Rattle.clip_graph.specs.Plan.{Application, application_at, is_source, input_keys, key_picture}
use Rattle.inst_table.specs.declared.held.Held.{Ghosts}
use Rattle.inst_table.specs.declared.place.Place.{Place}
use Rattle.inst_table.specs.Lent.{Lent}
use Rattle.inst_table.specs.Places.{shared_place, slot_at}
use Rattle.serve_machine.specs.declared.event.Event.{Event}
use Rattle.serve_machine.specs.declared.event.Event.TheVariants.{Claim, Enter, Leave, Publish, Abandon}
use Rattle.serve_machine.specs.declared.event.WindowStop.{WindowStop}
use Rattle.serve_machine.specs.declared.event.WindowStop.TheVariants.{Read}
use Rattle.serve_machine.specs.Events.{IsKey, has, mode_at, instance_of, has_entered, has_got_all}
use Rattle.serve_machine.specs.SerialRun.{leases, eviction}
use Rattle.serve_machine.proofs.OwnLemmas.{entered_now, all_got}
use Rattle.serve_machine.specs.Work.{abandons}
use Rattle.serve_machine.proofs.ClosingLemmas.{abandons-append}
use Rattle.serve_machine.specs.Holdings.{Holdings, holdings_after}
use Rattle.serve_machine.specs.Machine.{first_stop}
use Rattle.serve_core.specs.CoreValue.{CoreValue}
use Rattle.serve_core.specs.Sources.{place_of, opened_at, faults_at}
use Rattle.serve_core.specs.Stands.{Book, FitsAct, Fits, IsRight, Stands}
use Rattle.serve_core.specs.Turns.{HasCount, ForAllOf}
use Rattle.serve_core.specs.WorkerValue.{WorkerValue}
use Rattle.serve_core.specs.Works.{IsMade, MakeStops}
use Rattle.serve_core.proofs.Making.{fits_more, source_mode, no_source, shared_for, filter_right, made_right}
use Rattle.serve_shared.specs.Seats.{CoreSeat, seat_holdings, HasSeat, AtWork, Adds, RightFor}
use Rattle.serve_shared.specs.Shares.{Closes, StopsNow, StopsWithin, AllRightFor, Made, Finished, CutMake, unmade, entered, unpublished}
use Rattle.serve_shared.specs.Turns.{IsLent, HasEntered, Gets, HasMade, Lends, HasStopped, TurnPublishes, gives_back}
use Rattle.serve_shared.proofs.SeatLemmas.{seat_more, adds_more, same_tag, holdings_later, sits_later, work_later, right_since}

-- Work cut short.

closes_as : {I : Type 0} (w : ℕ) (why : WindowStop) (own own' closing closing' : List Event) (later : CoreSeat I) → own ≡ own' → closing ≡ closing' → Closes w why own closing later → Closes w why own' closing' later
closes_as w why own own' closing closing' later p q c = subst (λ (z : List Event × List Event). Closes w why z.0 z.1 later) (λ i. (p i, q i)) c

module _ {I : Type 0} (me : WorkerValue) (seat : CoreSeat I) (why : WindowStop) (later : CoreSeat I) (IsCut : List Event → List Event → Type 0) where
  pub stops_at_once : (leaves : List Event) → IsCut [] leaves → StopsNow me why leaves seat later → StopsWithin me IsCut why seat later
  stops_at_once leaves cut s = record { done = []; closing = leaves; cut = cut; seat_is = s.seat_is; own_seen = s.own_seen; closes = closes_as me.number why seat.own (seat.own ++ []) _ _ later (sym (append-nil seat.own)) refl s.closes }

  -- after other events, which leave the claims as they are
  pub stops_after : (mid : CoreSeat I) (es : List Event) (IsLater : List Event → List Event → Type 0) → Adds es seat mid → (seat_holdings me mid).claims ≡ (seat_holdings me seat).claims
      → ((done closing : List Event) → IsLater done closing → IsCut (es ++ done) closing) → StopsWithin me IsLater why mid later → StopsWithin me IsCut why seat later
  stops_after mid es IsLater a same cuts s = record {
    done = es ++ s.done;
    closing = s.closing;
    cut = cuts s.done s.closing s.cut;
    seat_is = seat_more seat mid later a.seat_is s.seat_is;
    own_seen = s.own_seen;
    closes = closes_as me.number why (mid.own ++ s.done) (seat.own ++ (es ++ s.done)) _ _ later (ap (λ l. l ++ s.done) a.own ∙ append_assoc seat.own es s.done) (ap (λ ks. s.closing ++ abandons me.number ks) same) s.closes;
  }

  -- after a claim, which is abandoned
  pub stops_claimed : (mid : CoreSeat I) (k : Key) (IsLater : List Event → List Event → Type 0) → Adds (Claim me.number k ∷ []) seat mid → (seat_holdings me mid).claims ≡ (seat_holdings me seat).claims ++ k ∷ []
      → ((done closing : List Event) → IsLater done closing → IsCut (Claim me.number k ∷ done) (closing ++ Abandon me.number k ∷ [])) → StopsWithin me IsLater why mid later → StopsWithin me IsCut why seat later
  stops_claimed mid k IsLater a more cuts s = record {
    done = Claim me.number k ∷ s.done;
    closing = s.closing ++ Abandon me.number k ∷ [];
    cut = cuts s.done s.closing s.cut;
    seat_is = seat_more seat mid later a.seat_is s.seat_is;
    own_seen = s.own_seen;
    closes = closes_as me.number why (mid.own ++ s.done) (seat.own ++ (Claim me.number k ∷ s.done)) _ _ later (ap (λ l. l ++ s.done) a.own ∙ append_assoc seat.own (Claim me.number k ∷ []) s.done)
        (ap (λ ks. s.closing ++ abandons me.number ks) more ∙ (ap (λ l. s.closing ++ l) (abandons-append me.number (seat_holdings me seat).claims k) ∙ sym (append_assoc s.closing (Abandon me.number k ∷ []) (abandons me.number (seat_holdings me seat).claims)))) s.closes;
  }

-- The frames of the inputs.

module _ {I : Type 0} (of : Ghosts I) (me : WorkerValue) where
  pub all_right_later : (seat later : CoreSeat I) (ks : List Key) (xs : List Picture) → later.tag ≡ seat.tag → AllRightFor of me seat ks xs → AllRightFor of me later ks xs
  all_right_later seat later [] [] tag right = tt
  all_right_later seat later [] (x ∷ xs) tag right = absurd right
  all_right_later seat later (k ∷ ks) [] tag right = absurd right
  all_right_later seat later (k ∷ ks) (x ∷ xs) tag right =
      (subst (λ o. IfSome o (λ s. ForAllOf of.feed of.faults s (λ book numbers. IsRight book me.plan k x))) (sym tag) right.0, all_right_later seat later ks xs tag right.1)

  pub all_pictures : (seat : CoreSeat I) (start : CoreValue I) (ks : List Key) (xs : List Picture) (numbers : List ℕ) (book : Book) (b : List (List Picture)) → seat.tag ≡ Some start → Stands of.feed of.faults book numbers start → book ≡ Some b
      → AllRightFor of me seat ks xs → xs ≡ map (key_picture b me.plan) ks
  all_pictures seat start [] [] numbers book b tag stood q right = refl
  all_pictures seat start [] (x ∷ xs) numbers book b tag stood q right = absurd right
  all_pictures seat start (k ∷ ks) [] numbers book b tag stood q right = absurd right
  all_pictures seat start (k ∷ ks) (x ∷ xs) numbers book b tag stood q right =
      let here = subst (λ o. IfSome o (λ s. ForAllOf of.feed of.faults s (λ book numbers. IsRight book me.plan k x))) tag right.0 in
      let one : x ≡ key_picture b me.plan k = here book numbers stood b q in
      let rest = all_pictures seat start ks xs numbers book b tag stood q right.1 in
      λ i. one i ∷ rest i

module _ {I : Type 0} (of : Ghosts I) (me : WorkerValue) (seat : CoreSeat I) (k : Key) (inputs : List Picture) where
  -- a filter without instances
  pub plain_made : (x : Picture) (plan : List Application) → plan ≡ me.plan → HasSeat me seat → IsKey me.plan k → mode_at me.plan k.node ≡ 1 → AllRightFor of me seat (input_keys me.plan k) inputs
      → ((own : Option (List Picture)) → IsMade plan k own inputs x) → (later : CoreSeat I) → Adds [] seat later → Made of me seat k x later
  plain_made x plan same s key one right is later waits =
      let made : IsMade me.plan k None inputs x = subst (λ z. IsMade z k None inputs x) same (is None) in record {
        adds = subst (λ es. Adds es seat later) (sym (ap (λ b. if b then [] else Enter me.number k.node (instance_of me.plan me.number k.node) ∷ Leave me.number k.node (instance_of me.plan me.number k.node) ∷ []) (eq-eqb (mode_at me.plan k.node) 1 one))) waits;
        shape = made.shape;
        right = subst (λ o. IfSome o (λ s. ForAllOf of.feed of.faults s (λ book numbers. IsRight book me.plan k x))) (sym s.tag) (λ book numbers stood b q.
            filter_right me.plan k b inputs x s.is_plan key.node (made.filtered (no_source me.plan k.node s.is_plan key.node one) b) (all_pictures of me seat s.start (input_keys me.plan k) inputs numbers book b s.tag stood q right));
      }

  -- with an instance
  module _ (s : HasSeat me seat) (key : IsKey me.plan k) (right : AllRightFor of me seat (input_keys me.plan k) inputs) (old : Lent I) (lent : IsLent of me seat k.node old) where
    at_source : is_source (application_at me.plan k.node).act ≡ true → ForAllOf of.feed of.faults s.start (λ book numbers. FitsAct of.feed of.faults book numbers (application_at me.plan k.node).act old.value)
    at_source source book numbers stood =
        let here = subst (λ o. IfSome o (λ z. ForAllOf of.feed of.faults z (λ book numbers. Fits of.feed of.faults book numbers me.plan old.place old.value))) s.tag lent.fits in
        let shared : old.place ≡ shared_place k.node = lent.place ∙ shared_for me.plan me.number k.node (source_mode me.plan k.node s.is_plan key.node source) in
        let node : old.place.node ≡ k.node = ap (λ p. p.node) shared in
        subst (λ i. FitsAct of.feed of.faults book numbers (application_at me.plan i).act old.value) node (here book numbers stood (shared ∙ ap shared_place (sym node)))

    lent_right : (x : Picture) → IsMade me.plan k (of.feed old.value) inputs x → RightFor of me.plan seat k x
    lent_right x made = subst (λ o. IfSome o (λ z. ForAllOf of.feed of.faults z (λ book numbers. IsRight book me.plan k x))) (sym s.tag) (λ book numbers stood.
        made_right of.feed of.faults me.plan k inputs old.value x book numbers s.is_plan key.node made (λ source. at_source source book numbers stood) (λ b q. all_pictures of me seat s.start (input_keys me.plan k) inputs numbers book b s.tag stood q right))

    given_back : Leave me.number old.place.node old.place.instance ∷ [] ≡ gives_back of me seat k
    given_back = ap (λ (p : Place). Leave me.number p.node p.instance ∷ []) lent.place

    pub has_made : (x : Picture) (later : CoreSeat I) → IsMade me.plan k (of.feed old.value) inputs x → Adds (Leave me.number old.place.node old.place.instance ∷ []) seat later → HasMade of me seat k x later
    has_made x later made a = record { adds = subst (λ es. Adds es seat later) given_back a; shape = made.shape; right = lent_right x made }

    pub not_made : (why : WindowStop) (later : CoreSeat I) → StopsNow me why (Leave me.number old.place.node old.place.instance ∷ []) seat later → StopsNow me why (gives_back of me seat k) seat later
    not_made why later s = subst (λ es. StopsNow me why es seat later) given_back s

    -- the instance afterwards
    module _ (new : Lent I) (place : new.place ≡ old.place) (source : of.holds new.value ≡ of.holds old.value) (feed_same : of.feed new.value ≡ of.feed old.value) (faults_more : of.faults old.value ≤ of.faults new.value) where
      pub lent_again : of.faults new.value ≡ of.faults old.value → IsLent of me seat new.place.node new
      lent_again steady = record {
        place = (place ∙ lent.place) ∙ ap (place_of me.plan me.number) (sym (ap (λ p. p.node) (place ∙ lent.place)));
        source = source ∙ (lent.source ∙ ap (opened_at me.plan) (sym (ap (λ p. p.node) (place ∙ lent.place))));
        fits = subst (λ o. IfSome o (λ z. ForAllOf of.feed of.faults z (λ book numbers. Fits of.feed of.faults book numbers me.plan new.place new.value))) (sym s.tag) (λ book numbers stood shared.
            let here = subst (λ o. IfSome o (λ z. ForAllOf of.feed of.faults z (λ book numbers. Fits of.feed of.faults book numbers me.plan old.place old.value))) s.tag lent.fits in
            subst (λ i. FitsAct of.feed of.faults book numbers (application_at me.plan i).act new.value) (sym (ap (λ p. p.node) place))
            (fits_more of.feed of.faults (application_at me.plan old.place.node).act old.value new.value book numbers feed_same faults_more (here book numbers stood (sym place ∙ (shared ∙ ap (λ p. shared_place p.node) place)))));
        count = subst (λ p. IfSome seat.tag (λ z. HasCount of.faults z.table p new.value)) (sym place) (subst (λ n. IfSome seat.tag (λ z. n ≡ faults_at of.faults (slot_at old.place z.table))) (sym steady) lent.count);
      }

      pub has_stopped : (why : WindowStop) → has_entered me.number k.node seat.own ≡ true → ((why ≡ Read k.node → ⊥) → of.faults new.value ≡ of.faults old.value) → MakeStops of.feed of.faults of.ends me.plan k.node old.value new.value why → HasStopped of me seat new why
      has_stopped why was steady stops = record {
        node = k.node;
        in_plan = key.node;
        entered = was;
        old = old.value;
        lent = record {
          place = place ∙ lent.place;
          source = lent.source;
          fits = subst (λ p. IfSome seat.tag (λ z. ForAllOf of.feed of.faults z (λ book numbers. Fits of.feed of.faults book numbers me.plan p old.value))) (sym place) lent.fits;
          count = subst (λ p. IfSome seat.tag (λ z. HasCount of.faults z.table p old.value)) (sym place) lent.count;
        };
        source = source;
        feed_same = feed_same;
        faults_more = faults_more;
        steady = steady;
        stops = stops;
      }

-- An instance was lent, and comes back.

-- nothing was done, and this closes it
abbrev IsJust : List Event → List Event → List Event → Type 0
IsJust leaves done closing = (done ≡ []) × (closing ≡ leaves)

module _ {I : Type 0} (of : Ghosts I) (me : WorkerValue) (seat mid : CoreSeat I) (k : Key) (l : Lent I) (r : Result (Lent I) WindowStop) (is : r ≡ Ok l) (gets : Gets of me seat k.node r mid) where
  got_it : HasEntered of me seat k.node l mid
  got_it = subst (λ z. Gets of me seat k.node z mid) is gets

  pub sits_now : HasSeat me seat → HasSeat me mid
  sits_now s = sits_later me (Enter me.number k.node (instance_of me.plan me.number k.node) ∷ []) seat mid got_it.adds s refl

  pub out_now : (seat_holdings me mid).leases ≡ l.place ∷ []
  out_now = ap (λ (h : Holdings). h.leases) (holdings_later me (Enter me.number k.node (instance_of me.plan me.number k.node) ∷ []) seat mid got_it.adds) ∙ ap (λ p. p ∷ []) (sym got_it.lent.place)

  pub entered_it : has_entered me.number k.node mid.own ≡ true
  entered_it = ap (has_entered me.number k.node) got_it.adds.own ∙ entered_now me.number k.node (instance_of me.plan me.number k.node) seat.own []

  pub lent_later : IsLent of me mid k.node l
  lent_later = record {
    place = got_it.lent.place;
    source = got_it.lent.source;
    fits = subst (λ o. IfSome o (λ z. ForAllOf of.feed of.faults z (λ book numbers. Fits of.feed of.faults book numbers me.plan l.place l.value))) (sym (same_tag seat mid got_it.adds.seat_is)) got_it.lent.fits;
    count = subst (λ o. IfSome o (λ z. HasCount of.faults z.table l.place l.value)) (sym (same_tag seat mid got_it.adds.seat_is)) got_it.lent.count;
  }

  pub right_later : (inputs : List Picture) → AllRightFor of me seat (input_keys me.plan k) inputs → AllRightFor of me mid (input_keys me.plan k) inputs
  right_later inputs right = all_right_later of me seat mid (input_keys me.plan k) inputs (same_tag seat mid got_it.adds.seat_is) right

  module _ (later : CoreSeat I) (many : mode_at me.plan k.node ≡ 1 → ⊥) where
    both : Enter me.number k.node (instance_of me.plan me.number k.node) ∷ Leave me.number k.node (instance_of me.plan me.number k.node) ∷ [] ≡ leases me.plan me.number k.node
    both = sym (ap (λ b. if b then [] else Enter me.number k.node (instance_of me.plan me.number k.node) ∷ Leave me.number k.node (instance_of me.plan me.number k.node) ∷ []) (ne_eqb (mode_at me.plan k.node) 1 many))

    pub made_between : (made : Result Picture WindowStop) → Lends of me mid k made later → IfOk made (λ x. Made of me seat k x later)
    made_between (Err why) m = tt
    made_between (Ok x) m = record {
      adds = subst (λ es. Adds es seat later) both (adds_more _ _ seat mid later got_it.adds m.adds);
      shape = m.shape;
      right = right_since of me.plan seat mid k x (same_tag seat mid got_it.adds.seat_is) m.right;
    }

    pub unmade_between : (made : Result Picture WindowStop) → Lends of me mid k made later → IfErr made (λ why. StopsWithin me (CutMake me.plan me.number k.node) why seat later)
    unmade_between (Ok x) m = tt
    unmade_between (Err why) m =
        let enters : List Event = Enter me.number k.node (instance_of me.plan me.number k.node) ∷ [] in
        let leaves : List Event = gives_back of me mid k in
        stops_after me seat why later (CutMake me.plan me.number k.node) mid enters (IsJust leaves) got_it.adds (ap (λ (h : Holdings). h.claims) (holdings_later me enters seat mid got_it.adds))
        (λ done closing just. subst (λ (z : List Event × List Event). CutMake me.plan me.number k.node (enters ++ z.0) z.1) (λ i. (sym just.0 i, sym just.1 i)) (entered many)) (stops_at_once me mid why later (IsJust leaves) leaves (refl, refl) m)

pub not_got : {I : Type 0} (of : Ghosts I) (me : WorkerValue) (seat later : CoreSeat I) (k : Key) (why : WindowStop) (r : Result (Lent I) WindowStop) → r ≡ Err why → Gets of me seat k.node r later
    → StopsWithin me (CutMake me.plan me.number k.node) why seat later
not_got of me seat later k why r err g = stops_at_once me seat why later (CutMake me.plan me.number k.node) [] unmade (subst (λ y. Gets of me seat k.node y later) err g)

-- A frame was made, and is published.

leases_quiet : (plan : List Application) (w i : ℕ) → first_stop (leases plan w i) ≡ None
leases_quiet plan w i = elim (mode_at plan i == 1) as (λ b. first_stop (if b then [] else Enter w i (instance_of plan w i) ∷ Leave w i (instance_of plan w i) ∷ []) ≡ None) [ true ↦ refl | false ↦ refl ]

leases_close : (plan : List Application) (w i : ℕ) (h : Holdings) → h.leases ≡ [] → holdings_after plan h (leases plan w i) ≡ h
leases_close plan w i h none = elim (mode_at plan i == 1) as (λ b. holdings_after plan h (if b then [] else Enter w i (instance_of plan w i) ∷ Leave w i (instance_of plan w i) ∷ []) ≡ h)
    [ true ↦ refl | false ↦ (λ j. record h { leases = sym none j }) ]

module _ {I : Type 0} (of : Ghosts I) (me : WorkerValue) (seat mid : CoreSeat I) (k : Key) (x : Picture) (work : AtWork me seat) (made : Made of me seat k x mid) where
  same_holdings : seat_holdings me mid ≡ seat_holdings me seat
  same_holdings = holdings_later me (leases me.plan me.number k.node) seat mid made.adds ∙ leases_close me.plan me.number k.node (seat_holdings me seat) work.unlent

  pub made_work : AtWork me mid
  made_work = work_later me (leases me.plan me.number k.node) seat mid made.adds work (leases_quiet me.plan me.number k.node) (ap (λ (h : Holdings). h.leases) (leases_close me.plan me.number k.node (seat_holdings me seat) work.unlent) ∙ work.unlent)

  pub made_claim : has k (seat_holdings me seat).claims ≡ true → has k (seat_holdings me mid).claims ≡ true
  made_claim mine = ap (λ (h : Holdings). has k h.claims) same_holdings ∙ mine

  pub made_got : has_got_all me.number (input_keys me.plan k) seat.own ≡ true → has_got_all me.number (input_keys me.plan k) mid.own ≡ true
  made_got got = ap (has_got_all me.number (input_keys me.plan k)) made.adds.own ∙ all_got me.number (input_keys me.plan k) seat.own (leases me.plan me.number k.node) got

  pub made_again : RightFor of me.plan mid k x
  made_again = subst (λ o. IfSome o (λ s. ForAllOf of.feed of.faults s (λ book numbers. IsRight book me.plan k x))) (sym (same_tag seat mid made.adds.seat_is)) made.right

  module _ (later : CoreSeat I) (r : Result (Unit {0}) WindowStop) (done : TurnPublishes me mid k r later) where
    pub finished_ok : (u : Unit {0}) → r ≡ Ok u → Finished of me seat k x later
    finished_ok u is = let p = subst (λ z. TurnPublishes me mid k z later) is done in record {
      gone = p.gone;
      adds = adds_more (leases me.plan me.number k.node) (eviction me.number p.gone ++ Publish me.number k ∷ []) seat mid later made.adds p.adds;
      shape = made.shape;
      right = made.right;
    }

    pub finished_err : (why : WindowStop) → r ≡ Err why → StopsWithin me (CutMake me.plan me.number k.node) why seat later
    finished_err why is = stops_after me seat why later (CutMake me.plan me.number k.node) mid (leases me.plan me.number k.node) (IsJust []) made.adds (ap (λ (h : Holdings). h.claims) same_holdings)
        (λ ds closing just. subst (λ (z : List Event × List Event). CutMake me.plan me.number k.node z.0 z.1) (λ i. (sym (ap (λ l. leases me.plan me.number k.node ++ l) just.0 ∙ append-nil (leases me.plan me.number k.node)) i, sym just.1 i)) unpublished)
        (stops_at_once me mid why later (IsJust []) [] (refl, refl) (subst (λ z. TurnPublishes me mid k z later) is done))
