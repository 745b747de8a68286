-- A key is produced: a hit, or a claim, the productions of its inputs, and then its own making and publication.
use Rattle.std.proofs.Common.{◌≡◌, ℕ, ◌<◌, ◌≤◌, ◌==◌, true, false, ◌&&◌, ◌||◌, suc, List, [], ◌∷◌, ◌++◌, length, take, drop, slice_get, Option, Some, None, Result, Ok, Err, IfOk, IfErr, sym, refl, ap, ◌∙◌, subst, arith, append_assoc, append-nil, ne_eqb}
use Rattle.std.specs.List.{All}
use Rattle.std.proofs.lemmas.List.{map-append}
use Rattle.std.proofs.lemmas.List.Elements.{All-head, All-tail, All-take, All-push}
use Rattle.fv_plane.specs.Picture.{Picture}
use Rattle.fv_plane.specs.declared.key.Key.{Key}
use Rattle.clip_graph.specs.Plan.{Application, IsPlan, input_keys, IsKeyBelow}
use Rattle.clip_graph.proofs.UnfoldingLemmas.{inputs_are_keys}
use Rattle.inst_table.specs.declared.held.Held.{Ghosts}
use Rattle.serve_machine.specs.declared.event.Event.{Event}
use Rattle.serve_machine.specs.declared.event.Event.TheVariants.{Claim, Abandon}
use Rattle.serve_machine.specs.declared.event.WindowStop.{WindowStop}
use Rattle.serve_machine.specs.Events.{IsKey, same_key, has, has_got_all}
use Rattle.serve_machine.specs.Work.{Production, Productions, hit, made, done, more, CutShort, CutInputs, refused, inside, between, within, entered as cut_entered, unpublished as cut_unpublished, AllPast}
use Rattle.serve_machine.proofs.KeyLemmas.{key_itself}
use Rattle.serve_machine.specs.Holdings.{Holdings, holdings_after}
use Rattle.serve_machine.proofs.ClosingLemmas.{work_closes, holdings_after-append, now_all_got, all_none}
use Rattle.serve_core.specs.Sources.{shape_at}
use Rattle.serve_core.specs.WorkerValue.{WorkerValue}
use Rattle.serve_core.proofs.Making.{front_and, input_below}
use Rattle.serve_shared.specs.Seats.{AllFrom, CoreSeat, seat_holdings, AtWork, Adds, RightFor}
use Rattle.serve_shared.specs.Shares.{StopsNow, StopsWithin, Produced, Gathered, Finished, AllRightFor, CutMake, unmade, entered, unpublished}
use Rattle.serve_shared.specs.Turns.{Asks}
use Rattle.serve_shared.proofs.SeatLemmas.{adds_nothing, adds_more, same_tag, holdings_later, work_later, right_since}
use Rattle.serve_shared.proofs.MakeLemmas.{stops_at_once, stops_after, stops_claimed, all_right_later}

-- Claims on later nodes.

pub not_past : (k : Key) (ks : List Key) → AllPast k.node ks → has k ks ≡ false
not_past k [] all = refl
not_past k (j ∷ ks) all =
    let past = all.0 in
    let apart : (k.node == j.node) ≡ false = ne_eqb k.node j.node (λ e. omega (arith, past, e)) in
    let other : same_key k j ≡ false = ap (λ b. b && k.n == j.n) apart in
    rw other (not_past k ks all.1)

pub from_claimed : (k : Key) (ks : List Key) → AllPast k.node ks → AllFrom k.node (ks ++ k ∷ [])
from_claimed k [] all = (omega arith, tt)
from_claimed k (j ∷ ks) all = let past = all.0 in (omega (arith, past), from_claimed k ks all.1)

pub past_from : (i j : ℕ) (ks : List Key) → j < i → AllFrom i ks → AllPast j ks
past_from i j [] less all = tt
past_from i j (k ∷ ks) less all = let from = all.0 in (omega (arith, less, from), past_from i j ks less all.1)

has_claimed : (k : Key) (ks : List Key) → has k (ks ++ k ∷ []) ≡ true
has_claimed k [] = rw (key_itself k) refl
has_claimed k (j ∷ ks) = let ih = has_claimed k ks in elim (same_key k j) as (λ b. (b || has k (ks ++ k ∷ [])) ≡ true) [ true ↦ refl | false ↦ ih ]

-- Keys of earlier nodes are produced: nothing is left open.

module _ (plan : List Application) (w : ℕ) where
  productions_close : (i : ℕ) (ks : List Key) (es : List Event) (h : Holdings) → IsPlan plan → i ≤ length plan → All (IsKeyBelow plan i) ks → AllFrom i h.claims → h.leases ≡ [] → Productions plan w ks es → holdings_after plan h es ≡ h
  productions_close i ks es h is few below from unlent (done) = refl
  productions_close i _ _ h is few below from unlent (more {k = k} {ks = ks} {es = es} {fs = fs} p q) =
      let less = (All-head (IsKeyBelow plan i) k ks below).node in
      holdings_after-append plan h es fs
      ∙ (ap (λ g. holdings_after plan g fs) (work_closes.production plan w k es h is (omega (arith, less, few)) (record { past = past_from i k.node h.claims less from; unlent = unlent }) p)
      ∙ productions_close i ks fs h is few (All-tail (IsKeyBelow plan i) k ks below) from unlent q)

  productions_more : (ks : List Key) (k : Key) (es fs : List Event) → Productions plan w ks es → Production plan w k fs → Productions plan w (ks ++ k ∷ []) (es ++ fs)
  productions_more ks k es fs (done) p = subst (Productions plan w (k ∷ [])) (append-nil fs) (more p done)
  productions_more _ k _ fs (more {k = j} {ks = ks} {es = es} {fs = gs} q r) p = subst (Productions plan w (j ∷ (ks ++ k ∷ []))) (sym (append_assoc es gs fs)) (more q (productions_more ks k gs fs r p))

-- nothing was done, and nothing closes it
abbrev IsNothing : List Event → List Event → Type 0
IsNothing ds closing = (ds ≡ []) × (closing ≡ [])

-- the making of a frame was cut short, after other events
abbrev IsAfter : List Application → ℕ → ℕ → List Event → List Event → List Event → Type 0
IsAfter plan w i es ds closing = (fs : List Event) × (ds ≡ es ++ fs) × CutMake plan w i fs closing

module _ {I : Type 0} (of : Ghosts I) (me : WorkerValue) (seat : CoreSeat I) where
  -- The inputs of a key.

  pub gathered_none : Gathered of me seat [] [] seat
  gathered_none = record { events = []; produced = done; adds = adds_nothing seat; shapes = refl; right = tt }

  right_more : (ks : List Key) (xs : List Picture) (k : Key) (x : Picture) → AllRightFor of me seat ks xs → RightFor of me.plan seat k x → AllRightFor of me seat (ks ++ k ∷ []) (xs ++ x ∷ [])
  right_more [] [] k x all right = (right, tt)
  right_more [] (y ∷ ys) k x all right = absurd all
  right_more (j ∷ ks) [] k x all right = absurd all
  right_more (j ∷ ks) (y ∷ ys) k x all right = (all.0, right_more ks ys k x all.1 right)

  pub gathered_more : (mid later : CoreSeat I) (ks : List Key) (xs : List Picture) (k : Key) (x : Picture) → Gathered of me seat ks xs mid → Produced of me mid k x later → Gathered of me seat (ks ++ k ∷ []) (xs ++ x ∷ []) later
  gathered_more mid later ks xs k x g p = record {
    events = g.events ++ p.events;
    produced = productions_more me.plan me.number ks k g.events p.events g.produced p.produced;
    adds = adds_more g.events p.events seat mid later g.adds p.adds;
    shapes = map-append (λ (y : Picture). y.shape) xs (x ∷ []) ∙ ((λ i. g.shapes i ++ p.shape i ∷ []) ∙ sym (map-append (λ (j : Key). shape_at me.plan j.node) ks (k ∷ [])));
    right = right_more ks xs k x g.right (right_since of me.plan seat mid k x (same_tag seat mid g.adds.seat_is) p.right);
  }

  module _ (mid : CoreSeat I) (i : ℕ) (ks : List Key) (xs : List Picture) (g : Gathered of me seat ks xs mid) (work : AtWork me seat) (few : i ≤ length me.plan) (below : All (IsKeyBelow me.plan i) ks) (from : AllFrom i (seat_holdings me seat).claims) where
    closes : holdings_after me.plan (seat_holdings me seat) g.events ≡ seat_holdings me seat
    closes = productions_close me.plan me.number i ks g.events (seat_holdings me seat) work.sits.is_plan few below from work.unlent g.produced

    pub gathered_same : seat_holdings me mid ≡ seat_holdings me seat
    gathered_same = holdings_later me g.events seat mid g.adds ∙ closes

    pub gathered_work : AtWork me mid
    gathered_work = work_later me g.events seat mid g.adds work (all_none me.plan me.number ks g.events g.produced) (ap (λ (h : Holdings). h.leases) closes ∙ work.unlent)

    -- one of the next keys is cut short
    pub gathered_stops : (later : CoreSeat I) (all : List Key) (j : Key) (js : List Key) (why : WindowStop) → all ≡ ks ++ j ∷ js → StopsWithin me (CutShort me.plan me.number j) why mid later → StopsWithin me (CutInputs me.plan me.number all) why seat later
    gathered_stops later all j js why is s = stops_after me seat why later (CutInputs me.plan me.number all) mid g.events (CutShort me.plan me.number j) g.adds (ap (λ (h : Holdings). h.claims) gathered_same) (λ ds closing cut. within js is g.produced cut) s

    -- or the work stops between two keys
    pub gathered_ends : (later : CoreSeat I) (all js : List Key) (why : WindowStop) → all ≡ ks ++ js → StopsNow me why [] mid later → StopsWithin me (CutInputs me.plan me.number all) why seat later
    gathered_ends later all js why is s = stops_after me seat why later (CutInputs me.plan me.number all) mid g.events IsNothing g.adds (ap (λ (h : Holdings). h.claims) gathered_same)
        (λ ds closing none. subst (λ (z : List Event × List Event). CutInputs me.plan me.number all z.0 z.1) (λ n. (sym (ap (λ l. g.events ++ l) none.0 ∙ append-nil g.events) n, sym none.1 n)) (between js is g.produced))
        (stops_at_once me mid why later IsNothing [] (refl, refl) s)

  -- A key.

  pub hit_produced : (k : Key) (x : Picture) (later : CoreSeat I) (r : Result (Option Picture) WindowStop) → r ≡ Ok (Some x) → Asks of me seat k r later → Produced of me seat k x later
  hit_produced k x later r is a = let h = subst (λ z. Asks of me seat k z later) is a in record { events = _; produced = hit; adds = h.adds; shape = h.shape; right = h.right }

  pub not_asked : (k : Key) (why : WindowStop) (later : CoreSeat I) (r : Result (Option Picture) WindowStop) → r ≡ Err why → Asks of me seat k r later → StopsWithin me (CutShort me.plan me.number k) why seat later
  not_asked k why later r is a = stops_at_once me seat why later (CutShort me.plan me.number k) [] refused (subst (λ z. Asks of me seat k z later) is a)

  module _ (k : Key) (mid : CoreSeat I) (r : Result (Option Picture) WindowStop) (is : r ≡ Ok None) (asks : Asks of me seat k r mid) where
    claims : Adds (Claim me.number k ∷ []) seat mid
    claims = subst (λ z. Asks of me seat k z mid) is asks

    claimed : seat_holdings me mid ≡ record (seat_holdings me seat) { claims = (seat_holdings me seat).claims ++ k ∷ [] }
    claimed = holdings_later me (Claim me.number k ∷ []) seat mid claims

    pub claimed_work : AtWork me seat → AtWork me mid
    claimed_work w = work_later me (Claim me.number k ∷ []) seat mid claims w refl w.unlent

    pub claimed_from : AllPast k.node (seat_holdings me seat).claims → AllFrom k.node (seat_holdings me mid).claims
    claimed_from past = subst (λ (h : Holdings). AllFrom k.node h.claims) (sym claimed) (from_claimed k (seat_holdings me seat).claims past)

    pub claimed_has : has k (seat_holdings me mid).claims ≡ true
    claimed_has = ap (λ (h : Holdings). has k h.claims) claimed ∙ has_claimed k (seat_holdings me seat).claims

    -- the inputs are cut short
    pub inputs_stop : (later : CoreSeat I) (why : WindowStop) → StopsWithin me (CutInputs me.plan me.number (input_keys me.plan k)) why mid later → StopsWithin me (CutShort me.plan me.number k) why seat later
    inputs_stop later why s = stops_claimed me seat why later (CutShort me.plan me.number k) mid k (CutInputs me.plan me.number (input_keys me.plan k)) claims (ap (λ (h : Holdings). h.claims) claimed) (λ ds closing cut. inside cut) s

    module _ (next : CoreSeat I) (xs : List Picture) (g : Gathered of me mid (input_keys me.plan k) xs next) (same : seat_holdings me next ≡ seat_holdings me mid) where
      pub next_has : has k (seat_holdings me next).claims ≡ true
      next_has = ap (λ (h : Holdings). has k h.claims) same ∙ claimed_has

      pub next_got : has_got_all me.number (input_keys me.plan k) next.own ≡ true
      next_got = ap (has_got_all me.number (input_keys me.plan k)) g.adds.own ∙ now_all_got me.number (input_keys me.plan k) mid.own g.events (work_closes.got_all me.plan me.number (input_keys me.plan k) g.events g.produced)

      pub next_right : AllRightFor of me next (input_keys me.plan k) xs
      next_right = all_right_later of me mid next (input_keys me.plan k) xs (same_tag mid next g.adds.seat_is) g.right

      pub made_produced : (later : CoreSeat I) (z : Result Picture WindowStop) → IfOk z (λ x. Finished of me next k x later) → IfOk z (λ x. Produced of me seat k x later)
      made_produced later (Err why) f = tt
      made_produced later (Ok x) f = record {
        events = _;
        produced = made f.gone g.produced;
        adds = adds_more (Claim me.number k ∷ []) _ seat mid later claims (adds_more g.events _ mid next later g.adds f.adds);
        shape = f.shape;
        right = right_since of me.plan seat mid k x (same_tag seat mid claims.seat_is) (right_since of me.plan mid next k x (same_tag mid next g.adds.seat_is) f.right);
      }

      -- what was done after the inputs
      cut_after : (ds closing : List Event) → CutMake me.plan me.number k.node ds closing → CutShort me.plan me.number k (Claim me.number k ∷ (g.events ++ ds)) (closing ++ Abandon me.number k ∷ [])
      cut_after _ _ (unmade) = subst (λ l. CutShort me.plan me.number k (Claim me.number k ∷ l) (Abandon me.number k ∷ [])) (sym (append-nil g.events)) (inside (between [] (sym (append-nil (input_keys me.plan k))) g.produced))
      cut_after _ _ (entered many) = cut_entered many g.produced
      cut_after _ _ (unpublished) = cut_unpublished g.produced

      pub made_stops : (later : CoreSeat I) (z : Result Picture WindowStop) → IfErr z (λ why. StopsWithin me (CutMake me.plan me.number k.node) why next later) → IfErr z (λ why. StopsWithin me (CutShort me.plan me.number k) why seat later)
      made_stops later (Ok x) s = tt
      made_stops later (Err why) s =
          stops_claimed me seat why later (CutShort me.plan me.number k) mid k (IsAfter me.plan me.number k.node g.events) claims (ap (λ (h : Holdings). h.claims) claimed)
          (λ ds closing a. subst (λ l. CutShort me.plan me.number k (Claim me.number k ∷ l) (closing ++ Abandon me.number k ∷ [])) (sym a.1) (cut_after a.0 closing a.2))
          (stops_after me mid why later (IsAfter me.plan me.number k.node g.events) next g.events (CutMake me.plan me.number k.node) g.adds (ap (λ (h : Holdings). h.claims) same) (λ ds closing cut. (ds, refl, cut)) s)

-- The inputs of a claimed key, one after the other.

module _ {I : Type 0} (of : Ghosts I) (me : WorkerValue) (seat : CoreSeat I) (k : Key) (work : AtWork me seat) (key : IsKey me.plan k) (from : AllFrom k.node (seat_holdings me seat).claims) where
  few : k.node ≤ length me.plan
  few = let less = key.node in omega arith

  all_below : All (IsKeyBelow me.plan k.node) (input_keys me.plan k)
  all_below = inputs_are_keys me.plan k work.sits.is_plan key.node

  -- all of them

  module _ (mid : CoreSeat I) (xs : List Picture) (g : Gathered of me seat (input_keys me.plan k) xs mid) where
    pub all_same : seat_holdings me mid ≡ seat_holdings me seat
    all_same = gathered_same of me seat mid k.node (input_keys me.plan k) xs g work few all_below from

    pub all_work : AtWork me mid
    all_work = gathered_work of me seat mid k.node (input_keys me.plan k) xs g work few all_below from

  -- and some of them

  module _ (mid : CoreSeat I) (i : ℕ) (xs : List Picture) (g : Gathered of me seat (take i (input_keys me.plan k)) xs mid) where
    some_below : All (IsKeyBelow me.plan k.node) (take i (input_keys me.plan k))
    some_below = All-take (IsKeyBelow me.plan k.node) i (input_keys me.plan k) all_below

    pub inputs_same : seat_holdings me mid ≡ seat_holdings me seat
    inputs_same = gathered_same of me seat mid k.node (take i (input_keys me.plan k)) xs g work few some_below from

    pub inputs_work : AtWork me mid
    inputs_work = gathered_work of me seat mid k.node (take i (input_keys me.plan k)) xs g work few some_below from

    module _ (j : Key) (at : slice_get (input_keys me.plan k) i ≡ Some j) where
      pub below : IsKeyBelow me.plan k.node j
      below = input_below me.plan k i j work.sits.is_plan key.node at

      pub input_key : IsKey me.plan j
      input_key = let less = below.node in let inside = key.node in record { node = omega (arith, less, inside); number = below.number }

      pub input_past : AllPast j.node (seat_holdings me mid).claims
      input_past = subst (λ (h : Holdings). AllPast j.node h.claims) (sym inputs_same) (past_from k.node j.node (seat_holdings me seat).claims below.node from)

      pub input_stops : (later : CoreSeat I) (why : WindowStop) → StopsWithin me (CutShort me.plan me.number j) why mid later → StopsWithin me (CutInputs me.plan me.number (input_keys me.plan k)) why seat later
      input_stops later why s = gathered_stops of me seat mid k.node (take i (input_keys me.plan k)) xs g work few some_below from later (input_keys me.plan k) j (drop (suc i) (input_keys me.plan k)) why (front_and (input_keys me.plan k) i j at) s

      module _ (x : Picture) (later : CoreSeat I) (p : Produced of me mid j x later) where
        pub one_more : Gathered of me seat (take i (input_keys me.plan k) ++ j ∷ []) (xs ++ x ∷ []) later
        one_more = gathered_more of me seat mid later (take i (input_keys me.plan k)) xs j x g p

        more_below : All (IsKeyBelow me.plan k.node) (take i (input_keys me.plan k) ++ j ∷ [])
        more_below = All-push (IsKeyBelow me.plan k.node) (take i (input_keys me.plan k)) j some_below below

        pub more_work : AtWork me later
        more_work = gathered_work of me seat later k.node (take i (input_keys me.plan k) ++ j ∷ []) (xs ++ x ∷ []) one_more work few more_below from

        pub more_ends : (end : CoreSeat I) (why : WindowStop) → StopsNow me why [] later end → StopsWithin me (CutInputs me.plan me.number (input_keys me.plan k)) why seat end
        more_ends end why s = gathered_ends of me seat later k.node (take i (input_keys me.plan k) ++ j ∷ []) (xs ++ x ∷ []) one_more work few more_below from end (input_keys me.plan k) (drop (suc i) (input_keys me.plan k)) why
            (front_and (input_keys me.plan k) i j at ∙ sym (append_assoc (take i (input_keys me.plan k)) (j ∷ []) (drop (suc i) (input_keys me.plan k)))) s
