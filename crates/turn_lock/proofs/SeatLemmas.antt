-- The start of a lock, the steps that split and join its seats, and its end.
use Rattle.std.proofs.Common.{◌⊎◌, ◌≡◌, ◌≢◌, ℕ, zero, suc, ◌+◌, ◌^◌, ◌<◌, ◌≤◌, max, List, [], ◌∷◌, ◌++◌, length, All, set, sym, refl, ap, ◌∙◌, subst, ⊎_elim, arith, Option, Some, None, IsSome, IfSome, length-set, length-append}
use Rattle.std.proofs.lemmas.List.{append-nil}
use Rattle.std.proofs.lemmas.List.Elements.{All-append, All-cons, All-weaker}
use Rattle.std.proofs.lemmas.List.Sums.{sum_by_push}
use mathlib.Core.Logic.{dite}
use mathlib.Core.Option.{none, some, some-injective, some-ne-none}
use native.Mathlib.Decide.{ℕ_discrete, dec_le}
use lib.ListN.{get_elem?}
use Rattle.atomic_table.specs.Table.{State, Me, Splits, Joins, Final, Seen, opening}
use Rattle.atomic_table.proofs.Lists.{at_set, set_here, set_else, at_longer}
use Rattle.turn_lock.specs.declared.view.Ended.{Ended}
use Rattle.turn_lock.specs.declared.view.View.{View}
use Rattle.turn_lock.specs.declared.view.Stage.TheVariants.{Rests}
use Rattle.turn_lock.specs.Entries.{IsPrefix, longer, entries_of}
use Rattle.atomic_table.specs.Seated.{TableId}
use Rattle.turn_lock.specs.SeatView.{seat_view, HasEnded, HasAllNumbers}
use Rattle.turn_lock.specs.TurnRule.{tickets, FitsTickets, EachEnded, IsSpent, IsSettled, Knows, KeepsTurns}
use Rattle.turn_lock.specs.Steps.{first_view, giver, newcomer, joined_view, spent}
use Rattle.turn_lock.proofs.EntryLemmas.{own_between, longer_of_prefixes, nil_from_append, nil_left, nil_from_no_entries, entries_of-append, each_weaker, each_has}
use Rattle.turn_lock.proofs.RuleLemmas.{at_below, at_snoc_where, none_or_some, sum_by-set_at, each_set, spent_stays, fits, slot_free, stands_at}

module _ {V E T : Type 0} (entries : V → List E) (by : E → ℕ) (stands_for : V → T → Type 0) where
  abbrev D : Type 0
  D = View E T

  abbrev St : Type 0
  St = State (Option V) D

  abbrev M : Type 0
  M = Me (Option V) D

  abbrev Rule : St → Type 0
  Rule = KeepsTurns entries by stands_for

  abbrev Knowing : List E → T → List D → ℕ → ℕ → D → Type 0
  Knowing list tag views giver i v = Knows entries by stands_for list tag views giver i v

  only_first : (tag : T) (seats : ℕ) (P : ℕ → D → Type 0) → P 0 (first_view tag seats) → (i : ℕ) (v : D) → get_elem? (first_view tag seats ∷ []) i ≡ some v → P i v
  only_first tag seats P h zero v e = subst (P 0) (some-injective (first_view tag seats) v e) h
  only_first tag seats P h (suc i) v e = absurd (some-ne-none v (sym e))

  pub starts : (value : V) (tag : T) (seats : ℕ) → entries value ≡ [] → stands_for value tag → seats < 2 ^ 32 → 0 < seats → Rule (opening (0 ∷ 0 ∷ []) (Some value ∷ []) (first_view tag seats))
  starts value tag seats bare ok few some_seat = record {
    drawn = 0;
    serving = 0;
    turn = none;
    owner = λ _. 0;
    list = [];
    tag = tag;
    giver = 0;
    words_are = refl;
    slot = (value, refl, bare, ok);
    few = omega arith;
    counted = refl;
    turn_owns = λ i e. absurd (some-ne-none i (sym e));
    holder_saw = λ i v _ e. absurd (some-ne-none i (sym e));
    each_stage = λ i v e. only_first tag seats (λ j w. FitsTickets 0 0 none (λ _. 0) j w.stage) (λ z. some-ne-none 0 (sym z)) i v e;
    each_view = λ i v e. only_first tag seats (λ j w. IsSome w.tag → Knowing [] tag (first_view tag seats ∷ []) 0 j w)
        (λ _. record { numbered = refl; begins = ([], refl); own_all = refl; own_seen = refl; taken = λ k d less. absurd (omega arith); taken_seen = λ k d less. absurd (omega arith); gives = λ _. (refl, refl, few); gives_none = λ h. absurd (omega arith); tagged = refl }) i v e;
    others = λ n _. refl;
  }

  -- a fact of each view, after one view was set and another added
  each_new : (vs : List D) (id : ℕ) (w o : D) (P : ℕ → D → Type 0) → P id w → P (length vs) o → ((i : ℕ) (u : D) → i ≢ id → get_elem? vs i ≡ some u → P i u) → (i : ℕ) (u : D) → get_elem? (set vs id w ++ o ∷ []) i ≡ some u → P i u
  each_new vs id w o P mine new old i u e = ⊎_elim (λ (a : get_elem? (set vs id w) i ≡ some u). each_set P vs id w mine old i u a)
      (λ (t : (i ≡ length (set vs id w)) × (o ≡ u)). subst (λ (x : ℕ × D). P x.0 x.1) (λ j. (sym (t.0 ∙ length-set vs id w) j, t.1 j)) new) (at_snoc_where (set vs id w) o u i e)

  pub splits : (id : ℕ) (v : D) → IsSome v.tag → v.stage ≡ Rests → v.next < v.limit → Splits Rule id v (giver v) (newcomer v)
  splits id v live rests more s r at =
      let w : D = giver v in let o : D = newcomer v in
      let vs' : List D = set s.views id w in
      let vs'' : List D = vs' ++ o ∷ [] in
      let known = r.each_view id v at live in
      let gives = known.gives (omega arith) in
      let count : v.next ≡ length s.views = gives.1 in let few = gives.2 in
      let wide : length vs' ≡ length s.views = length-set s.views id w in
      let wider : length vs'' ≡ length s.views + 1 = length-append vs' (o ∷ []) ∙ omega arith in
      let idle = fits entries by stands_for s r id v Rests at rests in
      let sum = sum_by-set_at (λ (u : D). tickets u.stage) s.views id v w at in
      let longer_sum = sum_by_push (λ (u : D). tickets u.stage) vs' o in
      let spent_more : (n : ℕ) → IsSpent s.views n → IsSpent vs'' n = λ n sp. let t = spent_stays s.views id n v w at live sp in (t.0, at_longer vs' (o ∷ []) n t.0 t.1, t.2, t.3) in
      let took : (u : D) → EachEnded (IsSettled by r.list u.seen s.views) u.ended → EachEnded (IsSettled by r.list u.seen vs'') u.ended =
      λ u. each_weaker (IsSettled by r.list u.seen s.views) (IsSettled by r.list u.seen vs'') u.ended (λ n es p. (p.0, p.1, spent_more n p.2)) in
      let nothing_yet : entries_of by (length s.views) r.list ≡ [] = r.others (length s.views) (omega arith) in
      record {
        drawn = r.drawn;
        serving = r.serving;
        turn = r.turn;
        owner = r.owner;
        list = r.list;
        tag = r.tag;
        giver = r.giver;
        words_are = r.words_are;
        slot = r.slot;
        few = omega arith;
        counted = let c = r.counted in omega arith;
        turn_owns = λ i e. let t = r.turn_owns i e in let below = t.2 in (t.0, t.1, omega arith);
        holder_saw = each_new s.views id w o (λ i u. r.turn ≡ some i → u.seen ≡ r.list) (λ e. r.holder_saw id v at e) (λ e. let below = (r.turn_owns (length s.views) e).2 in absurd (omega arith)) (λ i u _ a. r.holder_saw i u a);
        each_stage = each_new s.views id w o (λ i u. FitsTickets r.drawn r.serving r.turn r.owner i u.stage) (r.each_stage id v at) (λ e. let below = (r.turn_owns (length s.views) e).2 in omega arith) (λ i u _ a. r.each_stage i u a);
        each_view = each_new s.views id w o (λ i u. IsSome u.tag → Knowing r.list r.tag vs'' r.giver i u)
            (λ _. record { numbered = known.numbered; begins = known.begins; own_all = known.own_all; own_seen = known.own_seen; taken = took v known.taken; taken_seen = known.taken_seen; gives = λ h. (gives.0, omega arith, gives.2); gives_none = λ h. absurd (omega arith); tagged = known.tagged })
            (λ _. record { numbered = count; begins = known.begins; own_all = nothing_yet; own_seen = own_between by (length s.views) [] v.seen r.list [] (v.seen, refl) known.begins refl nothing_yet; taken = λ k d less. absurd (omega arith); taken_seen = λ k d less. absurd (omega arith); gives = λ h. absurd (omega arith); gives_none = λ _. refl; tagged = known.tagged })
            (λ i u ne a l. let k = r.each_view i u a l in record { numbered = k.numbered; begins = k.begins; own_all = k.own_all; own_seen = k.own_seen; taken = took u k.taken; taken_seen = k.taken_seen; gives = λ h. absurd (ne ((k.gives h).0 ∙ sym gives.0)); gives_none = k.gives_none; tagged = k.tagged });
        others = λ n h. r.others n (omega arith);
      }

  -- the seat `other` is joined into the seat `id`
  module _ (id other : ℕ) (v w : D) (live : IsSome v.tag) (rests : v.stage ≡ Rests) (live' : IsSome w.tag) (rests' : w.stage ≡ Rests) (s : St) (r : Rule s) (at : get_elem? s.views id ≡ some v) (apart : ¬ (other ≡ id)) (at' : get_elem? s.views other ≡ some w) where
    abbrev B : D
    B = joined_view v w

    abbrev Vs : List D
    Vs = set (set s.views id B) other spent

    wide_after : length Vs ≡ length s.views
    wide_after = length-set (set s.views id B) other spent ∙ length-set s.views id B

    at_both : get_elem? (set s.views id B) other ≡ some w
    at_both = set_else s.views id other B apart ∙ at'

    spent_after : (n : ℕ) → IsSpent s.views n → IsSpent Vs n
    spent_after n sp = spent_stays (set s.views id B) other n w spent at_both live' (spent_stays s.views id n v B at live sp)

    spent_now : IsSpent Vs other
    spent_now = let below = at_below (set s.views id B) other w at_both in (spent, set_here (set s.views id B) other spent below, refl, refl)

    -- who gives out numbers afterwards
    joined : (after : ℕ) → (0 < max v.limit w.limit → (id ≡ after) × (max v.next w.next ≡ length s.views) × (max v.limit w.limit < 2 ^ 32)) → ((i : ℕ) → i ≢ other → i ≡ r.giver → i ≡ after) → (max v.limit w.limit ≡ 0 → max v.next w.next ≡ 0)
        → Rule record { words = s.words; homes = s.homes; views = Vs }
    joined after mine others_give none_give =
        let k = r.each_view id v at live in let k' = r.each_view other w at' live' in
        let long = longer_of_prefixes v.seen w.seen r.list k.begins k'.begins in
        let c = r.counted in
        let sum = sum_by-set_at (λ (u : D). tickets u.stage) s.views id v B at in
        let sum' = sum_by-set_at (λ (u : D). tickets u.stage) (set s.views id B) other w spent at_both in
        let zero_out : tickets w.stage ≡ 0 = ap tickets rests' in
        let each : (P : ℕ → D → Type 0) → P id B → P other spent → ((i : ℕ) (u : D) → i ≢ id → i ≢ other → get_elem? s.views i ≡ some u → P i u) → (i : ℕ) (u : D) → get_elem? Vs i ≡ some u → P i u =
        λ P here there else_. each_set P (set s.views id B) other spent there (λ i u ne a. ⊎_elim (λ (t : (i ≡ id) × (B ≡ u)). subst (λ (x : ℕ × D). P x.0 x.1) (λ j. (sym t.0 j, t.1 j)) here) (λ (t : (i ≢ id) × (get_elem? s.views i ≡ some u)). else_ i u t.0 ne t.1) (at_set s.views id i B u a)) in
        record {
          drawn = r.drawn;
          serving = r.serving;
          turn = r.turn;
          owner = r.owner;
          list = r.list;
          tag = r.tag;
          giver = after;
          words_are = r.words_are;
          slot = r.slot;
          few = subst (λ n. n < 2 ^ 63) (sym wide_after) r.few;
          counted = omega arith;
          turn_owns = λ i e. let t = r.turn_owns i e in (t.0, t.1, subst (λ n. i < n) (sym wide_after) t.2);
          holder_saw = each (λ i u. r.turn ≡ some i → u.seen ≡ r.list) (λ e. absurd (fits entries by stands_for s r id v Rests at rests e)) (λ e. absurd (fits entries by stands_for s r other w Rests at' rests' e)) (λ i u _ _ a. r.holder_saw i u a);
          each_stage = each (λ i u. FitsTickets r.drawn r.serving r.turn r.owner i u.stage) (r.each_stage id v at) (fits entries by stands_for s r other w Rests at' rests') (λ i u _ _ a. r.each_stage i u a);
          each_view = each (λ i u. IsSome u.tag → Knowing r.list r.tag Vs after i u)
              (λ _. record {
                numbered = k.numbered;
                begins = long.2;
                own_all = k.own_all;
                own_seen = own_between by id v.seen (longer v.seen w.seen) r.list v.own long.0 long.2 k.own_seen k.own_all;
                taken = All-append (λ (x : Ended E). IsSettled by r.list (longer v.seen w.seen) Vs x.number x.entries) v.ended (record { number = w.number; entries = w.own; seen = w.seen } ∷ w.ended)
                    (each_weaker (IsSettled by r.list v.seen s.views) (IsSettled by r.list (longer v.seen w.seen) Vs) v.ended (λ n es p. (p.0, own_between by n v.seen (longer v.seen w.seen) r.list es long.0 long.2 p.1 p.0, spent_after n p.2)) k.taken)
                    (All-cons (λ (x : Ended E). IsSettled by r.list (longer v.seen w.seen) Vs x.number x.entries) (record { number = w.number; entries = w.own; seen = w.seen }) w.ended
                    (subst (λ n. IsSettled by r.list (longer v.seen w.seen) Vs n w.own) (sym k'.numbered) (k'.own_all, own_between by other w.seen (longer v.seen w.seen) r.list w.own long.1 long.2 k'.own_seen k'.own_all, spent_now))
                    (each_weaker (IsSettled by r.list w.seen s.views) (IsSettled by r.list (longer v.seen w.seen) Vs) w.ended (λ n es p. (p.0, own_between by n w.seen (longer v.seen w.seen) r.list es long.1 long.2 p.1 p.0, spent_after n p.2)) k'.taken));
                taken_seen = All-append (λ (x : Ended E). IsPrefix x.seen r.list) v.ended (record { number = w.number; entries = w.own; seen = w.seen } ∷ w.ended) k.taken_seen
                    (All-cons (λ (x : Ended E). IsPrefix x.seen r.list) (record { number = w.number; entries = w.own; seen = w.seen }) w.ended k'.begins k'.taken_seen);
                gives = λ h. let t = mine h in (t.0, t.1 ∙ sym wide_after, t.2);
                gives_none = none_give;
                tagged = k.tagged;
              })
              (λ bad. let bad' : IsSome {T = T} None = bad in absurd (cc))
              (λ i u ne ne' a l. let m = r.each_view i u a l in record {
                numbered = m.numbered;
                begins = m.begins;
                own_all = m.own_all;
                own_seen = m.own_seen;
                taken = each_weaker (IsSettled by r.list u.seen s.views) (IsSettled by r.list u.seen Vs) u.ended (λ n es p. (p.0, p.1, spent_after n p.2)) m.taken;
                taken_seen = m.taken_seen;
                gives = λ h. let t = m.gives h in (others_give i ne' t.0, t.1 ∙ sym wide_after, t.2);
                gives_none = m.gives_none;
                tagged = m.tagged;
              });
          others = λ n h. r.others n (subst (λ m. m ≤ n) wide_after h);
        }

  pub joins : (id : ℕ) (v : D) (other : ℕ) (w : D) → IsSome v.tag → v.stage ≡ Rests → IsSome w.tag → w.stage ≡ Rests → Joins Rule id v other w (joined_view v w) spent
  joins id v other w live rests live' rests' s r at apart at_b =
      let at' : get_elem? s.views other ≡ some w = sym (set_else s.views id other (joined_view v w) apart) ∙ at_b in
      let k = r.each_view id v at live in let k' = r.each_view other w at' live' in
      let make = joined id other v w live rests live' rests' s r at apart at' in
      dite (ℕ_discrete w.limit 0)
      (λ z. let n' = k'.gives_none z in make r.giver (λ h. let t = k.gives (omega arith) in let t₁ = t.1 in let t₂ = t.2 in (t.0, omega arith, omega arith)) (λ i _ e. e) (λ h. let n = k.gives_none (omega arith) in omega arith))
      (λ nz. let t = k'.gives (omega arith) in let t₁ = t.1 in let t₂ = t.2 in
      let z : v.limit ≡ 0 = dite (ℕ_discrete v.limit 0) (λ e. e) (λ ne. absurd (apart (t.0 ∙ sym (k.gives (omega arith)).0))) in
      let n = k.gives_none z in make id (λ h. (refl, omega arith, omega arith)) (λ i ne e. absurd (ne (e ∙ sym t.0))) (λ h. absurd (omega arith)))

  -- the value at the end: the seat has seen the whole list
  pub record IsWhole (v : D) (value : V) : Type 0 where
    pub seen : entries value ≡ v.seen
    pub own : entries_of by v.number (entries value) ≡ v.own
    pub ended : EachEnded (λ n es. entries_of by n (entries value) ≡ es) v.ended
    pub ended_seen : All (λ (x : Ended E). IsPrefix x.seen (entries value)) v.ended
    pub others : (n : ℕ) → v.next ≤ n → entries_of by n (entries value) ≡ []
    pub stands : IfSome v.tag (stands_for value)

  -- the seat `id` has all numbers that were given out
  module _ (id : ℕ) (v : D) (live : IsSome v.tag) (rests : v.stage ≡ Rests) (gives_out : 0 < v.limit) (all : (n : ℕ) → n < v.next → (n ≡ v.number) ⊎ HasEnded n v.ended) (s : St) (r : Rule s) (at : get_elem? s.views id ≡ some v) where
    known : Knowing r.list r.tag s.views r.giver id v
    known = r.each_view id v at live

    next_is : v.next ≡ length s.views
    next_is = (known.gives gives_out).1

    abbrev IsDone : ℕ → Type 0
    IsDone n = (entries_of by n r.list ≡ entries_of by n v.seen) × (r.turn ≢ some n)

    done : (n : ℕ) → n < v.next → IsDone n
    done n less = ⊎_elim
        (λ (e : n ≡ v.number). subst IsDone (sym (e ∙ known.numbered)) (known.own_all ∙ sym known.own_seen, fits entries by stands_for s r id v Rests at rests))
        (λ (t : HasEnded n v.ended). let settled = (each_has (IsSettled by r.list v.seen s.views) v.ended n known.taken t).1 in let away = settled.2 in
        (settled.0 ∙ sym settled.1, fits entries by stands_for s r n away.0 Rests away.1 away.3))
        (all n less)

    no_turn : r.turn ≡ none
    no_turn = ⊎_elim (λ (e : r.turn ≡ none). e) (λ (t : (i : ℕ) × (r.turn ≡ some i)). let below = (r.turn_owns t.0 t.1).2 in let count = next_is in absurd ((done t.0 (omega arith)).1 t.1)) (none_or_some r.turn)

    -- no number has entries after those that the seat has seen
    none_unseen : (n : ℕ) → entries_of by n known.begins.0 ≡ []
    none_unseen n =
        let cut : entries_of by n v.seen ++ entries_of by n known.begins.0 ≡ entries_of by n r.list = sym (entries_of-append by n v.seen known.begins.0) ∙ ap (entries_of by n) known.begins.1 in
        let count = next_is in
        dite (dec_le v.next n)
        (λ past. let empty : entries_of by n v.seen ++ entries_of by n known.begins.0 ≡ [] = cut ∙ r.others n (omega arith) in
        ap (λ l. l ++ entries_of by n known.begins.0) (sym (nil_left (entries_of by n v.seen) (entries_of by n known.begins.0) empty)) ∙ empty)
        (λ before. nil_from_append (entries_of by n v.seen) (entries_of by n known.begins.0) (cut ∙ (done n (omega arith)).0))

    saw_all : r.list ≡ v.seen
    saw_all = sym known.begins.1 ∙ (ap (λ l. v.seen ++ l) (nil_from_no_entries by known.begins.0 none_unseen) ∙ append-nil v.seen)

    whole : (value : V) → entries value ≡ r.list → stands_for value r.tag → IsWhole v value
    whole value has stands = record {
      seen = has ∙ saw_all;
      own = ap (entries_of by v.number) has ∙ (ap (λ n. entries_of by n r.list) known.numbered ∙ known.own_all);
      ended = each_weaker (IsSettled by r.list v.seen s.views) (λ n es. entries_of by n (entries value) ≡ es) v.ended (λ n es p. ap (entries_of by n) has ∙ p.0) known.taken;
      ended_seen = All-weaker (λ (x : Ended E). IsPrefix x.seen r.list) (λ x. IsPrefix x.seen (entries value)) (λ x p. subst (IsPrefix x.seen) (sym has) p) v.ended known.taken_seen;
      others = λ n past. let count = next_is in ap (entries_of by n) has ∙ r.others n (omega arith);
      stands = stands_at entries by stands_for value r.tag v.tag known.tagged stands;
    }

  pub closes : (table : TableId) (id : ℕ) (v : D) (words : List ℕ) (slots : List (Option V)) → IsSome v.tag → v.stage ≡ Rests → HasAllNumbers (seat_view table v) → Final (Seen Rule id v) words slots
      → (value : V) × (get_elem? slots 0 ≡ some (Some value)) × IsWhole v value
  closes table id v words slots live rests all end =
      let s = end.0 in let r = end.1.0 in let at = end.1.1 in
      let slot = slot_free entries by stands_for s r (no_turn id v live rests all.0 all.1 s r at) in
      (slot.0, end.4 0 (Some slot.0) (ap (λ h. get_elem? h 0) slot.1), whole id v live rests all.0 all.1 s r at slot.0 slot.2 slot.3)

  -- the same of a value that was found in the slot
  pub whole_at_end : (table : TableId) (id : ℕ) (v : D) (words : List ℕ) (slots : List (Option V)) → IsSome v.tag → v.stage ≡ Rests → HasAllNumbers (seat_view table v) → Final (Seen Rule id v) words slots
      → (taken : Option V) (value : V) → get_elem? slots 0 ≡ some taken → taken ≡ Some value → IsWhole v value
  whole_at_end table id v words slots live rests all f taken value at is =
      let z = closes table id v words slots live rests all f in
      let same : z.0 ≡ value = cc (some-injective _ _ (sym z.1 ∙ at)) in
      subst (IsWhole v) same z.2
