-- The steps of a turn keep the rule: a ticket is drawn, the turn is taken, and it ends.
use Rattle.std.proofs.Common.{◌≡◌, ◌≢◌, ℕ, ◌+◌, ◌%◌, ◌^◌, ◌<◌, ◌≤◌, List, [], ◌∷◌, length, get_or, set, sym, refl, ap, ◌∙◌, subst, ⊎_elim, arith, Option, Some, None, IsSome, IfSome, unwrap_or, length-set}
use Rattle.std.proofs.lemmas.List.Elements.{All-weaker}
use mathlib.Core.Logic.{dite}
use mathlib.Core.Option.{none, some, some-injective, some-ne-none}
use native.Mathlib.Decide.{ℕ_discrete}
use lib.ListN.{get_elem?}
use lib.Seq.{set-get_or}
use Rattle.atomic_table.specs.Table.{State, Me, step, keeps, takes, gives, stepped, rest, Allows}
use Rattle.atomic_table.proofs.Lists.{set_again, one_turn}
use Rattle.turn_lock.specs.declared.view.Ended.{Ended}
use Rattle.turn_lock.specs.declared.view.View.{View}
use Rattle.turn_lock.specs.declared.view.Stage.TheVariants.{Rests, Waits, Holds}
use Rattle.turn_lock.specs.Entries.{IsPrefix, entries_of, AddsOnly}
use Rattle.turn_lock.specs.TurnRule.{tickets, ticket_of, FitsTickets, IsSettled, Knows, KeepsTurns}
use Rattle.turn_lock.specs.Steps.{waiting, holding, rested, giver, DrawsTicket, LooksAtServing, ServesNext}
use Rattle.turn_lock.proofs.EntryLemmas.{prefix_of_itself, prefix_of_more, kept_of_others, each_weaker}
use Rattle.turn_lock.proofs.RuleLemmas.{put, put_here, put_else, at_below, none_or_some, sum_by-set_at, fits_drawn, fits_taken, fits_left, each_set, live_apart, spent_stays, know, unchanged, sees_all, fits, slot_free, slot_out, near, same_words, stands_at, stands_of}

module _ {V E T : Type 0} (entries : V → List E) (by : E → ℕ) (stands_for : V → T → Type 0) where
  abbrev D : Type 0
  D = View E T

  abbrev St : Type 0
  St = State (Option V) D

  abbrev M : Type 0
  M = Me (Option V) D

  abbrev Rule : St → Type 0
  Rule = KeepsTurns entries by stands_for

  abbrev Knowing : List E → T → List D → ℕ → ℕ → D → Type 0
  Knowing list tag views giver i v = Knows entries by stands_for list tag views giver i v

  abbrev in_hand : V → List (ℕ × Option V) → V
  in_hand d [] = d
  in_hand d (x ∷ xs) = unwrap_or x.1 d

  pub draws : (slots id : ℕ) (me : M) → IsSome me.0.tag → me.0.stage ≡ Rests → Allows Rule slots id me 0 (λ n. (n + 1) % 2 ^ 64) (DrawsTicket (step slots 0 1 0 none) me)
  draws slots id me live rests s r deep at _ =
      let w : D = waiting me.0 r.drawn in
      let first : get_or s.words 0 0 ≡ r.drawn % 18446744073709551616 = ap (λ l. get_or l 0 0) r.words_are in
      let sum = sum_by-set_at (λ (v : D). tickets v.stage) s.views id me.0 w at in
      let none_out : tickets me.0.stage ≡ 0 = ap tickets rests in
      let idle = fits entries by stands_for s r id me.0 Rests at rests in
      let c = r.counted in
      let still = unchanged entries by stands_for r.list r.tag s.views r.giver id me.0 w in
      let mine = still id me.0 at live (r.each_view id me.0 at live) in (
        w,
        keeps,
        tt,
        record {
          drawn = r.drawn + 1;
          serving = r.serving;
          turn = r.turn;
          owner = put r.owner r.drawn id;
          list = r.list;
          tag = r.tag;
          giver = r.giver;
          words_are = ap (λ l. set l 0 ((get_or s.words 0 0 + 1) % 18446744073709551616)) r.words_are ∙ ap (λ n. n ∷ r.serving % 18446744073709551616 ∷ []) (omega arith);
          slot = r.slot;
          few = subst (λ n. n < 2 ^ 63) (sym (length-set s.views id w)) r.few;
          counted = omega arith;
          turn_owns = λ i e. let t = r.turn_owns i e in let less = t.1 in (put_else r.owner r.drawn id r.serving (λ z. omega arith) ∙ t.0, omega arith, subst (λ n. i < n) (sym (length-set s.views id w)) t.2);
          holder_saw = each_set (λ i v. r.turn ≡ some i → v.seen ≡ r.list) s.views id w (λ e. absurd (idle e)) (λ i v _ a. r.holder_saw i v a);
          each_stage = each_set (λ i v. FitsTickets (r.drawn + 1) r.serving r.turn (put r.owner r.drawn id) i v.stage) s.views id w (omega arith, omega arith, put_here r.owner r.drawn id, idle)
              (λ i v _ a. fits_drawn r.drawn r.serving r.turn r.owner i id v.stage (r.each_stage i v a));
          each_view = each_set (λ i v. IsSome v.tag → Knowing r.list r.tag (set s.views id w) r.giver i v) s.views id w
              (λ _. record { numbered = mine.numbered; begins = mine.begins; own_all = mine.own_all; own_seen = mine.own_seen; taken = mine.taken; taken_seen = mine.taken_seen; gives = mine.gives; gives_none = mine.gives_none; tagged = mine.tagged })
              (λ i v _ a l. still i v at live (r.each_view i v a l));
          others = λ n h. r.others n (subst (λ m. m ≤ n) (length-set s.views id w) h);
        },
        (r.drawn, refl, sym first),
      )

  pub looks : (slots id k : ℕ) (me : M) → IsSome me.0.tag → me.0.stage ≡ Waits k → Allows Rule slots id me 1 (λ n. n) (LooksAtServing entries by stands_for (step slots 1 0 0 none) me)
  looks slots id k me live waits s r deep at _ =
      let f = fits entries by stands_for s r id me.0 (Waits k) at waits in
      let f₀ = f.0 in let f₁ = f.1 in
      let n : ℕ = get_or s.words 1 0 in
      let found : n ≡ r.serving % 18446744073709551616 = ap (λ l. get_or l 1 0) r.words_are in
      let close = near entries by stands_for s r in
      dite (ℕ_discrete (k % 18446744073709551616) n)
      (λ hit. let now : r.serving ≡ k = one_turn r.serving k 18446744073709551616 f₀ (omega arith) (sym (hit ∙ found)) in
      ⊎_elim (λ (free : r.turn ≡ none). let sl = slot_free entries by stands_for s r free in let v : V = sl.0 in let w : D = holding me.0 k (entries v) in
      let sum = sum_by-set_at (λ (v : D). tickets v.stage) s.views id me.0 w at in let one : tickets me.0.stage ≡ 1 = ap tickets waits in
      let known = r.each_view id me.0 at live in
      let still = unchanged entries by stands_for r.list r.tag s.views r.giver id me.0 w in
      let all = sees_all entries by stands_for r.list r.tag (set s.views id w) r.giver id me.0 (Holds k) (still id me.0 at live known) in
      let here : Knowing r.list r.tag (set s.views id w) r.giver id w = subst (λ l. Knowing r.list r.tag (set s.views id w) r.giver id (holding me.0 k l)) (sym sl.2) all in (
        w,
        takes 0 (Some v),
        ap (λ h. get_elem? h 0) sl.1,
        record {
          drawn = r.drawn;
          serving = r.serving;
          turn = some id;
          owner = r.owner;
          list = r.list;
          tag = r.tag;
          giver = r.giver;
          words_are = same_words entries by stands_for s r 1;
          slot = ap (λ h. set h 0 none) sl.1;
          few = subst (λ n. n < 2 ^ 63) (sym (length-set s.views id w)) r.few;
          counted = let c = r.counted in omega arith;
          turn_owns = λ i e. let same = some-injective id i e in let below = at_below s.views id me.0 at in let wide = length-set s.views id w in (ap r.owner now ∙ (f.2 ∙ same), omega arith, omega arith);
          holder_saw = each_set (λ i v. some id ≡ some i → v.seen ≡ r.list) s.views id w (λ _. sl.2) (λ i v ne _ e. absurd (ne (sym (some-injective id i e))));
          each_stage = each_set (λ i v. FitsTickets r.drawn r.serving (some id) r.owner i v.stage) s.views id w (sym now, omega arith, f.2, refl)
              (λ i v ne a. fits_taken r.drawn r.serving r.turn r.owner i id v.stage (λ e. ne (sym e)) free (r.each_stage i v a));
          each_view = each_set (λ i v. IsSome v.tag → Knowing r.list r.tag (set s.views id w) r.giver i v) s.views id w (λ _. here) (λ i v _ a l. still i v at live (r.each_view i v a l));
          others = λ n h. r.others n (subst (λ m. m ≤ n) (length-set s.views id w) h);
        },
        (λ j is. let same : k ≡ j = ap ticket_of (sym waits ∙ is) in (
          (λ _. (
            v,
            ap (λ (x : ℕ). (holding me.0 x (entries v), (0, Some v) ∷ me.1)) same,
            record {
              seen = subst (IsPrefix me.0.seen) (sym sl.2) known.begins;
              own = ap (λ m. entries_of by m (entries v)) known.numbered ∙ (ap (entries_of by id) sl.2 ∙ known.own_all);
              ended = each_weaker (IsSettled by r.list me.0.seen s.views) (λ n es. entries_of by n (entries v) ≡ es) me.0.ended (λ n es p. ap (entries_of by n) sl.2 ∙ p.0) known.taken;
              stands = stands_at entries by stands_for v r.tag me.0.tag known.tagged sl.3;
            },
          )),
          λ miss. absurd (miss (ap (λ x. x % 18446744073709551616) (sym same) ∙ hit)),
        )),
      ))
      (λ (t : (i : ℕ) × (r.turn ≡ some i)). absurd (f.3 (t.1 ∙ ap some (sym (r.turn_owns t.0 t.1).0 ∙ (ap r.owner now ∙ f.2)))))
      (none_or_some r.turn))
      (λ miss. (
        me.0,
        keeps,
        tt,
        subst (λ (x : List ℕ × List D). Rule record { words = x.0; homes = s.homes; views = x.1 }) (λ i. (sym (set-get_or s.words 1 0) i, sym (set_again s.views id me.0 at) i)) r,
        (λ j is. let same : k ≡ j = ap ticket_of (sym waits ∙ is) in ((λ e. absurd (miss (ap (λ x. x % 18446744073709551616) same ∙ e))), λ _. refl)),
      ))

  pub leaves : (slots id : ℕ) (me : M) (v : V) → IsSome me.0.tag → me.0.stage ≡ Holds (ticket_of me.0.stage) → me.1 ≡ (0, Some v) ∷ [] → IfSome me.0.tag (stands_for v) → AddsOnly by me.0.number me.0.seen (entries v)
      → Allows Rule slots id me 1 (λ n. (n + 1) % 2 ^ 64) (ServesNext entries by (step slots 1 1 0 none) me)
  leaves slots id me v live holds carried ok goes s r deep at _ =
      let w : D = rested by me.0 (entries v) in
      let k : ℕ = ticket_of me.0.stage in
      let f = fits entries by stands_for s r id me.0 (Holds k) at holds in
      let taken : r.turn ≡ some id = f.3 in
      let found : get_or s.words 1 0 ≡ r.serving % 18446744073709551616 = ap (λ l. get_or l 1 0) r.words_are in
      let sum = sum_by-set_at (λ (v : D). tickets v.stage) s.views id me.0 w at in let one : tickets me.0.stage ≡ 1 = ap tickets holds in
      let known = r.each_view id me.0 at live in
      let saw : me.0.seen ≡ r.list = r.holder_saw id me.0 at taken in
      let owns = (r.turn_owns id taken).0 in
      let y : ℕ = (get_or s.words 1 0 + 1) % 18446744073709551616 in
      let goes' : AddsOnly by id r.list (entries v) = subst (λ (x : ℕ × List E). AddsOnly by x.0 x.1 (entries v)) (λ i. (known.numbered i, saw i)) goes in
      let later : (i : ℕ) → i ≢ id → entries_of by i (entries v) ≡ entries_of by i r.list = λ i ne. kept_of_others by id i r.list (entries v) goes' ne in
      let still = know entries by stands_for r.list (entries v) r.tag s.views r.giver id me.0 w in
      let own : entries_of by id (entries v) ≡ entries_of by me.0.number (entries v) = ap (λ n. entries_of by n (entries v)) (sym known.numbered) in (
        w,
        gives,
        tt,
        subst (λ (cs : List (ℕ × Option V)). Rule (stepped s 1 y id cs w gives)) (sym carried) record {
          drawn = r.drawn;
          serving = r.serving + 1;
          turn = none;
          owner = r.owner;
          list = entries v;
          tag = r.tag;
          giver = r.giver;
          words_are = ap (λ l. set l 1 y) r.words_are ∙ ap (λ n. r.drawn % 18446744073709551616 ∷ n ∷ []) (omega arith);
          slot = (v, ap (λ h. set h 0 (some (Some v))) (slot_out entries by stands_for s r id taken), refl, stands_of entries by stands_for v r.tag me.0.tag known.tagged ok);
          few = subst (λ n. n < 2 ^ 63) (sym (length-set s.views id w)) r.few;
          counted = let c = r.counted in omega arith;
          turn_owns = λ i e. absurd (some-ne-none i (sym e));
          holder_saw = λ i v _ e. absurd (some-ne-none i (sym e));
          each_stage = each_set (λ i v. FitsTickets r.drawn (r.serving + 1) none r.owner i v.stage) s.views id w (λ e. some-ne-none id (sym e))
              (λ i v ne a. fits_left r.drawn r.serving r.turn r.owner i id v.stage (λ e. ne (sym e)) taken owns (r.each_stage i v a));
          each_view = each_set (λ i u. IsSome u.tag → Knowing (entries v) r.tag (set s.views id w) r.giver i u) s.views id w
              (λ _. record {
                numbered = known.numbered;
                begins = prefix_of_itself (entries v);
                own_all = own;
                own_seen = own;
                taken = each_weaker (IsSettled by r.list me.0.seen s.views) (IsSettled by (entries v) (entries v) (set s.views id w)) me.0.ended
                    (λ n es p. let ne = live_apart s.views id n me.0 at live p.2 in (later n ne ∙ p.0, later n ne ∙ p.0, spent_stays s.views id n me.0 w at live p.2)) known.taken;
                taken_seen = All-weaker (λ (x : Ended E). IsPrefix x.seen r.list) (λ x. IsPrefix x.seen (entries v)) (λ x p. prefix_of_more by id x.seen r.list (entries v) p goes') me.0.ended known.taken_seen;
                gives = λ h. let t = known.gives h in (t.0, t.1 ∙ sym (length-set s.views id w), t.2);
                gives_none = known.gives_none;
                tagged = known.tagged;
              })
              (λ i u ne a l. still i u at live (λ xs p. prefix_of_more by id xs r.list (entries v) p goes') later (later i ne) (r.each_view i u a l));
          others = λ n h. let h' : length s.views ≤ n = subst (λ m. m ≤ n) (length-set s.views id w) h in let below = at_below s.views id me.0 at in later n (λ e. omega arith) ∙ r.others n h';
        },
        (λ i u is. let same : v ≡ u = ap (in_hand v) (sym carried ∙ is) in ap (λ cs. (rested by me.0 (entries v), rest cs)) carried ∙ ap (λ x. (rested by me.0 (entries x), [])) same),
      )

  pub leaves_from : (slots id : ℕ) (me₀ me : M) (v : V) → me ≡ (me₀.0, (0, Some v) ∷ rest me₀.1) → IsSome me₀.0.tag → me₀.0.stage ≡ Holds (ticket_of me₀.0.stage) → me₀.1 ≡ (0, None) ∷ [] → IfSome me₀.0.tag (stands_for v)
      → AddsOnly by me₀.0.number me₀.0.seen (entries v) → Allows Rule slots id me 1 (λ n. (n + 1) % 2 ^ 64) (ServesNext entries by (step slots 1 1 0 none) me)
  leaves_from slots id me₀ me v is live holds carried ok goes = subst (λ (m : M). Allows Rule slots id m 1 (λ n. (n + 1) % 2 ^ 64) (ServesNext entries by (step slots 1 1 0 none) m))
      (ap (λ cs. (me₀.0, (0, Some v) ∷ rest cs)) (sym carried) ∙ sym is) (leaves slots id (me₀.0, (0, Some v) ∷ []) v live holds refl ok goes)

  -- where a turn is over, the seat rests
  pub rested_after : (turn : M) (back : M) (after : M) (value : V) → back ≡ (turn.0, (0, Some value) ∷ rest turn.1) → turn.1 ≡ (0, None) ∷ []
      → ((slot : ℕ) (v : V) → back.1 ≡ (slot, Some v) ∷ [] → after ≡ (rested by back.0 (entries v), [])) → after ≡ (rested by turn.0 (entries value), [])
  rested_after turn back after value given out serves =
      serves 0 value (ap (λ m. m.1) given ∙ ap (λ cs. (0, Some value) ∷ rest cs) out) ∙ ap (λ m. (rested by m.0 (entries value), [])) given
