-- The seats of a crew, joined one after the other.
use Rattle.std.proofs.Common.{◌≡◌, ℕ, ◌+◌, ◌<◌, max, List, [], ◌∷◌, ◌++◌, Option, Some, None, IfSome, sym, refl, ap, ◌∙◌, subst, arith}
use Rattle.std.proofs.lemmas.List.Elements.{Contains-append_left, Contains-append_right}
use Rattle.std.proofs.lemmas.Option.{IfSome_then}
use mathlib.Core.Logic.{dite}
use native.Mathlib.Decide.{ℕ_discrete}
use Rattle.clip_graph.specs.Plan.{Application}
use Rattle.turn_lock.specs.declared.view.Ended.{Ended}
use Rattle.turn_lock.specs.SeatView.{TableId, joined_seat}
use Rattle.serve_machine.specs.declared.event.Event.{Event}
use Rattle.serve_shared.specs.Seats.{CoreSeat, HasWorker}
use Rattle.prefetch.specs.Crew.{HasWorked, MayWork, WorkedAt, HasWorkers, MayGather, AllWorked, IsGathered}

both : {A : Type 0} (o : Option A) {P Q R : A → Type 0} → IfSome o P → IfSome o Q → ((x : A) → P x → Q x → R x) → IfSome o R
both None p q f = tt
both (Some x) p q f = f x p q

module _ (plan : List Application) (root count w : ℕ) (xs ys : List (Ended Event)) where
  worked_left : HasWorked plan root count w xs → HasWorked plan root count w (xs ++ ys)
  worked_left h = record { one = h.one; there = Contains-append_left xs ys h.one h.there; number = h.number; work = h.work }

  worked_right : HasWorked plan root count w ys → HasWorked plan root count w (xs ++ ys)
  worked_right h = record { one = h.one; there = Contains-append_right xs ys h.one h.there; number = h.number; work = h.work }

module _ {I : Type 0} (plan : List Application) where
  -- the entry of a seat that was joined
  abbrev entry_of : CoreSeat I → Ended Event
  entry_of seat = record { number = seat.number; entries = seat.own; seen = seat.seen }

  -- a seat that worked, as the joined one has it
  worked_at : (seat later : CoreSeat I) (rest : List (Ended Event)) → WorkedAt plan seat later → IfSome seat.tag (λ t. HasWorked plan t.fixed.root t.fixed.count seat.number (entry_of later ∷ rest))
  worked_at seat later rest h = IfSome_then seat.tag h.work (λ t work. record { one = entry_of later; there = (0, omega arith, refl); number = ap (λ (z : CoreSeat I). z.number) h.seat_is.same; work = work })

  -- the one worker is joined into a seat that was split from its own
  pub last_gathered : (seat later one last r : CoreSeat I) → WorkedAt plan seat later → one ≡ record later { next = later.next + 1 } → last ≡ record later { number = later.next; own = []; ended = []; next = 0; limit = 0 } → r ≡ joined_seat last one → IsGathered plan 0 seat r
  last_gathered seat later one last r h first second joined =
      let whole : r ≡ joined_seat (record later { number = later.next; own = []; ended = []; next = 0; limit = 0 }) (record later { next = later.next + 1 }) = joined ∙ (λ i. joined_seat (second i) (first i)) in
      let same = h.seat_is.same in
      let next : later.next ≡ seat.next = ap (λ (z : CoreSeat I). z.next) same in
      let number : r.number ≡ later.next = ap (λ (z : CoreSeat I). z.number) whole in
      let ended : r.ended ≡ entry_of later ∷ later.ended = ap (λ (z : CoreSeat I). z.ended) whole in
      let r_next : r.next ≡ max 0 (later.next + 1) = ap (λ (z : CoreSeat I). z.next) whole in
      let r_limit : r.limit ≡ max 0 later.limit = ap (λ (z : CoreSeat I). z.limit) whole in
      let limit : later.limit ≡ seat.limit = ap (λ (z : CoreSeat I). z.limit) same in
      record {
        lock = ap (λ (z : CoreSeat I). z.lock) whole ∙ ap (λ (z : CoreSeat I). z.lock) same;
        tag = ap (λ (z : CoreSeat I). z.tag) whole ∙ ap (λ (z : CoreSeat I). z.tag) same;
        number = omega arith;
        next = omega arith;
        limit = omega arith;
        own = ap (λ (z : CoreSeat I). z.own) whole;
        work = IfSome_then seat.tag (worked_at seat later later.ended h) (λ s work. record {
          first = subst (HasWorked plan s.fixed.root s.fixed.count seat.number) (sym ended) work;
          rest = λ w low high. absurd (omega (arith, low, high, number, next));
        });
      }

  module _ (seat one other : CoreSeat I) (first : one ≡ record seat { next = seat.next + 1 }) (second : other ≡ record seat { number = seat.next; own = []; ended = []; next = 0; limit = 0 }) where
    -- one worker more, at the seat of the next number
    pub more_gathered : (others left : ℕ) (one' other' r : CoreSeat I) → others ≡ left + 1 → WorkedAt plan other other' → IsGathered plan left one one' → r ≡ joined_seat one' other' → IsGathered plan others seat r
    more_gathered others left one' other' r count worked more joined =
        let one_next : one.next ≡ seat.next + 1 = ap (λ (z : CoreSeat I). z.next) first in
        let one_limit : one.limit ≡ seat.limit = ap (λ (z : CoreSeat I). z.limit) first in
        let one_tag : one.tag ≡ seat.tag = ap (λ (z : CoreSeat I). z.tag) first in
        let one_number : one.number ≡ seat.number = ap (λ (z : CoreSeat I). z.number) first in
        let other_tag : other.tag ≡ seat.tag = ap (λ (z : CoreSeat I). z.tag) second in
        let other_number : other.number ≡ seat.next = ap (λ (z : CoreSeat I). z.number) second in
        let other_next : other'.next ≡ 0 = ap (λ (z : CoreSeat I). z.next) worked.seat_is.same ∙ ap (λ (z : CoreSeat I). z.next) second in
        let other_limit : other'.limit ≡ 0 = ap (λ (z : CoreSeat I). z.limit) worked.seat_is.same ∙ ap (λ (z : CoreSeat I). z.limit) second in
        let more_number = more.number in
        let more_next = more.next in
        let more_limit = more.limit in
        let r_number : r.number ≡ one'.number = ap (λ (z : CoreSeat I). z.number) joined in
        let r_next : r.next ≡ max one'.next other'.next = ap (λ (z : CoreSeat I). z.next) joined in
        let r_limit : r.limit ≡ max one'.limit other'.limit = ap (λ (z : CoreSeat I). z.limit) joined in
        let ended : r.ended ≡ one'.ended ++ entry_of other' ∷ other'.ended = ap (λ (z : CoreSeat I). z.ended) joined in
        let its = subst (λ tag. IfSome tag (λ t. HasWorked plan t.fixed.root t.fixed.count other.number (entry_of other' ∷ other'.ended))) other_tag (worked_at other other' other'.ended worked) in
        let theirs = subst (λ tag. IfSome tag (λ t. AllWorked plan t.fixed.root t.fixed.count one one')) one_tag more.work in
        record {
          lock = ap (λ (z : CoreSeat I). z.lock) joined ∙ more.lock ∙ ap (λ (z : CoreSeat I). z.lock) first;
          tag = ap (λ (z : CoreSeat I). z.tag) joined ∙ more.tag ∙ one_tag;
          number = omega arith;
          next = omega arith;
          limit = omega arith;
          own = ap (λ (z : CoreSeat I). z.own) joined ∙ more.own;
          work = both seat.tag its theirs (λ s mine others'.
              let kept : (w : ℕ) → HasWorked plan s.fixed.root s.fixed.count w one'.ended → HasWorked plan s.fixed.root s.fixed.count w r.ended
              = λ w h. subst (HasWorked plan s.fixed.root s.fixed.count w) (sym ended) (worked_left plan s.fixed.root s.fixed.count w one'.ended (entry_of other' ∷ other'.ended) h) in
              record {
                first = kept seat.number (subst (λ n. HasWorked plan s.fixed.root s.fixed.count n one'.ended) one_number others'.first);
                rest = λ w low high. dite (ℕ_discrete w other.number)
                    (λ e. subst (HasWorked plan s.fixed.root s.fixed.count w) (sym ended) (worked_right plan s.fixed.root s.fixed.count w one'.ended (entry_of other' ∷ other'.ended) (subst (λ n. HasWorked plan s.fixed.root s.fixed.count n (entry_of other' ∷ other'.ended)) (sym e) mine)))
                    (λ ne. kept w (others'.rest w (omega (arith, low, ne, one_next, other_number)) (omega (arith, high, r_number))));
              });
        }

    pub may_work : (lock : TableId) (others : ℕ) → 0 < others → MayGather plan lock others seat → MayWork plan lock other
    may_work lock others some may =
        let number : other.number ≡ seat.next = ap (λ (z : CoreSeat I). z.number) second in
        record {
          lock_is = ap (λ (z : CoreSeat I). z.lock) second ∙ may.lock_is;
          window = subst (λ tag. IfSome tag (HasWorker plan other.number)) (sym (ap (λ (z : CoreSeat I). z.tag) second)) (IfSome_then seat.tag may.window (λ s has. has other.number (omega (arith, some, number))));
          fresh = ap (λ (z : CoreSeat I). z.own) second;
        }

    pub may_gather : (lock : TableId) (others left : ℕ) → others ≡ left + 1 → MayGather plan lock others seat → MayGather plan lock left one
    may_gather lock others left count may =
        let next : one.next ≡ seat.next + 1 = ap (λ (z : CoreSeat I). z.next) first in
        let limit : one.limit ≡ seat.limit = ap (λ (z : CoreSeat I). z.limit) first in
        let number : one.number ≡ seat.number = ap (λ (z : CoreSeat I). z.number) first in
        let before = may.number in
        let room = may.room in
        record {
          lock_is = ap (λ (z : CoreSeat I). z.lock) first ∙ may.lock_is;
          window = subst (λ tag. IfSome tag (HasWorkers plan (one.next + left))) (sym (ap (λ (z : CoreSeat I). z.tag) first)) (IfSome_then seat.tag may.window (λ s has w less. has w (omega (arith, less, next, count))));
          number = omega arith;
          room = omega arith;
          fresh = ap (λ (z : CoreSeat I). z.own) first ∙ may.fresh;
        }
