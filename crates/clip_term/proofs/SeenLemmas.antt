-- Frames that are asked, and two ways to see them, alike inside each input's picture.
use Rattle.std.proofs.Common.{◌≡◌, ℕ, zero, suc, ◌+◌, ◌<◌, List, [], ◌∷◌, length, map, refl, ap, arith, subst}
use Rattle.std.specs.List.{range_with_len, All}
use Rattle.std.proofs.lemmas.List.Elements.{All-nil, All-cons}
use Rattle.fv_plane.specs.declared.format.Info.{Info}
use Rattle.fv_plane.specs.declared.format.Shape.{Shape}
use Rattle.clip_term.specs.declared.op.Origin.{Origin}
use Rattle.fv_plane.specs.Picture.{Look, look_at}
use Rattle.clip_term.specs.Refusals.{info_at}
use Rattle.clip_term.specs.Time.{from_input, in_range}
use Rattle.clip_term.specs.Terms.{AreLawful, IsAsked}
use Rattle.fv_plane.proofs.LookLemmas.{Agree}

-- FRAMES OF INPUTS

pub ranged : (infos : List Info) → AreLawful infos → (o : Origin) → o.input < length infos → IsAsked infos (in_range infos o)
ranged infos lawful o h = record { input = h; number = (let some = (lawful o.input h).some in omega arith) }

pub one_asked : (infos : List Info) → AreLawful infos → (o : Origin) → o.input < length infos → All (IsAsked infos) (in_range infos o ∷ [])
one_asked infos lawful o h = All-cons (IsAsked infos) (in_range infos o) [] (ranged infos lawful o h) (All-nil (IsAsked infos))

pub all_asked : (infos : List Info) → AreLawful infos → (f : ℕ → Origin) (a k : ℕ) → ((i : ℕ) → i < a + k → (f i).input < length infos)
    → All (IsAsked infos) (map (λ i. in_range infos (f i)) (range_with_len a k))
all_asked infos lawful f a zero each = All-nil (IsAsked infos)
all_asked infos lawful f a (suc k) each =
    All-cons (IsAsked infos) (in_range infos (f a)) (map (λ i. in_range infos (f i)) (range_with_len (a + 1) k)) (ranged infos lawful (f a) (each a (omega arith)))
    (all_asked infos lawful f (a + 1) k (λ i h. each i (omega arith)))

pub each_number : (infos : List Info) (ks : List ℕ) → AreLawful infos → 0 < length infos → All (IsAsked infos) (map (λ k. in_range infos (from_input 0 k)) ks)
each_number infos [] lawful h = All-nil (IsAsked infos)
each_number infos (k ∷ ks) lawful h =
    All-cons (IsAsked infos) (in_range infos (from_input 0 k)) (map (λ j. in_range infos (from_input 0 j)) ks) (ranged infos lawful (from_input 0 k) h) (each_number infos ks lawful h)

-- SEEN IN TWO WAYS

-- alike on a shape that is the input's, where there is such an input
pub record Alike (infos : List Info) (input : ℕ) (a b : Look) : Type 0 where
  pub on : (shape : Shape) → (input < length infos → (info_at infos input).shape ≡ shape) → Agree shape a b

pub data Seen (infos : List Info) : List Origin → List Look → List Look → Type 0 where
  none_seen : Seen infos [] [] []
  one_seen : {o : Origin} {os : List Origin} {a b : Look} {ls ms : List Look} → Alike infos o.input a b → Seen infos os ls ms → Seen infos (o ∷ os) (a ∷ ls) (b ∷ ms)

pub first_seen : {infos : List Info} {o : Origin} {os : List Origin} {ls ms : List Look} → Seen infos (o ∷ os) ls ms → Alike infos o.input (look_at ls 0) (look_at ms 0)
first_seen (one_seen first rest) = first

-- each on one shape
pub data Agrees (shape : Shape) : List Look → List Look → Type 0 where
  none : Agrees shape [] []
  more : {a b : Look} {ls ms : List Look} → Agree shape a b → Agrees shape ls ms → Agrees shape (a ∷ ls) (b ∷ ms)

pub agree_at : {shape : Shape} {ls ms : List Look} → Agrees shape ls ms → (i : ℕ) → Agree shape (look_at ls i) (look_at ms i)
agree_at none i = record { same = λ p x y h. refl }
agree_at (more first rest) zero = first
agree_at (more first rest) (suc i) = agree_at rest i

-- several frames of the first input
pub seen_again : (infos : List Info) (g : ℕ → ℕ) (ks : List ℕ) {ls ms : List Look} → Seen infos (map (λ k. in_range infos (from_input 0 (g k))) ks) ls ms → Agrees (info_at infos 0).shape ls ms
seen_again infos g [] none_seen = none
seen_again infos g (k ∷ ks) (one_seen first rest) = more (first.on (info_at infos 0).shape (λ h. refl)) (seen_again infos g ks rest)

-- one frame of each input
pub data EachSeen : List Info → List Look → List Look → Type 0 where
  no_more : EachSeen [] [] []
  one_more : {d : Info} {ds : List Info} {a b : Look} {ls ms : List Look} → Agree d.shape a b → EachSeen ds ls ms → EachSeen (d ∷ ds) (a ∷ ls) (b ∷ ms)

seen_from : (infos : List Info) (n k : ℕ) (ds : List Info) → ((i j : ℕ) → j ≡ k + i → i < length ds → (info_at infos j).shape ≡ (info_at ds i).shape)
    → {ls ms : List Look} → Seen infos (map (λ i. in_range infos (from_input i n)) (range_with_len k (length ds))) ls ms → EachSeen ds ls ms
seen_from infos n k [] same none_seen = no_more
seen_from infos n k (d ∷ ds) same (one_seen first rest) =
    one_more (first.on d.shape (λ h. same 0 k (omega arith) (omega arith)))
    (seen_from infos n (k + 1) ds (λ i j e h. same (suc i) j (omega arith) (omega arith)) rest)

same_at : (infos : List Info) (i j : ℕ) → j ≡ 0 + i → (info_at infos j).shape ≡ (info_at infos i).shape
same_at infos i j e = let f : j ≡ i = omega arith in ap (λ k. (info_at infos k).shape) f

pub seen_each : (infos : List Info) (n : ℕ) {ls ms : List Look} → Seen infos (map (λ i. in_range infos (from_input i n)) (range_with_len 0 (length infos))) ls ms → EachSeen infos ls ms
seen_each infos n seen = seen_from infos n 0 infos (λ i j e h. same_at infos i j e) seen

pub each_at : {ds : List Info} {ls ms : List Look} → EachSeen ds ls ms → (i : ℕ) → Agree (info_at ds i).shape (look_at ls i) (look_at ms i)
each_at no_more i = record { same = λ p x y h. refl }
each_at (one_more first rest) zero = first
each_at (one_more first rest) (suc i) = each_at rest i

pub each_like : {ds : List Info} {ls ms : List Look} → EachSeen ds ls ms → (shape : Shape) → ((i : ℕ) → i < length ds → (info_at ds i).shape ≡ shape) → Agrees shape ls ms
each_like no_more shape same = none
each_like (one_more {d} {ds} {a} {b} {ls} {ms} first rest) shape same =
    more (subst (λ (s : Shape). Agree s a b) (same 0 (omega arith)) first) (each_like rest shape (λ i h. same (suc i) (omega arith)))
