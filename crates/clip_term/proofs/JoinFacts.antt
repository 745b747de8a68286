-- What each filter of the group Join owes to the laws.
use Rattle.std.proofs.Common.{◌≡◌, ℕ, suc, ◌+◌, ◌-◌, ◌*◌, ◌/◌, ◌%◌, ◌<◌, ◌≤◌, List, [], ◌∷◌, length, refl, ap, arith, Bool, true, false, cond}
use Rattle.std.specs.Prelude.{not, ◌||◌, ◌==◌, nat_lt, if◌then◌else◌, Option, Some, is_none}
use Rattle.std.specs.Option.{unwrap_or}
use Rattle.std.specs.List.{list_all, find, fold, sum_by}
use Rattle.std.proofs.lemmas.Bool.Decides.{nat_tests}
use Rattle.std.proofs.lemmas.Grind.{common_steps}
use Rattle.fv_plane.specs.declared.format.Info.{Info}
use Rattle.fv_plane.specs.declared.format.Shape.{Shape}
use Rattle.fv_plane.specs.declared.format.PixelType.{PixelType}
use Rattle.fv_plane.specs.declared.format.PixelType.TheVariants.{Y8}
use Rattle.fv_plane.specs.Format.{has_depth, planes, sub_w, sub_h, largest_sample, plane_width, plane_height}
use Rattle.fv_plane.specs.Picture.{Look, look_at}
use Rattle.fv_plane.proofs.LookLemmas.{Agree}
use Rattle.clip_term.specs.declared.filter.Filter.{Filter}
use Rattle.clip_term.specs.declared.op.JoinOp.{JoinOp}
use Rattle.clip_term.specs.declared.op.JoinOp.TheVariants as op
use Rattle.clip_term.specs.Refusals.{info_at, same_format, same_size, disagreements}
use Rattle.clip_term.specs.Join.{JoinRow, join_row, beside, beneath, kind_of, luma_source}
use Rattle.clip_term.specs.Terms.{AreLawful}
use Rattle.clip_term.proofs.BoundLemmas.{IsBounded, AllBounded, none, more, bounded_at, if_few}
use Rattle.clip_term.proofs.LimitLemmas.{IsSized, sized_of}
use Rattle.clip_term.proofs.PartLemmas.{IsRatio, across_ratio, down_ratio, whole_sum, multiple, some_planes}
use Rattle.clip_term.proofs.PassedLemmas.{each, below_of, first_of, first_of_many, Passed, agreed, not_false, if_same, all_at, same_format_is, same_number}
use Rattle.clip_term.proofs.SeenLemmas.{Agrees, EachSeen, no_more, one_more, each_at, each_like, agree_at}

-- What a row owes: it takes a clip; what it makes inside its picture needs the inputs only inside theirs; its size is that of a
-- clip; its samples have the bits of each input's, and none is over the largest one.
pub record JoinFacts (row : JoinRow) : Type 0 where
  pub some : (k : ℕ) → row.inputs k ≡ true → 0 < k
  pub local : (infos : List Info) (ls ms : List Look) → Passed (row.refusals (info_at infos 0) infos) → EachSeen infos ls ms → Agree (row.shape (info_at infos 0) infos) (row.at infos ls) (row.at infos ms)
  pub sized : (infos : List Info) → Passed (row.refusals (info_at infos 0) infos) → row.inputs (length infos) ≡ true → AreLawful infos → IsSized (row.shape (info_at infos 0) infos)
  pub bits : (infos : List Info) → Passed (row.refusals (info_at infos 0) infos) → (i : ℕ) → i < length infos → (info_at infos i).shape.bits ≡ (row.shape (info_at infos 0) infos).bits
  pub bounded : (shape : Shape) (infos : List Info) (looks : List Look) → AllBounded shape looks → IsBounded shape (row.at infos looks)

-- clips that have one size, and a result of this size
of_two : {filter : Filter} {at : List Look → Look}
    → ((shape : Shape) (ls ms : List Look) → Agrees shape ls ms → Agree shape (at ls) (at ms))
    → ((shape : Shape) (looks : List Look) → AllBounded shape looks → IsBounded shape (at looks))
    → JoinFacts (record { filter = filter; inputs = λ k. k == 2; refusals = λ c infos. disagreements infos; length = λ c infos. c.frames; shape = λ c infos. c.shape; at = λ infos looks p x y. at looks p x y })
of_two local bounded = record {
  some = λ k e. first_of k 1 e;
  local = λ infos ls ms told seen. record { same = λ p x y i. (local (info_at infos 0).shape ls ms (each_like seen (info_at infos 0).shape (agreed infos told))).same p x y i };
  sized = λ infos told sound lawful. sized_of (info_at infos 0).shape (lawful 0 (first_of (length infos) 1 sound)).shape;
  bits = λ infos told i h. ap (λ (s : Shape). s.bits) (agreed infos told i h);
  bounded = λ shape infos looks all. record { at = λ p x y. (bounded shape looks all).at p x y };
}

-- STACKS

beside_same : {ds : List Info} {ls ms : List Look} → EachSeen ds ls ms → (shape : Shape) (p x y : ℕ)
    → list_all (λ (d : Info). same_format d.shape shape) ds ≡ true → list_all (λ (d : Info). d.shape.height == shape.height) ds ≡ true
    → p < planes shape.kind → y < plane_height shape p → beside ds ls p x y ≡ beside ds ms p x y
beside_same no_more shape p x y e f h g = refl
beside_same (one_more {d} {ds} {a} {b} {ls} {ms} first rest) shape p x y e f h g =
    let k = all_at (λ (o : Info). same_format o.shape shape) d ds e in
    let s = all_at (λ (o : Info). o.shape.height == shape.height) d ds f in
    let kind = (same_format_is d.shape shape k.0).0 in
    let height = same_number d.shape.height shape.height s.0 in
    let width = plane_width d.shape p in
    if_same (nat_lt x width) (a p x y) (b p x y) (beside ds ls p (x - width) y) (beside ds ms p (x - width) y)
    (λ t. first.same p x y (record { plane = rw kind h; across = below_of x width t; down = rw (kind, height) g }))
    (beside_same rest shape p (x - width) y k.1 s.1 h g)

beneath_same : {ds : List Info} {ls ms : List Look} → EachSeen ds ls ms → (shape : Shape) (p x y : ℕ)
    → list_all (λ (d : Info). same_format d.shape shape) ds ≡ true → list_all (λ (d : Info). d.shape.width == shape.width) ds ≡ true
    → p < planes shape.kind → x < plane_width shape p → beneath ds ls p x y ≡ beneath ds ms p x y
beneath_same no_more shape p x y e f h g = refl
beneath_same (one_more {d} {ds} {a} {b} {ls} {ms} first rest) shape p x y e f h g =
    let k = all_at (λ (o : Info). same_format o.shape shape) d ds e in
    let s = all_at (λ (o : Info). o.shape.width == shape.width) d ds f in
    let kind = (same_format_is d.shape shape k.0).0 in
    let width = same_number d.shape.width shape.width s.0 in
    let height = plane_height d.shape p in
    if_same (nat_lt y height) (a p x y) (b p x y) (beneath ds ls p x (y - height)) (beneath ds ms p x (y - height))
    (λ t. first.same p x y (record { plane = rw kind h; across = rw (kind, width) g; down = below_of y height t }))
    (beneath_same rest shape p x (y - height) k.1 s.1 h g)

sum_whole : {k : ℕ} → IsRatio k → (f : Info → ℕ) (ds : List Info) (a : ℕ) → a % k ≡ 0 → ((i : ℕ) → i < length ds → f (info_at ds i) % k ≡ 0) → fold (λ n (d : Info). n + f d) a ds % k ≡ 0
sum_whole is f [] a e whole = e
sum_whole is f (d ∷ ds) a e whole = sum_whole is f ds (a + f d) (whole_sum is a (f d) e (whole 0 (omega arith))) (λ i h. whole (suc i) (omega arith))

some_sum : (f : Info → ℕ) (infos : List Info) → 0 < length infos → 0 < f (info_at infos 0) → 0 < sum_by f infos
some_sum f infos h g = grind (arith, common_steps)

beside_few : (shape : Shape) (ds : List Info) {looks : List Look} → AllBounded shape looks → (p x y : ℕ) → beside ds looks p x y ≤ largest_sample shape
beside_few shape [] all p x y = omega arith
beside_few shape (d ∷ ds) none p x y = omega arith
beside_few shape (d ∷ ds) (more first rest) p x y = if_few _ _ _ _ (first.at p x y) (beside_few shape ds rest p _ y)

beneath_few : (shape : Shape) (ds : List Info) {looks : List Look} → AllBounded shape looks → (p x y : ℕ) → beneath ds looks p x y ≤ largest_sample shape
beneath_few shape [] all p x y = omega arith
beneath_few shape (d ∷ ds) none p x y = omega arith
beneath_few shape (d ∷ ds) (more first rest) p x y = if_few _ _ _ _ (first.at p x y) (beneath_few shape ds rest p x _)

-- YTOUV

found_by : {X : Type 0} (test : X → Bool) (t : Bool) (x : X) (xs : List X) (k : X) → test x ≡ t → (find test xs ≡ Some k → test k ≡ true) → cond t (Some x) (find test xs) ≡ Some k → test k ≡ true
found_by test t x xs k e later f = grind (arith, common_steps)

pub found : {X : Type 0} (test : X → Bool) (xs : List X) (k : X) → find test xs ≡ Some k → test k ≡ true
found test [] k e = cc
found test (x ∷ xs) k e = found_by test (test x) x xs k refl (found test xs k) e

pub some_kind : (o : Option PixelType) → is_none o ≡ false → o ≡ Some (unwrap_or o Y8)
some_kind o e = grind (arith, common_steps)

-- the sizes of y over u and v that are accepted
record HasSizes (u v y : Shape) : Type 0 where
  width : y.width ≡ u.width * sub_w (unwrap_or (kind_of u y) Y8)
  height : y.height ≡ u.height * sub_h (unwrap_or (kind_of u y) Y8)
  same_width : u.width ≡ v.width
  same_height : u.height ≡ v.height

has_all : (u v y : Shape) → not (same_size u v) || is_none (kind_of u y) ≡ false → HasSizes u v y
has_all u v y told = grind (arith, common_steps)

by_chroma : (c : Bool) (ls ms : List Look) (x z : ℕ) → look_at ls 0 0 x z ≡ look_at ms 0 0 x z → look_at ls 1 0 x z ≡ look_at ms 1 0 x z
    → look_at ls (if c then 0 else 1) 0 x z ≡ look_at ms (if c then 0 else 1) 0 x z
by_chroma c ls ms x z e f = grind (arith, common_steps)

-- a place on luma of the result is one of y, a place on its chroma is one of u and of v
picked : (b c : Bool) (ls ms : List Look) (u v y : Shape) (x z : ℕ) → HasSizes u v y → Agree u (look_at ls 0) (look_at ms 0) → Agree v (look_at ls 1) (look_at ms 1) → Agree y (look_at ls 2) (look_at ms 2)
    → x < (if b then y.width else y.width / sub_w (unwrap_or (kind_of u y) Y8)) → z < (if b then y.height else y.height / sub_h (unwrap_or (kind_of u y) Y8))
    → look_at ls (if b then 2 else if c then 0 else 1) 0 x z ≡ look_at ms (if b then 2 else if c then 0 else 1) 0 x z
picked b c ls ms u v y x z sizes at_u at_v at_y h g = grind (arith, nat_tests, some_planes, multiple, across_ratio, down_ratio, by_chroma)

-- EACH FILTER

pub join_facts : (inner : JoinOp) → JoinFacts (join_row inner)
join_facts op.StackHorizontal = record {
  some = λ k e. first_of_many 1 k e;
  local = λ infos ls ms told seen. record {
    same = λ p x y i. beside_same seen (info_at infos 0).shape p x y (not_false (list_all _ infos) told.0) (not_false (list_all _ infos) told.1.0) i.plane i.down;
  };
  sized = λ infos told sound lawful.
      let shape = (info_at infos 0).shape in
      let some = first_of_many 1 (length infos) sound in
      let first = (lawful 0 some).shape in
      let whole : (i : ℕ) → i < length infos → (info_at infos i).shape.width % sub_w shape.kind ≡ 0 = λ i h.
      rw (same_format_is (info_at infos i).shape shape (each (λ (d : Info). same_format d.shape shape) infos told.0 i h)).0 at (lawful i h).shape.whole_width in
      record {
        depth = first.depth;
        some_width = some_sum (λ (d : Info). d.shape.width) infos some first.some_width;
        some_height = first.some_height;
        whole_width = sum_whole (across_ratio shape.kind) (λ (d : Info). d.shape.width) infos 0 (multiple (across_ratio shape.kind) 0 0 (omega arith)).0 whole;
        whole_height = first.whole_height;
      };
  bits = λ infos told i h. (same_format_is (info_at infos i).shape (info_at infos 0).shape (each (λ (d : Info). same_format d.shape (info_at infos 0).shape) infos told.0 i h)).1;
  bounded = λ shape infos looks all. record { at = λ p x y. beside_few shape infos all p x y };
}
join_facts op.StackVertical = record {
  some = λ k e. first_of_many 1 k e;
  local = λ infos ls ms told seen. record {
    same = λ p x y i. beneath_same seen (info_at infos 0).shape p x y (not_false (list_all _ infos) told.0) (not_false (list_all _ infos) told.1.0) i.plane i.across;
  };
  sized = λ infos told sound lawful.
      let shape = (info_at infos 0).shape in
      let some = first_of_many 1 (length infos) sound in
      let first = (lawful 0 some).shape in
      let whole : (i : ℕ) → i < length infos → (info_at infos i).shape.height % sub_h shape.kind ≡ 0 = λ i h.
      rw (same_format_is (info_at infos i).shape shape (each (λ (d : Info). same_format d.shape shape) infos told.0 i h)).0 at (lawful i h).shape.whole_height in
      record {
        depth = first.depth;
        some_width = first.some_width;
        some_height = some_sum (λ (d : Info). d.shape.height) infos some first.some_height;
        whole_width = first.whole_width;
        whole_height = sum_whole (down_ratio shape.kind) (λ (d : Info). d.shape.height) infos 0 (multiple (down_ratio shape.kind) 0 0 (omega arith)).0 whole;
      };
  bits = λ infos told i h. (same_format_is (info_at infos i).shape (info_at infos 0).shape (each (λ (d : Info). same_format d.shape (info_at infos 0).shape) infos told.0 i h)).1;
  bounded = λ shape infos looks all. record { at = λ p x y. beneath_few shape infos all p x y };
}
join_facts op.Merge = of_two
    (λ shape ls ms agrees. record { same = λ p x y i. rw ((agree_at agrees 0).same p x y i, (agree_at agrees 1).same p x y i) refl })
    (λ shape looks all. record { at = λ p x y. let a = (bounded_at all 0).at p x y in let b = (bounded_at all 1).at p x y in omega arith })
join_facts op.MergeLuma = of_two
    (λ shape ls ms agrees. record { same = λ p x y i. (agree_at agrees (if p == 0 then 1 else 0)).same p x y i })
    (λ shape looks all. record { at = λ p x y. (bounded_at all (if p == 0 then 1 else 0)).at p x y })
join_facts op.MergeChroma = of_two
    (λ shape ls ms agrees. record { same = λ p x y i. (agree_at agrees (if p == 0 then 0 else 1)).same p x y i })
    (λ shape looks all. record { at = λ p x y. (bounded_at all (if p == 0 then 0 else 1)).at p x y })
join_facts op.YToUV = record {
  some = λ k e. first_of k 2 e;
  local = λ infos ls ms told seen. record {
    same = λ p x z i. picked (p == 0) (p == 1) ls ms _ _ _ x z (has_all (info_at infos 0).shape (info_at infos 1).shape (info_at infos 2).shape told.1.0) (each_at seen 0) (each_at seen 1) (each_at seen 2) i.across i.down;
  };
  sized = λ infos told sound lawful.
      let u = (info_at infos 0).shape in
      let y = (info_at infos 2).shape in
      let k = unwrap_or (kind_of u y) Y8 in
      let three = same_number (length infos) 3 sound in
      let third = (lawful 2 (omega arith)).shape in
      let sizes = has_all u (info_at infos 1).shape y told.1.0 in
      record {
        depth = not_false (has_depth k u.bits) told.1.1.0;
        some_width = third.some_width;
        some_height = third.some_height;
        whole_width = (multiple (across_ratio k) y.width u.width sizes.width).0;
        whole_height = (multiple (down_ratio k) y.height u.height sizes.height).0;
      };
  bits = λ infos told i h. same_number _ _ (each (λ (d : Info). d.shape.bits == (info_at infos 0).shape.bits) infos told.0 i h);
  bounded = λ shape infos looks all. record { at = λ p x y. (bounded_at all (luma_source p)).at 0 x y };
}
