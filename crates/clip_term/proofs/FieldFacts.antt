-- What each filter on fields owes to the laws.
use Rattle.std.proofs.Common.{◌≡◌, ℕ, ◌+◌, ◌-◌, ◌*◌, ◌/◌, ◌%◌, ◌<◌, List, [], ◌∷◌, map, refl, arith, Bool, true, false}
use Rattle.std.specs.Prelude.{if◌then◌else◌, ◌==◌, not}
use Rattle.std.proofs.lemmas.Grind.{common_steps}
use Rattle.fv_plane.specs.declared.format.Field.{Field}
use Rattle.fv_plane.specs.declared.format.Info.{Info}
use Rattle.fv_plane.specs.declared.format.Shape.{Shape}
use Rattle.fv_plane.specs.Format.{sub_h}
use Rattle.fv_plane.specs.Info.{IsLawful}
use Rattle.fv_plane.specs.Picture.{Look, look_at}
use Rattle.fv_plane.proofs.LookLemmas.{Agree}
use Rattle.clip_term.specs.declared.field.FieldOp.{FieldOp}
use Rattle.clip_term.specs.declared.field.FieldOp.TheVariants as op
use Rattle.clip_term.specs.declared.filter.Filter.{Filter}
use Rattle.clip_term.specs.Time.{FieldRow, field_row, has_fields, is_even, is_upper, woven_from, other_row, is_top_first, same_bool, from_input, in_range}
use Rattle.clip_term.specs.Refusals.{info_at, rate_of}
use Rattle.clip_term.proofs.BoundLemmas.{IsBounded, AllBounded, bounded_at}
use Rattle.clip_term.proofs.LimitLemmas.{IsSized, IsSome, own, halved}
use Rattle.clip_term.proofs.PartLemmas.{IsRatio, same, down_ratio}
use Rattle.clip_term.proofs.PassedLemmas.{Passed, not_false, same_number}
use Rattle.clip_term.proofs.SeenLemmas.{Seen, one_seen, none_seen, first_seen}

-- the frames of these numbers, seen in two ways
abbrev AreSeen : List Info → List ℕ → List Look → List Look → Type 0
AreSeen infos numbers ls ms = Seen infos (map (λ k. in_range infos (from_input 0 k)) numbers) ls ms

-- What a row owes: what it makes inside its picture needs the inputs only inside theirs; its size and its rate are those of a
-- clip; its samples have the bits of the input's, and none is over the largest one.
pub record FieldFacts (row : FieldRow) : Type 0 where
  pub local : (infos : List Info) (n : ℕ) (ls ms : List Look) → Passed (row.refusals (info_at infos 0).shape) → IsSized (info_at infos 0).shape → AreSeen infos (row.numbers n) ls ms
      → Agree (row.shape (info_at infos 0).shape) (row.at (info_at infos 0) n ls) (row.at (info_at infos 0) n ms)
  pub sized : (shape : Shape) → Passed (row.refusals shape) → IsSized shape → IsSized (row.shape shape)
  pub rated : (c : Info) → IsLawful c → IsSome (row.rate c)
  pub bits : (shape : Shape) → shape.bits ≡ (row.shape shape).bits
  pub bounded : (shape : Shape) (c : Info) (n : ℕ) (looks : List Look) → AllBounded shape looks → IsBounded shape (row.at c n looks)

-- ROWS OF A PLANE

whole_of : (shape : Shape) → not (has_fields shape) ≡ false → shape.height % (2 * sub_h shape.kind) ≡ 0
whole_of shape e = same_number (shape.height % (2 * sub_h shape.kind)) 0 (not_false (has_fields shape) e)

line_of_two : (b : Bool) {s : ℕ} → IsRatio s → (y h : ℕ) (c : Bool) → h % (2 * s) ≡ 0 → y < (if b then h / 2 else h / 2 / s) → 2 * y + (if c then 0 else 1) < (if b then h else h / s)
line_of_two b is y h c e i = grind (arith, common_steps)

pub half_line : (b : Bool) {s : ℕ} → IsRatio s → (y h : ℕ) → h % s ≡ 0 → y < (if b then 2 * h else 2 * h / s) → y / 2 < (if b then h else h / s)
half_line b is y h e i = grind (arith, common_steps)

next_line : (b : Bool) {s : ℕ} → IsRatio s → (y h : ℕ) → y % 2 ≡ 0 → h % (2 * s) ≡ 0 → y < (if b then h else h / s) → y + 1 < (if b then h else h / s)
next_line true same y h g e i = omega arith
next_line true _ y h g e i = omega arith
next_line false same y h g e i = omega arith
next_line false _ y h g e i = omega arith

pub other_line : (b : Bool) {s : ℕ} → IsRatio s → (y h : ℕ) (t : Bool) → is_even y ≡ t → h % (2 * s) ≡ 0 → y < (if b then h else h / s) → (if t then y + 1 else y - 1) < (if b then h else h / s)
other_line b is y h t f e i = grind (arith, common_steps)

half_whole : {s : ℕ} → IsRatio s → (h : ℕ) → 0 < h → h % (2 * s) ≡ 0 → (0 < h / 2) × (h / 2 % s ≡ 0)
half_whole same h g e = (omega arith, omega arith)
half_whole _ h g e = (omega arith, omega arith)

twice_whole : {s : ℕ} → IsRatio s → (h : ℕ) → h % s ≡ 0 → 2 * h % s ≡ 0
twice_whole same h e = omega arith
twice_whole _ h e = omega arith

two_same : (infos : List Info) (m k : ℕ) {ls ms : List Look} → AreSeen infos (m ∷ k ∷ []) ls ms → (t : Bool) → Agree (info_at infos 0).shape (look_at ls (if t then 0 else 1)) (look_at ms (if t then 0 else 1))
two_same infos m k (one_seen first (one_seen second none_seen)) true = first.on (info_at infos 0).shape (λ h. refl)
two_same infos m k (one_seen first (one_seen second none_seen)) false = second.on (info_at infos 0).shape (λ h. refl)

-- EACH FILTER

-- the frame as it is, in another order of fields
in_order : {filter : Filter} {order : Field → Field}
    → FieldFacts (record { filter = filter; refusals = λ shape. []; shape = λ shape. shape; length = λ frames. frames; rate = λ c. rate_of c; order = order; numbers = λ n. n ∷ []; at = λ c n looks p x y. look_at looks 0 p x y })
in_order = record {
  local = λ infos n ls ms told fits seen. (first_seen seen).on (info_at infos 0).shape (λ h. refl);
  sized = λ shape told fits. fits;
  rated = λ c lawful. own c lawful;
  bits = λ shape. refl;
  bounded = λ shape c n looks few. bounded_at few 0;
}

pub field_facts : (inner : FieldOp) → FieldFacts (field_row inner)
field_facts op.SeparateFields = record {
  local = λ infos n ls ms told fits seen. record {
    same = λ p x y i.
        let c = info_at infos 0 in
        ((first_seen seen).on c.shape (λ h. refl)).same p x _
        (record { plane = i.plane; across = i.across; down = line_of_two (p == 0) (down_ratio c.shape.kind) y c.shape.height (is_upper c.field n) (whole_of c.shape told.0) i.down });
  };
  sized = λ shape told fits.
      let half = half_whole (down_ratio shape.kind) shape.height fits.some_height (whole_of shape told.0) in
      record { depth = fits.depth; some_width = fits.some_width; some_height = half.0; whole_width = fits.whole_width; whole_height = half.1 };
  rated = λ c lawful. record { num = let h = lawful.rate.some_num in omega arith; den = lawful.rate.some_den };
  bits = λ shape. refl;
  bounded = λ shape c n looks few. record { at = λ p x y. (bounded_at few 0).at p x _ };
}
field_facts op.Weave = record {
  local = λ infos n ls ms told fits seen. record {
    same = λ p x y i.
        let c = info_at infos 0 in
        (two_same infos (2 * n) (2 * n + 1) seen (same_bool (is_even y) (is_top_first c.field))).same p x _
        (record { plane = i.plane; across = i.across; down = half_line (p == 0) (down_ratio c.shape.kind) y c.shape.height fits.whole_height i.down });
  };
  sized = λ shape told fits. record {
    depth = fits.depth;
    some_width = fits.some_width;
    some_height = (let h = fits.some_height in omega arith);
    whole_width = fits.whole_width;
    whole_height = twice_whole (down_ratio shape.kind) shape.height fits.whole_height;
  };
  rated = λ c lawful. halved c lawful;
  bits = λ shape. refl;
  bounded = λ shape c n looks few. record { at = λ p x y. (bounded_at few (woven_from c.field y)).at p x _ };
}
field_facts op.SwapFields = record {
  local = λ infos n ls ms told fits seen. record {
    same = λ p x y i.
        let c = info_at infos 0 in
        ((first_seen seen).on c.shape (λ h. refl)).same p x (other_row y)
        (record { plane = i.plane; across = i.across; down = other_line (p == 0) (down_ratio c.shape.kind) y c.shape.height (is_even y) refl (whole_of c.shape told.0) i.down });
  };
  sized = λ shape told fits. fits;
  rated = λ c lawful. own c lawful;
  bits = λ shape. refl;
  bounded = λ shape c n looks few. record { at = λ p x y. (bounded_at few 0).at p x _ };
}
field_facts op.AssumeTFF = in_order
field_facts op.AssumeBFF = in_order
field_facts op.ComplementParity = in_order
