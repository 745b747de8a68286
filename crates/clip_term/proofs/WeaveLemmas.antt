-- Fields that are separated and woven again are the clip.
use Rattle.std.proofs.Common.{◌≡◌, ℕ, zero, suc, ◌+◌, ◌-◌, ◌*◌, ◌/◌, ◌%◌, ◌<◌, [], ◌∷◌, Bool, inl, inr, Result, Ok, sym, ap, ◌∙◌, arith, subst}
use Rattle.std.specs.Prelude.{if◌then◌else◌, min}
use Rattle.std.specs.Int.{◌∣◌, IsGcd}
use Rattle.std.proofs.lemmas.Nat.Gcd.{IsGcd-from_zero, IsGcd-from_mod, dvd_trans}
use Rattle.std.proofs.Math.Nat.{mul-div_cancel', mul-div-mul_left, dvd-mul_right, mul-dvd-mul_left, dvd_of_mul-dvd-mul_left, div-one}
use Rattle.std.proofs.lemmas.Bool.{cases_lt}
use Rattle.std.proofs.lemmas.Grind.{common_steps}
use Rattle.fv_plane.specs.declared.format.Info.{Info}
use Rattle.fv_plane.specs.declared.format.Shape.{Shape}
use Rattle.fv_plane.specs.Info.{IsLawful, Rate, lowest}
use Rattle.fv_plane.specs.Picture.{Look}
use Rattle.fv_plane.specs.Refusals.{first_fault}
use Rattle.fv_plane.proofs.GcdLemmas.{gcd_found}
use Rattle.clip_term.specs.Refusals.{limits, limit_refusals, unless}
use Rattle.clip_term.proofs.LimitLemmas.{lawful_passes}
use Rattle.clip_term.proofs.PartLemmas.{IsRatio, same, down_ratio}
use Rattle.clip_term.proofs.PassedLemmas.{Passed, limits_told, product, passed, not_false, same_number}
use Rattle.clip_term.specs.declared.field.FieldOp.TheVariants as op
use Rattle.clip_term.specs.Time.{is_even, same_bool, field_refusals, field_rate, field_shape, check_field, field_frames, WeavesAgain}

-- RATES: doubled and halved again

record Divisor (a b : ℕ) : Type 0 where
  pub value : ℕ
  pub is : IsGcd a b value

divisor_by : (steps a b : ℕ) → b < steps → Divisor a b
divisor_by zero a b h = absurd (omega arith)
divisor_by (suc steps) a b h = elim (cases_lt 0 b) [
  | inl more ↦ (let rest = divisor_by steps b (a % b) (omega arith) in record { value = rest.value; is = IsGcd-from_mod a b rest.value rest.is })
  | inr none ↦ record { value = a; is = IsGcd-from_zero a b (omega arith) }
]

-- multiples have the multiple of the greatest common divisor
scaled_is : (k a b g : ℕ) → 0 < k → IsGcd a b g → IsGcd (k * a) (k * b) (k * g)
scaled_is k a b g some is =
    let d = divisor_by (k * b + 1) (k * a) (k * b) (omega arith) in
    let m : ℕ = d.value / k in
    let part : k * m ≡ d.value = mul-div_cancel' k (d.is.2 k (dvd-mul_right k a) (dvd-mul_right k b)) in
    let first : m ∣ a = dvd_of_mul-dvd-mul_left m some (rw (← part) at d.is.0) in
    let second : m ∣ b = dvd_of_mul-dvd-mul_left m some (rw (← part) at d.is.1) in
    let whole : d.value ∣ k * g = subst (λ (n : ℕ). n ∣ k * g) part (mul-dvd-mul_left m k (is.2 m first second)) in
    (mul-dvd-mul_left g k is.0, mul-dvd-mul_left g k is.1, λ f one other. dvd_trans f (d.is.2 f one other) whole)

some_factors : (g x n : ℕ) → g * x ≡ n → 0 < n → (0 < g) × (0 < x)
some_factors g x n e h = grind (arith, common_steps)

abbrev rate : ℕ → ℕ → Rate
rate num den = record { num = num; den = den }

rate_pair : (a b c d : ℕ) → a ≡ c → b ≡ d → rate a b ≡ rate c d
rate_pair a b c d e f = ap (λ n. rate n b) e ∙ ap (λ n. rate c n) f

lowest_by : (a b g : ℕ) → 0 < a → 0 < b → IsGcd a b g → lowest (rate a b) ≡ rate (a / g) (b / g)
lowest_by a b g some more is = ap (λ n. rate (a / n) (b / n)) (gcd_found a b g is some more)

lowest_scaled : (k a b : ℕ) → 0 < k → 0 < a → 0 < b → lowest (rate (k * a) (k * b)) ≡ lowest (rate a b)
lowest_scaled k a b h some more =
    let d = divisor_by (b + 1) a b (omega arith) in
    lowest_by (k * a) (k * b) (k * d.value) (product k a h some) (product k b h more) (scaled_is k a b d.value h d.is)
    ∙ rate_pair (k * a / (k * d.value)) (k * b / (k * d.value)) (a / d.value) (b / d.value) (mul-div-mul_left a d.value h) (mul-div-mul_left b d.value h)
    ∙ sym (lowest_by a b d.value some more d.is)

-- of a rate in lowest terms that is doubled, brought into lowest terms, and halved
abbrev halved_again : ℕ → ℕ → Rate
halved_again a b = let twice = lowest (rate (a * 2) b) in rate twice.num (twice.den * 2)

rate_again : (a b : ℕ) → 0 < a → 0 < b → IsGcd a b 1 → lowest (halved_again a b) ≡ rate a b
rate_again a b some more is =
    let d = divisor_by (b + 1) (a * 2) b (omega arith) in
    let g : ℕ = d.value in
    let x : ℕ = a * 2 / g in
    let y : ℕ = b / g in
    let num : g * x ≡ a * 2 = mul-div_cancel' g d.is.0 in
    let den : g * y ≡ b = mul-div_cancel' g d.is.1 in
    let of_num = some_factors g x (a * 2) num (omega arith) in
    let of_den = some_factors g y b den more in
    let twice_den : g * (y * 2) ≡ 2 * b = (let e : g * (y * 2) ≡ 2 * (g * y) = grind arith in e ∙ ap (λ n. 2 * n) den) in
    ap (λ (r : Rate). lowest (rate r.num (r.den * 2))) (lowest_by (a * 2) b g (omega arith) more d.is)
    ∙ sym (lowest_scaled g x (y * 2) of_num.0 of_num.1 (let e = of_den.1 in omega arith))
    ∙ ap lowest (rate_pair (g * x) (g * (y * 2)) (2 * a) (2 * b) (omega arith) twice_den)
    ∙ lowest_scaled 2 a b (omega arith) some more
    ∙ lowest_by a b 1 some more is ∙ rate_pair (a / 1) (b / 1) a b (div-one a) (div-one b)

-- INFOS

abbrev limits_by : Info → ℕ → Rate → Shape → Result Info Rattle.clip_term.specs.declared.fault.FilterFault.FilterFault
limits_by c frames made shape = unless (first_fault (limit_refusals frames made shape)) (Ok (record c { frames = frames; num = made.num; den = made.den; shape = shape }))

whole_height : {k : ℕ} → IsRatio k → (h : ℕ) → h % (2 * k) ≡ 0 → 2 * (h / 2) ≡ h
whole_height same h e = omega arith
whole_height _ h e = omega arith

info_again : (c separated : Info) → IsLawful c → Passed (field_refusals op.SeparateFields c.shape)
    → record c { frames = 2 * c.frames; num = (lowest (field_rate op.SeparateFields c)).num; den = (lowest (field_rate op.SeparateFields c)).den; shape = field_shape op.SeparateFields c.shape } ≡ separated
    → check_field op.Weave (separated ∷ []) ≡ Ok c
info_again c separated lawful told is = search (arith, whole_height, down_ratio, same_number, not_false, rate_again, lowest_by, rate_pair, div-one, lawful_passes)

-- SAMPLES

-- the row of the frame that both ways lead to
row_again : (even top : Bool) (y : ℕ) → is_even y ≡ even → 2 * (y / 2) + (if same_bool (same_bool even top) top then 0 else 1) ≡ y
row_again even top y e = grind (arith, common_steps)

two_frames : (first : Bool) (frames : ℕ → Look) (a b p x y : ℕ) → Rattle.fv_plane.specs.Picture.look_at (frames a ∷ frames b ∷ []) (if first then 0 else 1) p x y ≡ frames (if first then a else b) p x y
two_frames first frames a b p x y = grind (arith, common_steps)

half_is : (first : Bool) (n many : ℕ) → n < many → min ((if first then 2 * n else 2 * n + 1) / 2) (many - 1) ≡ n
half_is first n many h = grind (arith, common_steps)

samples_again : (c separated : Info) (frames : ℕ → Look) (n p x y : ℕ) → separated.frames ≡ 2 * c.frames → separated.field ≡ c.field → n < c.frames
    → field_frames op.Weave separated (field_frames op.SeparateFields c frames) n p x y ≡ frames n p x y
samples_again c separated frames n p x y long field h = grind (arith, common_steps)

pub weaves_again : WeavesAgain
weaves_again c separated lawful e =
    let shape = field_shape op.SeparateFields c.shape in
    let told = passed (field_refusals op.SeparateFields c.shape) (limits c (2 * c.frames) (field_rate op.SeparateFields c) shape) separated e in
    let is = limits_told c (2 * c.frames) (field_rate op.SeparateFields c) shape separated told.1 in
    record {
      info = info_again c separated lawful told.0 is;
      samples = λ frames n p x y h. samples_again c separated frames n p x y (ap (λ (s : Info). s.frames) (sym is)) (ap (λ (s : Info). s.field) (sym is)) h;
    }
