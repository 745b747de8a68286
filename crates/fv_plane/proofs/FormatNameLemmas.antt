-- The formats by their names, computed.
use Rattle.std.proofs.Common.{◌≡◌, ℕ, Some, refl, sym, subst, Bool, true, false, if◌then◌else◌, List, [], ◌∷◌, inl, inr}
use Rattle.fv_plane.specs.declared.format.PixelType.{PixelType}
use Rattle.fv_plane.specs.declared.format.PixelType.TheVariants.{Y8, YV12, YV16, YV24, YV411}
use Rattle.fv_plane.specs.Format.{has_depth, FormatsAreNamed, format_named, name_of, has_name, all_formats}
use Rattle.fv_plane.specs.declared.format_names.Format.{Format}
use Rattle.std.specs.List.{find, list_all}
use Rattle.std.specs.Prelude.{IfSome, Option}
use Rattle.std.proofs.lemmas.Bool.{and_parts}
use Rattle.fv_plane.proofs.PictureLemmas.{five_depths}

abbrev Found : PixelType → ℕ → Type 0
Found kind bits = format_named (name_of (record { kind = kind; bits = bits })) ≡ Some (record { kind = kind; bits = bits })

of_8_bits : (kind : PixelType) → Found kind 8
of_8_bits Y8 = refl
of_8_bits YV12 = refl
of_8_bits YV16 = refl
of_8_bits YV24 = refl
of_8_bits YV411 = refl

of_10_bits : (kind : PixelType) → has_depth kind 10 ≡ true → Found kind 10
of_10_bits Y8 is = refl
of_10_bits YV12 is = refl
of_10_bits YV16 is = refl
of_10_bits YV24 is = refl
of_10_bits YV411 is = cc

of_12_bits : (kind : PixelType) → has_depth kind 12 ≡ true → Found kind 12
of_12_bits Y8 is = refl
of_12_bits YV12 is = refl
of_12_bits YV16 is = refl
of_12_bits YV24 is = refl
of_12_bits YV411 is = cc

of_14_bits : (kind : PixelType) → has_depth kind 14 ≡ true → Found kind 14
of_14_bits Y8 is = refl
of_14_bits YV12 is = refl
of_14_bits YV16 is = refl
of_14_bits YV24 is = refl
of_14_bits YV411 is = cc

of_16_bits : (kind : PixelType) → has_depth kind 16 ≡ true → Found kind 16
of_16_bits Y8 is = refl
of_16_bits YV12 is = refl
of_16_bits YV16 is = refl
of_16_bits YV24 is = refl
of_16_bits YV411 is = cc

pub formats_are_named : FormatsAreNamed
formats_are_named format is =
    let kind = format.kind in
    elim (five_depths kind format.bits is) [
      | inl e ↦ subst (λ n. Found kind n) (sym e) (of_8_bits kind)
      | inr (inl e) ↦ subst (λ n. Found kind n) (sym e) (of_10_bits kind (subst (λ n. has_depth kind n ≡ true) e is))
      | inr (inr (inl e)) ↦ subst (λ n. Found kind n) (sym e) (of_12_bits kind (subst (λ n. has_depth kind n ≡ true) e is))
      | inr (inr (inr (inl e))) ↦ subst (λ n. Found kind n) (sym e) (of_14_bits kind (subst (λ n. has_depth kind n ≡ true) e is))
      | inr (inr (inr (inr e))) ↦ subst (λ n. Found kind n) (sym e) (of_16_bits kind (subst (λ n. has_depth kind n ≡ true) e is))
    ]

picked : (b : Bool) (x : Format) (rest : Option Format) → has_depth x.kind x.bits ≡ true → IfSome rest (λ (f : Format). has_depth f.kind f.bits ≡ true)
    → IfSome (if b then Some x else rest) (λ (f : Format). has_depth f.kind f.bits ≡ true)
picked true x rest is later = is
picked false x rest is later = later

found_legal : (p : Format → Bool) (xs : List Format) → list_all (λ (f : Format). has_depth f.kind f.bits) xs ≡ true → IfSome (find p xs) (λ (f : Format). has_depth f.kind f.bits ≡ true)
found_legal p [] all = tt
found_legal p (x ∷ xs) all =
    let two = and_parts (has_depth x.kind x.bits) (list_all (λ (f : Format). has_depth f.kind f.bits) xs) all in
    picked (p x) x (find p xs) two.0 (found_legal p xs two.1)

-- a format that is named has the bits of its kind
pub named_legal : (text : List ℕ) → IfSome (format_named text) (λ (f : Format). has_depth f.kind f.bits ≡ true)
named_legal text = found_legal (has_name text) all_formats refl
