-- The names of formats are short.
use Rattle.std.proofs.Common.{◌≡◌, ℕ, ◌≤◌, ◌==◌, Bool, true, false, refl, List, length, codes, if◌then◌else◌, arith}
use Rattle.std.proofs.lemmas.List.{length-append}
use Rattle.fv_plane.specs.declared.format.Shape.{Shape}
use Rattle.fv_plane.specs.declared.format.PixelType.{PixelType}
use Rattle.fv_plane.specs.declared.format.PixelType.TheVariants.{Y8, YV12, YV16, YV24, YV411}
use Rattle.fv_plane.specs.Format.{deep_name, digits_of, format_name, kind_name}

-- what holds of the length of both holds of that of either
either : (P : ℕ → Type 0) (b : Bool) (one other : List ℕ) → P (length one) → P (length other) → P (length (if b then one else other))
either P true one other is_one is_other = is_one
either P false one other is_one is_other = is_other

two_digits : (bits : ℕ) → length (digits_of bits) ≡ 2
two_digits bits =
    either (λ n. n ≡ 2) (bits == 10) (codes "10") _ refl
    (either (λ n. n ≡ 2) (bits == 12) (codes "12") _ refl (either (λ n. n ≡ 2) (bits == 14) (codes "14") (codes "16") refl refl))

short_kind : (kind : PixelType) → length (kind_name kind) ≤ 9
short_kind Y8 = omega arith
short_kind YV12 = omega arith
short_kind YV16 = omega arith
short_kind YV24 = omega arith
short_kind YV411 = omega arith

-- at most seven letters and two digits
short_deep : (kind : PixelType) (bits : ℕ) → length (deep_name kind bits) ≤ 9
short_deep Y8 bits = omega (arith, length-append (codes "Y") (digits_of bits), two_digits bits)
short_deep YV12 bits = omega (arith, length-append (codes "YUV420P") (digits_of bits), two_digits bits)
short_deep YV16 bits = omega (arith, length-append (codes "YUV422P") (digits_of bits), two_digits bits)
short_deep YV24 bits = omega (arith, length-append (codes "YUV444P") (digits_of bits), two_digits bits)
short_deep YV411 bits = omega arith

pub short_name : (shape : Shape) → length (format_name shape) ≤ 9
short_name shape = either (λ n. n ≤ 9) (shape.bits == 8) (kind_name shape.kind) (deep_name shape.kind shape.bits) (short_kind shape.kind) (short_deep shape.kind shape.bits)
