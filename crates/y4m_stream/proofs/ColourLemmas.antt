-- The names of formats, computed.
use Rattle.std.proofs.Common.{◌≡◌, ◌⊎◌, ℕ, ◌≤◌, List, [], ◌∷◌, length, Some, Bool, true, false, if◌then◌else◌, not, ◌&&◌, refl, sym, subst, ◌∙◌, ap, arith, inl, inr}
use Rattle.std.specs.Prelude.{IfSome, Option, find}
use Rattle.std.specs.List.{list_all}
use Rattle.std.proofs.lemmas.Bool.{and_parts}
use Rattle.fv_plane.specs.declared.format.PixelType.{PixelType}
use Rattle.fv_plane.specs.declared.format.PixelType.TheVariants.{Y8, YV12, YV16, YV24, YV411}
use Rattle.fv_plane.specs.declared.format.Tag.{Tag}
use Rattle.fv_plane.specs.declared.format.Tag.TheVariants.{Jpeg, Mpeg2, Paldv, Plain}
use Rattle.fv_plane.specs.declared.format_names.Format.{Format}
use Rattle.fv_plane.specs.Format.{has_depth}
use Rattle.fv_plane.proofs.PictureLemmas.{five_depths}
use Rattle.y4m_stream.specs.Head.{Colourspace, colourspace_name, colourspace_named, colourspaces, has_name}
use Rattle.y4m_stream.specs.Stream.{is_space, is_newline}

-- neither a space nor a newline
abbrev pub stays : ℕ → Bool
stays byte = not (is_space byte) && not (is_newline byte)

abbrev pub IsWord : List ℕ → Type 0
IsWord word = list_all stays word ≡ true

-- what holds of a format with each number of bits holds of each format
by_depth : (P : PixelType → ℕ → Type 0) → ((k : PixelType) → P k 8) → ((k : PixelType) → has_depth k 10 ≡ true → P k 10) → ((k : PixelType) → has_depth k 12 ≡ true → P k 12)
    → ((k : PixelType) → has_depth k 14 ≡ true → P k 14) → ((k : PixelType) → has_depth k 16 ≡ true → P k 16) → (k : PixelType) (bits : ℕ) → has_depth k bits ≡ true → P k bits
by_depth P of_8 of_10 of_12 of_14 of_16 k bits is = elim (five_depths k bits is) [
  | inl e ↦ subst (λ n. P k n) (sym e) (of_8 k)
  | inr (inl e) ↦ subst (λ n. P k n) (sym e) (of_10 k (subst (λ n. has_depth k n ≡ true) e is))
  | inr (inr (inl e)) ↦ subst (λ n. P k n) (sym e) (of_12 k (subst (λ n. has_depth k n ≡ true) e is))
  | inr (inr (inr (inl e))) ↦ subst (λ n. P k n) (sym e) (of_14 k (subst (λ n. has_depth k n ≡ true) e is))
  | inr (inr (inr (inr e))) ↦ subst (λ n. P k n) (sym e) (of_16 k (subst (λ n. has_depth k n ≡ true) e is))
]

-- HOW LONG THEY ARE

abbrev IsShort : Tag → PixelType → ℕ → Type 0
IsShort tag kind bits = length (colourspace_name (record { kind = kind; bits = bits }) tag) ≤ 8

short_tag : (tag : Tag) → IsShort tag YV12 8
short_tag Jpeg = omega arith
short_tag Mpeg2 = omega arith
short_tag Paldv = omega arith
short_tag Plain = omega arith

short_8 : (tag : Tag) (kind : PixelType) → IsShort tag kind 8
short_8 tag Y8 = omega arith
short_8 tag YV12 = short_tag tag
short_8 tag YV16 = omega arith
short_8 tag YV24 = omega arith
short_8 tag YV411 = omega arith

short_10 : (tag : Tag) (kind : PixelType) → IsShort tag kind 10
short_10 tag Y8 = omega arith
short_10 tag YV12 = omega arith
short_10 tag YV16 = omega arith
short_10 tag YV24 = omega arith
short_10 tag YV411 = omega arith

short_12 : (tag : Tag) (kind : PixelType) → IsShort tag kind 12
short_12 tag Y8 = omega arith
short_12 tag YV12 = omega arith
short_12 tag YV16 = omega arith
short_12 tag YV24 = omega arith
short_12 tag YV411 = omega arith

short_14 : (tag : Tag) (kind : PixelType) → IsShort tag kind 14
short_14 tag Y8 = omega arith
short_14 tag YV12 = omega arith
short_14 tag YV16 = omega arith
short_14 tag YV24 = omega arith
short_14 tag YV411 = omega arith

short_16 : (tag : Tag) (kind : PixelType) → IsShort tag kind 16
short_16 tag Y8 = omega arith
short_16 tag YV12 = omega arith
short_16 tag YV16 = omega arith
short_16 tag YV24 = omega arith
short_16 tag YV411 = omega arith

pub short_colour : (format : Format) (tag : Tag) → has_depth format.kind format.bits ≡ true → length (colourspace_name format tag) ≤ 8
short_colour format tag is =
    by_depth (IsShort tag) (short_8 tag) (λ k e. short_10 tag k) (λ k e. short_12 tag k) (λ k e. short_14 tag k) (λ k e. short_16 tag k) format.kind format.bits is

-- WORDS

abbrev IsName : Tag → PixelType → ℕ → Type 0
IsName tag kind bits = IsWord (colourspace_name (record { kind = kind; bits = bits }) tag)

tag_stays : (tag : Tag) → IsName tag YV12 8
tag_stays Jpeg = refl
tag_stays Mpeg2 = refl
tag_stays Paldv = refl
tag_stays Plain = refl

stays_8 : (tag : Tag) (kind : PixelType) → IsName tag kind 8
stays_8 tag Y8 = refl
stays_8 tag YV12 = tag_stays tag
stays_8 tag YV16 = refl
stays_8 tag YV24 = refl
stays_8 tag YV411 = refl

stays_10 : (tag : Tag) (kind : PixelType) → IsName tag kind 10
stays_10 tag Y8 = refl
stays_10 tag YV12 = refl
stays_10 tag YV16 = refl
stays_10 tag YV24 = refl
stays_10 tag YV411 = refl

stays_12 : (tag : Tag) (kind : PixelType) → IsName tag kind 12
stays_12 tag Y8 = refl
stays_12 tag YV12 = refl
stays_12 tag YV16 = refl
stays_12 tag YV24 = refl
stays_12 tag YV411 = refl

stays_14 : (tag : Tag) (kind : PixelType) → IsName tag kind 14
stays_14 tag Y8 = refl
stays_14 tag YV12 = refl
stays_14 tag YV16 = refl
stays_14 tag YV24 = refl
stays_14 tag YV411 = refl

stays_16 : (tag : Tag) (kind : PixelType) → IsName tag kind 16
stays_16 tag Y8 = refl
stays_16 tag YV12 = refl
stays_16 tag YV16 = refl
stays_16 tag YV24 = refl
stays_16 tag YV411 = refl

-- no name of a format has a space or a newline
pub colour_stays : (format : Format) (tag : Tag) → has_depth format.kind format.bits ≡ true → IsWord (colourspace_name format tag)
colour_stays format tag is =
    by_depth (IsName tag) (stays_8 tag) (λ k e. stays_10 tag k) (λ k e. stays_12 tag k) (λ k e. stays_14 tag k) (λ k e. stays_16 tag k) format.kind format.bits is

-- WHAT THEY NAME

-- the tag is one that the format's name has or needs not
abbrev pub OwnName : PixelType → ℕ → Tag → Type 0
OwnName kind bits tag = (tag ≡ Jpeg) ⊎ ((kind ≡ YV12) × (bits ≡ 8))

abbrev Reads : Tag → PixelType → ℕ → Type 0
Reads tag kind bits = OwnName kind bits tag → colourspace_named (colourspace_name (record { kind = kind; bits = bits }) tag) ≡ Some (record { kind = kind; bits = bits }, tag)

-- a format whose name has no tag
named : (kind : PixelType) (bits : ℕ) (tag : Tag) → colourspace_named (colourspace_name (record { kind = kind; bits = bits }) tag) ≡ Some (record { kind = kind; bits = bits }, Jpeg)
    → ((kind ≡ YV12) × (bits ≡ 8) → ⊥) → Reads tag kind bits
named kind bits tag is other (inl jpeg) = is ∙ ap (λ (t : Tag). Some (record { kind = kind; bits = bits }, t)) (sym jpeg)
named kind bits tag is other (inr yv12) = absurd (other yv12)

tag_reads : (tag : Tag) → Reads tag YV12 8
tag_reads Jpeg own = refl
tag_reads Mpeg2 own = refl
tag_reads Paldv own = refl
tag_reads Plain own = refl

reads_8 : (tag : Tag) (kind : PixelType) → Reads tag kind 8
reads_8 tag Y8 = named Y8 8 tag refl (λ is. let e : Y8 ≡ YV12 = is.0 in let no : ⊥ = cc in no)
reads_8 tag YV12 = tag_reads tag
reads_8 tag YV16 = named YV16 8 tag refl (λ is. let e : YV16 ≡ YV12 = is.0 in let no : ⊥ = cc in no)
reads_8 tag YV24 = named YV24 8 tag refl (λ is. let e : YV24 ≡ YV12 = is.0 in let no : ⊥ = cc in no)
reads_8 tag YV411 = named YV411 8 tag refl (λ is. let e : YV411 ≡ YV12 = is.0 in let no : ⊥ = cc in no)

reads_10 : (tag : Tag) (kind : PixelType) → has_depth kind 10 ≡ true → Reads tag kind 10
reads_10 tag Y8 is = named Y8 10 tag refl (λ both. let e : Y8 ≡ YV12 = both.0 in let no : ⊥ = cc in no)
reads_10 tag YV12 is = named YV12 10 tag refl (λ both. let no : ⊥ = omega (arith, both.1) in no)
reads_10 tag YV16 is = named YV16 10 tag refl (λ both. let e : YV16 ≡ YV12 = both.0 in let no : ⊥ = cc in no)
reads_10 tag YV24 is = named YV24 10 tag refl (λ both. let e : YV24 ≡ YV12 = both.0 in let no : ⊥ = cc in no)
reads_10 tag YV411 is = (let no : ⊥ = cc in absurd no)

reads_12 : (tag : Tag) (kind : PixelType) → has_depth kind 12 ≡ true → Reads tag kind 12
reads_12 tag Y8 is = named Y8 12 tag refl (λ both. let e : Y8 ≡ YV12 = both.0 in let no : ⊥ = cc in no)
reads_12 tag YV12 is = named YV12 12 tag refl (λ both. let no : ⊥ = omega (arith, both.1) in no)
reads_12 tag YV16 is = named YV16 12 tag refl (λ both. let e : YV16 ≡ YV12 = both.0 in let no : ⊥ = cc in no)
reads_12 tag YV24 is = named YV24 12 tag refl (λ both. let e : YV24 ≡ YV12 = both.0 in let no : ⊥ = cc in no)
reads_12 tag YV411 is = (let no : ⊥ = cc in absurd no)

reads_14 : (tag : Tag) (kind : PixelType) → has_depth kind 14 ≡ true → Reads tag kind 14
reads_14 tag Y8 is = named Y8 14 tag refl (λ both. let e : Y8 ≡ YV12 = both.0 in let no : ⊥ = cc in no)
reads_14 tag YV12 is = named YV12 14 tag refl (λ both. let no : ⊥ = omega (arith, both.1) in no)
reads_14 tag YV16 is = named YV16 14 tag refl (λ both. let e : YV16 ≡ YV12 = both.0 in let no : ⊥ = cc in no)
reads_14 tag YV24 is = named YV24 14 tag refl (λ both. let e : YV24 ≡ YV12 = both.0 in let no : ⊥ = cc in no)
reads_14 tag YV411 is = (let no : ⊥ = cc in absurd no)

reads_16 : (tag : Tag) (kind : PixelType) → has_depth kind 16 ≡ true → Reads tag kind 16
reads_16 tag Y8 is = named Y8 16 tag refl (λ both. let e : Y8 ≡ YV12 = both.0 in let no : ⊥ = cc in no)
reads_16 tag YV12 is = named YV12 16 tag refl (λ both. let no : ⊥ = omega (arith, both.1) in no)
reads_16 tag YV16 is = named YV16 16 tag refl (λ both. let e : YV16 ≡ YV12 = both.0 in let no : ⊥ = cc in no)
reads_16 tag YV24 is = named YV24 16 tag refl (λ both. let e : YV24 ≡ YV12 = both.0 in let no : ⊥ = cc in no)
reads_16 tag YV411 is = (let no : ⊥ = cc in absurd no)

pub colour_read : (format : Format) (tag : Tag) → has_depth format.kind format.bits ≡ true → OwnName format.kind format.bits tag → colourspace_named (colourspace_name format tag) ≡ Some (format, tag)
colour_read format tag is own = by_depth (Reads tag) (reads_8 tag) (reads_10 tag) (reads_12 tag) (reads_14 tag) (reads_16 tag) format.kind format.bits is own

-- a format that is named has the bits of its kind
abbrev pub HasDepth : Colourspace → Type 0
HasDepth found = has_depth found.0.kind found.0.bits ≡ true

picked : (b : Bool) (x : Colourspace) (rest : Option Colourspace) → HasDepth x → IfSome rest HasDepth → IfSome (if b then Some x else rest) HasDepth
picked true x rest is later = is
picked false x rest is later = later

found_legal : (p : Colourspace → Bool) (xs : List Colourspace) → list_all (λ (x : Colourspace). has_depth x.0.kind x.0.bits) xs ≡ true → IfSome (find p xs) HasDepth
found_legal p [] all = tt
found_legal p (x ∷ xs) all =
    let two = and_parts (has_depth x.0.kind x.0.bits) (list_all (λ (o : Colourspace). has_depth o.0.kind o.0.bits) xs) all in
    picked (p x) x (find p xs) two.0 (found_legal p xs two.1)

pub named_legal : (name : List ℕ) → IfSome (colourspace_named name) HasDepth
named_legal name = found_legal (has_name name) colourspaces refl
