-- Samples that are read and brought into range piece by piece.
use Rattle.std.proofs.Common.{◌≡◌, ℕ, ◌+◌, ◌-◌, ◌*◌, ◌%◌, ◌≤◌, Bool, true, false, if◌then◌else◌, ◌==◌, List, [], ◌++◌, length, get_or, map, take, drop, Some, refl, sym, ◌∙◌, ap, arith, inl, inr, length-take-le, length-append, length-drop}
use Rattle.std.specs.Prelude.{min}
use Rattle.std.proofs.Math.Seq.{take-add}
use Rattle.std.proofs.lemmas.Bool.{cases_lt}
use Rattle.std.proofs.lemmas.List.{append_assoc, drop-drop, get_or_append_left, get_or-append_right, take_all, take_at}
use Rattle.fv_io.specs.declared.source.Source.{Ghosts}
use Rattle.fv_io.specs.Source.{KeepsSource, IsSteady}
use Rattle.fv_plane.specs.declared.format.Shape.{Shape}
use Rattle.fv_plane.specs.Picture.{in_range, row_of_bytes, wide_bytes, wide_samples, FitsRow}
use Rattle.fv_plane.specs.Format.{frame_bytes, frame_samples, largest_sample, sample_bytes}
use Rattle.fv_plane.proofs.BytesLemmas.{in_range-append, in_range-fits, length-in_range, whole_samples}
use Rattle.seq_source.specs.FrameSource.{IsAt}
use Rattle.seq_source.proofs.KeepingLemmas.{keeps_both}
use borrow.Rule.Slice.PartMut.{put_mid}

-- the first bytes of a frame's samples are those of the source in range
pub record HasRead {S : Type 0} (source : Ghosts S) (old : S) (shape : Shape) (start at : ℕ) (bytes : List ℕ) : Type 0 where
  pub raw : List ℕ
  pub long : length raw ≡ at
  pub few : (k : ℕ) → get_or raw k 0 ≤ 255
  pub made : take at bytes ≡ in_range shape raw
  pub told : (told : List ℕ) → source.bytes old ≡ Some told → raw ≡ take at (drop start told)

-- where the reading of a frame's samples stands
pub record ReadsOn {S : Type 0} (source : Ghosts S) (old now : S) (shape : Shape) (start at : ℕ) (bytes : List ℕ) : Type 0 where
  pub long : length bytes ≡ frame_bytes shape
  pub inside : at ≤ length bytes
  pub whole : at % sample_bytes shape ≡ 0
  pub is_at : IsAt source now (start + at)
  pub keeps : KeepsSource source old now
  pub steady : IsSteady source old now
  pub has : HasRead source old shape start at bytes

no_samples_by : (b : Bool) (f : ℕ → ℕ) → (if b then [] else wide_bytes (map f (wide_samples []))) ≡ []
unfolding wide_bytes wide_samples
no_samples_by true f = refl
no_samples_by false f = refl

in_range-nil : (shape : Shape) → in_range shape [] ≡ []
unfolding in_range
in_range-nil shape = no_samples_by (shape.bits == 8) (λ s. min s (largest_sample shape))

-- none of them yet
pub has_none : {S : Type 0} (source : Ghosts S) (old : S) (shape : Shape) (start : ℕ) (bytes : List ℕ) → in_range shape [] ≡ [] → HasRead source old shape start 0 bytes
has_none source old shape start bytes none = record { raw = []; long = refl; few = λ k. omega arith; made = sym none; told = λ told is. refl }

none_by : (b : Bool) (n at size : ℕ) → n % (if b then 1 else 2) ≡ 0 → at % (if b then 1 else 2) ≡ 0 → size ≡ min 262144 (n - at) → (size % (if b then 1 else 2) ≡ 0) × ((at + size) % (if b then 1 else 2) ≡ 0)
none_by true n at size all before is = (omega arith, omega arith)
none_by false n at size all before is = (omega arith, omega arith)

-- a piece has whole samples, where the frame has and what is before it
pub whole_piece : (shape : Shape) (n at size : ℕ) → n % sample_bytes shape ≡ 0 → at % sample_bytes shape ≡ 0 → size ≡ min 262144 (n - at) → (size % sample_bytes shape ≡ 0) × ((at + size) % sample_bytes shape ≡ 0)
whole_piece shape n at size all before is = none_by (shape.bits == 8) n at size all before is

frame_by : (b : Bool) (n : ℕ) → (n * (if b then 1 else 2)) % (if b then 1 else 2) ≡ 0
frame_by true n = omega arith
frame_by false n = omega arith

-- a frame has whole samples
pub whole_frame : (shape : Shape) → frame_bytes shape % sample_bytes shape ≡ 0
whole_frame shape = frame_by (shape.bits == 8) (frame_samples shape)

-- one piece more
pub has_more : {S : Type 0} (source : Ghosts S) (old : S) (shape : Shape) (start at size n : ℕ) (bytes piece : List ℕ) → HasRead source old shape start at bytes
    → at % sample_bytes shape ≡ 0 → size % sample_bytes shape ≡ 0 → at + size ≤ length bytes → n ≡ size → length piece ≡ size → ((k : ℕ) → get_or piece k 0 ≤ 255)
    → ((told : List ℕ) → source.bytes old ≡ Some told → piece ≡ take size (drop (start + at) told))
    → HasRead source old shape start (at + size) (put_mid at n bytes (in_range shape piece))
has_more source old shape start at size n bytes piece has before whole inside is long few same =
    let made : List ℕ = in_range shape piece in
    let rest : List ℕ = drop n (drop at bytes) in
    let front : List ℕ = take at bytes in
    let first : length front ≡ at = length-take-le at bytes (omega arith) in
    let next : length made ≡ size = length-in_range shape _ piece (whole_samples shape piece (ap (λ k. k % sample_bytes shape) long ∙ whole)) ∙ long in
    let both : length (front ++ made) ≡ at + size = omega (arith, length-append front made) in
    record {
      raw = has.raw ++ piece;
      long = omega (arith, length-append has.raw piece, has.long);
      few = λ k. elim (cases_lt k (length has.raw)) [
        | inl there ↦ rw (get_or_append_left has.raw piece 0 k there) (has.few k)
        | inr past ↦ rw (get_or-append_right has.raw piece (length has.raw) k 0 refl past) (few (k - length has.raw))
      ];
      made = ap (λ (l : List ℕ). take (at + size) l) (sym (append_assoc front made rest)) ∙ take_at (front ++ made) rest (at + size) both
          ∙ ap (λ (l : List ℕ). l ++ made) has.made
          ∙ sym (in_range-append shape _ has.raw piece (whole_samples shape has.raw (ap (λ k. k % sample_bytes shape) has.long ∙ before)));
      told = λ told tells.
          ap (λ (l : List ℕ). l ++ piece) (has.told told tells) ∙ ap (λ (l : List ℕ). take at (drop start told) ++ l) (same told tells)
          ∙ ap (λ (l : List ℕ). take at (drop start told) ++ take size l) (sym (drop-drop at start told)) ∙ sym (take-add at size (drop start told));
    }

-- all of them
pub all_fit : {S : Type 0} (source : Ghosts S) (old : S) (shape : Shape) (start at : ℕ) (bytes : List ℕ) → HasRead source old shape start at bytes → length bytes ≤ at → FitsRow shape (row_of_bytes shape bytes)
all_fit source old shape start at bytes has all = rw (sym (take_all at bytes all) ∙ has.made) (in_range-fits shape has.raw has.few)

pub all_told : {S : Type 0} (source : Ghosts S) (old : S) (shape : Shape) (start at : ℕ) (bytes : List ℕ) → HasRead source old shape start at bytes → length bytes ≤ at
    → (told : List ℕ) → source.bytes old ≡ Some told → bytes ≡ in_range shape (take at (drop start told))
all_told source old shape start at bytes has all told tells = sym (take_all at bytes all) ∙ has.made ∙ ap (in_range shape) (has.told told tells)

-- THE LOOP

nothing_by : (b : Bool) → 0 % (if b then 1 else 2) ≡ 0
nothing_by true = refl
nothing_by false = refl

module _ {S : Type 0} (source : Ghosts S) where
  pub begins : (old : S) (shape : Shape) (start : ℕ) (bytes : List ℕ) → length bytes ≡ frame_bytes shape → IsAt source old start → ReadsOn source old old shape start 0 bytes
  begins old shape start bytes long is_at = record {
    long = long;
    inside = omega arith;
    whole = nothing_by (shape.bits == 8);
    is_at = (let here : start + 0 ≡ start = omega arith in rw here is_at);
    keeps = record { told = refl; rewinds = refl; later = omega arith };
    steady = refl;
    has = has_none source old shape start bytes (in_range-nil shape);
  }

  pub goes_on : (old mid new : S) (shape : Shape) (start at size n len : ℕ) (bytes piece made : List ℕ) → ReadsOn source old mid shape start at bytes
      → size ≡ min 262144 (length bytes - at) → n ≡ size → len ≡ size → length piece ≡ len → ((k : ℕ) → get_or piece k 0 ≤ 255) → made ≡ in_range shape piece
      → IsAt source new (start + at + len) → KeepsSource source mid new → IsSteady source mid new
      → ((told : List ℕ) → source.bytes mid ≡ Some told → piece ≡ take len (drop (start + at) told))
      → ReadsOn source old new shape start (at + size) (put_mid at n bytes made)
  goes_on old mid new shape start at size n len bytes piece made reads is whole_size part long few put is_at keeps steady told =
      let all : frame_bytes shape % sample_bytes shape ≡ 0 = whole_frame shape in
      let parts = whole_piece shape (length bytes) at size (ap (λ k. k % sample_bytes shape) reads.long ∙ all) reads.whole is in
      let inside : at + size ≤ length bytes = omega (arith, is, reads.inside) in
      let size_is : length piece ≡ size = long ∙ part in
      let next : length made ≡ size = ap length put ∙ length-in_range shape _ piece (whole_samples shape piece (ap (λ k. k % sample_bytes shape) size_is ∙ parts.0)) ∙ size_is in
      let kept : length (put_mid at n bytes made) ≡ length bytes
      = omega (arith, length-append (take at bytes) (made ++ drop n (drop at bytes)), length-append made (drop n (drop at bytes)), length-take-le at bytes (omega (arith, inside)), length-drop n (drop at bytes), length-drop at bytes) in
      let first = reads.keeps in
      record {
        long = kept ∙ reads.long;
        inside = omega (arith, kept, inside);
        whole = parts.1;
        is_at = (let place : start + at + len ≡ start + (at + size) = omega (arith, part) in rw (← place) is_at);
        keeps = keeps_both source old mid new first keeps;
        steady = steady ∙ reads.steady;
        has = rw put (has_more source old shape start at size n bytes piece reads.has reads.whole parts.0 inside whole_size size_is few
            (λ bytes_told tells. told bytes_told (first.told ∙ tells) ∙ ap (λ k. take k (drop (start + at) bytes_told)) part));
      }
