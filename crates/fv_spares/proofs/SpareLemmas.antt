-- What keeping and taking does to sizes.
use Rattle.std.proofs.Common.{◌≡◌, ℕ, ◌+◌, ◌-◌, ◌<◌, ◌≤◌, List, [], ◌∷◌, ◌++◌, length, map, take, drop, get_or, Vec, Option, Some, None, sym, ap, subst, arith, append_assoc, append-nil, ◌∙◌}
use Rattle.std.specs.declared.alloc.Global.{Global}
use Rattle.std.proofs.lemmas.List.{get_or_append_left, length-append, drop-append-le, drop-drop, drop-map, map-append, length-drop, length-map, take-append-drop, drop_more}
use Rattle.std.proofs.lemmas.List.Elements.{All-append, All-cons, All-nil}
use Rattle.std.proofs.Math.Seq.{get_or-append_seam}
use Rattle.std.specs.Option.{IfSome}
use Rattle.fv_plane.specs.Format.{plane_bytes}
use Rattle.fv_plane.specs.Picture.{Picture, HoldsPlane}
use Rattle.fv_spares.specs.Spares.{sizes_of, newest, HasKept, HaveBytes, Serves, NoneServes, HandsOut}

abbrev size_of : Vec ℕ Global → ℕ
size_of piece = length piece.items

pub of_some : {X : Type 0} (P : X → Type 0) (found : Option X) (x : X) → found ≡ Some x → IfSome found P → P x
of_some P found x is h = subst (λ it. IfSome it P) is h

-- memory in which a plane lies is no smaller
pub large_of : (picture : Picture) (p : ℕ) (piece : Option (Vec ℕ Global)) → IfSome piece (λ it. HoldsPlane picture it.items p)
    → IfSome piece (λ it. plane_bytes picture.shape p ≤ length it.items)
large_of picture p None held = tt
large_of picture p (Some it) held = held.large

newest_again : (most : ℕ) (xs ys : List ℕ) → newest most (newest most xs ++ ys) ≡ newest most (xs ++ ys)
newest_again most xs ys =
    let n : ℕ = length xs - most in
    let one : drop n xs ++ ys ≡ drop n (xs ++ ys) = sym (drop-append-le n xs ys (omega (arith))) in
    let far : length (drop n xs ++ ys) - most + n ≡ length (xs ++ ys) - most =
    omega (arith, length-append (drop n xs) ys, length-append xs ys, length-drop n xs) in
    rw one (rw drop-drop (ap (λ k. drop k (xs ++ ys)) (omega (arith, far, length-append (drop n xs) ys, ap (λ l. length l) one))))

-- nothing was kept
pub kept_none : (most count bytes : ℕ) (old : List ℕ) → length old ≤ most → HasKept most count bytes old old
kept_none most count bytes old few = record {
  sizes = [];
  few = omega arith;
  large = All-nil (λ size. bytes ≤ size);
  are = rw append-nil (ap (λ k. drop k old) {x = 0} (omega arith));
}

pub kept_more : (most count more bytes : ℕ) (old new : List ℕ) → count ≤ more → HasKept most count bytes old new → HasKept most more bytes old new
kept_more most count more bytes old new le h = record { sizes = h.sizes; few = omega (arith, h.few); large = h.large; are = h.are }

-- of fewer bytes
pub kept_fewer : (most count bytes fewer : ℕ) (old new : List ℕ) → fewer ≤ bytes → HasKept most count bytes old new → HasKept most count fewer old new
kept_fewer most count bytes fewer old new le h = record {
  sizes = h.sizes;
  few = h.few;
  large = λ k d in'. omega (arith, le, h.large k d in');
  are = h.are;
}

-- first some were kept, and then others
pub kept_both : (most a b bytes : ℕ) (old between new : List ℕ) → HasKept most a bytes old between → HasKept most b bytes between new → HasKept most (a + b) bytes old new
kept_both most a b bytes old between new h k = record {
  sizes = h.sizes ++ k.sizes;
  large = All-append (λ size. bytes ≤ size) h.sizes k.sizes h.large k.large;
  few = omega (arith, h.few, k.few, length-append h.sizes k.sizes);
  are = k.are ∙ (ap (λ l. newest most (l ++ k.sizes)) h.are ∙ (newest_again most (old ++ h.sizes) k.sizes ∙ ap (newest most) (append_assoc old h.sizes k.sizes)));
}

-- those before the last of some frames, and the last one
pub all_but_last : (p bytes : ℕ) (frames : List (Option Picture)) (frame : Option Picture) → HaveBytes p bytes (frames ++ frame ∷ [])
    → HaveBytes p bytes frames × IfSome frame (λ picture. bytes ≤ plane_bytes picture.shape p)
all_but_last p bytes frames frame all =
    let Large : Option Picture → Type 0 = λ it. IfSome it (λ picture. bytes ≤ plane_bytes picture.shape p) in
    let one = length-append frames (frame ∷ []) in (
      λ k d in'. subst Large (get_or_append_left frames (frame ∷ []) d k in') (all k d (omega (arith, one, in'))),
      subst Large (get_or-append_seam frames frame [] None) (all (length frames) None (omega (arith, one))),
    )

one_more : (most : ℕ) (old : List (Vec ℕ Global)) (piece : Vec ℕ Global) → length (sizes_of old ++ (size_of piece ∷ [])) ≡ length old + 1
one_more most old piece = omega (arith, length-append (sizes_of old) (size_of piece ∷ []), length-map old size_of)

put_last : (old new : List (Vec ℕ Global)) (piece : Vec ℕ Global) → new ≡ old ++ (piece ∷ []) → sizes_of new ≡ sizes_of old ++ (size_of piece ∷ [])
put_last old new piece is = ap (map size_of) is ∙ map-append size_of old (piece ∷ [])

-- a piece was put at the end, and there is room
pub kept_one : (most bytes : ℕ) (old new : List (Vec ℕ Global)) (piece : Vec ℕ Global) → new ≡ old ++ (piece ∷ []) → length new ≤ most → bytes ≤ size_of piece → HasKept most 1 bytes (sizes_of old) (sizes_of new)
kept_one most bytes old new piece is few large =
    let put : sizes_of new ≡ sizes_of old ++ (size_of piece ∷ []) = put_last old new piece is in
    let none : 0 ≡ length (sizes_of old ++ (size_of piece ∷ [])) - most =
    omega (arith, few, ap (λ l. length l) put, length-map new size_of) in
    record {
      sizes = size_of piece ∷ [];
      few = omega arith;
      large = All-cons (λ size. bytes ≤ size) (size_of piece) [] large (All-nil (λ size. bytes ≤ size));
      are = put ∙ ap (λ k. drop k (sizes_of old ++ (size_of piece ∷ []))) none;
    }

-- or there is one too many, and the first goes
pub kept_over : (most bytes : ℕ) (old later new : List (Vec ℕ Global)) (piece : Vec ℕ Global) → length old ≤ most → later ≡ old ++ (piece ∷ []) → most < length later → new ≡ drop 1 later → bytes ≤ size_of piece
    → HasKept most 1 bytes (sizes_of old) (sizes_of new)
kept_over most bytes old later new piece few is over goes large =
    let put : sizes_of later ≡ sizes_of old ++ (size_of piece ∷ []) = put_last old later piece is in
    let one : 1 ≡ length (sizes_of old ++ (size_of piece ∷ [])) - most =
    omega (arith, few, over, one_more most old piece, ap (λ l. length l) put, length-map later size_of) in
    record {
      sizes = size_of piece ∷ [];
      few = omega arith;
      large = All-cons (λ size. bytes ≤ size) (size_of piece) [] large (All-nil (λ size. bytes ≤ size));
      are = ap (map size_of) goes ∙ (sym (drop-map size_of 1 later) ∙ (ap (drop 1) put ∙ ap (λ k. drop k (sizes_of old ++ (size_of piece ∷ []))) one));
    }

from_here : (pieces : List (Vec ℕ Global)) (at : ℕ) (piece : Vec ℕ Global) → at < length pieces → piece ≡ get_or pieces at piece → drop at pieces ≡ piece ∷ drop (at + 1) pieces
from_here pieces at piece in' is = drop_more pieces at piece in' ∙ ap (λ p. p ∷ drop (at + 1) pieces) (sym is)

pub none_serves_more : (size : ℕ) (pieces : List (Vec ℕ Global)) (at : ℕ) (piece : Vec ℕ Global) → at < length pieces → piece ≡ get_or pieces at piece → (Serves size (length piece.items) → ⊥) → NoneServes size (sizes_of (drop (at + 1) pieces)) → NoneServes size (sizes_of (drop at pieces))
none_serves_more size pieces at piece in' is not rest =
    rw (from_here pieces at piece in' is) (All-cons (λ p. Serves size p → ⊥) (size_of piece) (sizes_of (drop (at + 1) pieces)) not rest)

pub hands_out : (size : ℕ) (pieces new : List (Vec ℕ Global)) (at : ℕ) (piece : Vec ℕ Global) → at < length pieces → piece ≡ get_or pieces at piece → new ≡ take at pieces ++ drop (at + 1) pieces → Serves size (length piece.items) → NoneServes size (sizes_of (drop (at + 1) pieces)) → HandsOut size (length piece.items) (sizes_of pieces) (sizes_of new)
hands_out size pieces new at piece in' is left serves last = record {
  before = sizes_of (take at pieces);
  after = sizes_of (drop (at + 1) pieces);
  was = ap (map size_of) (sym (take-append-drop at pieces) ∙ ap (λ l. take at pieces ++ l) (from_here pieces at piece in' is)) ∙ map-append size_of (take at pieces) (piece ∷ drop (at + 1) pieces);
  left = rw left (map-append size_of (take at pieces) (drop (at + 1) pieces));
  serves = serves;
  last = last;
}
