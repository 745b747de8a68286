-- Another piece is put.
use Rattle.std.proofs.Common.{◌≡◌, ℕ, ◌+◌, ◌<◌, List, ◌++◌, length, take, drop, get_or, ◌*◌, ◌≤◌, arith, Option, Result, Ok, Err, OnErr, sym, ◌∙◌, ap}
use Rattle.std.proofs.lemmas.List.{drop_more, take-append-drop, append-nil}
use Rattle.std.proofs.Math.Seq.{take-add}
use Rattle.std.specs.List.{flat_map}
use Rattle.std.proofs.lemmas.List.Concat.{flat_map-append}
use Rattle.std.proofs.lemmas.Bool.Decides.{nat_tests}
use Rattle.fv_plane.specs.declared.format.Shape.{Shape}
use Rattle.std.proofs.lemmas.Nat.{mul-le}
use Rattle.fv_plane.specs.Format.{IsLegal, plane_width, sample_bytes, row_bytes, frame_samples, frame_bytes}
use Rattle.fv_io.specs.Told.{with_piece, GetsPrefix}
use Rattle.fv_io.proofs.CallerLemmas.{with_piece_twice, gets_after, gets_more}

module _ {X : Type 0} (text : X → List ℕ) (xs : List X) (i n : ℕ) (old mid new : Option (List ℕ)) (before : mid ≡ with_piece old (flat_map text (take i xs))) where
  -- the texts of n others are put
  pub put_more : new ≡ with_piece mid (flat_map text (take n (drop i xs))) → new ≡ with_piece old (flat_map text (take (i + n) xs))
  put_more put =
      put ∙ ap (λ (o : Option (List ℕ)). with_piece o (flat_map text (take n (drop i xs)))) before ∙ with_piece_twice old (flat_map text (take i xs)) (flat_map text (take n (drop i xs)))
      ∙ ap (λ (l : List ℕ). with_piece old l) (sym (flat_map-append text (take i xs) (take n (drop i xs))) ∙ ap (λ (l : List X). flat_map text l) (sym (take-add i n xs)))

  -- the texts of n others are cut short
  pub put_cut : GetsPrefix mid new (flat_map text (take n (drop i xs))) → GetsPrefix old new (flat_map text xs)
  put_cut cut =
      let rest = drop n (drop i xs) in
      let all : flat_map text xs ≡ flat_map text (take i xs) ++ (flat_map text (take n (drop i xs)) ++ flat_map text rest)
      = ap (λ (l : List X). flat_map text l) (sym (take-append-drop i xs)) ∙ flat_map-append text (take i xs) (drop i xs)
      ∙ ap (λ (l : List ℕ). flat_map text (take i xs) ++ l) (ap (λ (l : List X). flat_map text l) (sym (take-append-drop n (drop i xs))) ∙ flat_map-append text (take n (drop i xs)) rest) in
      rw all (gets_after old mid new (flat_map text (take i xs)) _ before (gets_more mid new (flat_map text (take n (drop i xs))) (flat_map text rest) cut))

-- the text of one is that of a list of one
pub one_more : {X : Type 0} (text : X → List ℕ) (xs : List X) (i : ℕ) (d : X) → i < length xs → flat_map text (take 1 (drop i xs)) ≡ text (get_or xs i d)
one_more {X = X} text xs i d within = ap (λ (l : List X). flat_map text (take 1 l)) (drop_more xs i d within) ∙ append-nil (text (get_or xs i d))

-- another text after those before
pub text_more : {X : Type 0} (text : X → List ℕ) (xs : List X) (i : ℕ) (d : X) → i < length xs → flat_map text (take (i + 1) xs) ≡ flat_map text (take i xs) ++ text (get_or xs i d)
text_more {X = X} text xs i d within =
    ap (λ (l : List X). flat_map text l) (take-add i 1 xs) ∙ flat_map-append text (take i xs) (take 1 (drop i xs)) ∙ ap (λ (l : List ℕ). flat_map text (take i xs) ++ l) (one_more text xs i d within)

-- a row is no longer than the frame is wide
row_width : (shape : Shape) (p : ℕ) → plane_width shape p ≤ shape.width
row_width shape p = grind (arith, nat_tests)

wide : (w h : ℕ) → 0 < h → w ≤ w * h
wide w h some = grind arith

-- a row of a legal frame is no longer than the frame
pub row_inside : (shape : Shape) (p : ℕ) → IsLegal shape → row_bytes shape p ≤ frame_bytes shape
row_inside shape p legal =
    let row = row_width shape p in
    let luma = wide shape.width shape.height legal.some_height in
    omega (arith, mul-le (plane_width shape p) (sample_bytes shape) (frame_samples shape) (sample_bytes shape) (omega arith) (omega arith))

-- what holds of an answer that is no success
pub on_err : {T E P : Type 0} (r : Result T E) → P → OnErr r P
on_err (Ok x) p = tt
on_err (Err e) p = p
