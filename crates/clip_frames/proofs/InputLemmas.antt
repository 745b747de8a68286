-- Frames of the inputs, one by one.
use Rattle.std.proofs.Common.{◌≡◌, ℕ, zero, suc, ◌+◌, ◌-◌, ◌*◌, ◌<◌, ◌≤◌, List, [], ◌∷◌, length, map, Some, None, option_map, refl, sym, ap, ◌∙◌, arith}
use Rattle.std.specs.List.{range_with_len, slice_get}
use Rattle.std.proofs.lemmas.Option.{slice_get-get_or, slice_get_past}
use Rattle.std.proofs.lemmas.List.{length-map}
use Rattle.std.proofs.lemmas.Simd.{map-map}
use Rattle.std.proofs.lemmas.List.FromFn.{length-map-range_with_len, get_or-map-range_with_len}
use Rattle.fv_plane.specs.declared.format.Info.{Info}
use Rattle.clip_term.specs.Refusals.{info_at}
use Rattle.clip_term.specs.Time.{from_input, in_range}
use Rattle.clip_graph.specs.Plan.{Application, application_at, infos_among}
use Rattle.clip_frames.specs.Asked.{key_among, key_in_range}

-- LISTS

pub listed_at : {X : Type 0} (f : ℕ → X) (count i : ℕ) → i < count → slice_get (map f (range_with_len 0 count)) i ≡ Some (f i)
listed_at f count i there =
    let long = length-map-range_with_len f 0 count in
    slice_get-get_or (map f (range_with_len 0 count)) i (f 0) (omega arith) ∙ ap Some (get_or-map-range_with_len f 0 count i i (f 0) there (omega arith))

pub listed_past : {X : Type 0} (f : ℕ → X) (count i : ℕ) → count ≤ i → slice_get (map f (range_with_len 0 count)) i ≡ None
listed_past f count i past = let long = length-map-range_with_len f 0 count in slice_get_past (map f (range_with_len 0 count)) i (omega arith)

-- a frame of each input
pub joined_keys : (plan : List Application) (inputs : List ℕ) (n : ℕ)
    → map (λ k. key_in_range plan inputs k n) (range_with_len 0 (length inputs))
    ≡ map (key_among inputs) (map (λ k. in_range (infos_among plan inputs) (from_input k n)) (range_with_len 0 (length (infos_among plan inputs))))
joined_keys plan inputs n =
    ap (λ m. map (λ k. key_in_range plan inputs k n) (range_with_len 0 m)) (sym (length-map inputs (λ j. (application_at plan j).info)))
    ∙ sym (map-map (key_among inputs) (λ k. in_range (infos_among plan inputs) (from_input k n)) (range_with_len 0 (length (infos_among plan inputs))))

-- frames of the first input
pub around_keys : (plan : List Application) (inputs : List ℕ) (radius n : ℕ)
    → map (λ k. key_in_range plan inputs 0 (n + k - radius)) (range_with_len 0 (2 * radius + 1))
    ≡ map (key_among inputs) (map (λ k. in_range (infos_among plan inputs) (from_input 0 (n + k - radius))) (range_with_len 0 (2 * radius + 1)))
around_keys plan inputs radius n = sym (map-map (key_among inputs) (λ k. in_range (infos_among plan inputs) (from_input 0 (n + k - radius))) (range_with_len 0 (2 * radius + 1)))

-- frames of the first input, by their numbers
pub field_keys : (plan : List Application) (inputs ks : List ℕ) (i : ℕ)
    → slice_get (map (key_among inputs) (map (λ k. in_range (infos_among plan inputs) (from_input 0 k)) ks)) i ≡ option_map (key_in_range plan inputs 0) (slice_get ks i)
field_keys plan inputs [] zero = refl
field_keys plan inputs [] (suc i) = refl
field_keys plan inputs (k ∷ ks) zero = refl
field_keys plan inputs (k ∷ ks) (suc i) = field_keys plan inputs ks i

-- THE INFOS OF ONE INPUT OR TWO

pub one_info : (infos : List Info) (a : Info) → length infos ≡ 1 → a ≡ info_at infos 0 → a ∷ [] ≡ infos
one_info [] a count first = absurd (omega arith)
one_info (x ∷ []) a count first = ap (λ (d : Info). d ∷ []) first
one_info (x ∷ y ∷ rest) a count first = absurd (omega arith)

pub two_infos : (infos : List Info) (a b : Info) → length infos ≡ 2 → a ≡ info_at infos 0 → b ≡ info_at infos 1 → a ∷ b ∷ [] ≡ infos
two_infos [] a b count first second = absurd (omega arith)
two_infos (x ∷ []) a b count first second = absurd (omega arith)
two_infos (x ∷ y ∷ []) a b count first second = ap (λ (d : Info). d ∷ b ∷ []) first ∙ ap (λ (d : Info). x ∷ d ∷ []) second
two_infos (x ∷ y ∷ z ∷ rest) a b count first second = absurd (omega arith)
