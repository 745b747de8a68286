-- A node's clip is its filter over its inputs' clips.
use Rattle.std.proofs.Common.{◌≡◌, ℕ, zero, suc, ◌+◌, ◌<◌, List, [], ◌∷◌, length, map, get_or, Ok, refl, sym, ap, ◌∙◌, arith, subst}
use Rattle.std.specs.Prelude.{slice_index_or}
use Rattle.std.proofs.lemmas.List.{length-map}
use Rattle.std.specs.List.{All}
use Rattle.std.proofs.lemmas.List.Elements.{All-nil, All-cons, All-head, All-tail}
use Rattle.fv_plane.specs.Info.{IsLawful}
use Rattle.fv_plane.specs.Picture.{Picture}
use Rattle.clip_term.specs.declared.op.Origin.{Origin}
use Rattle.clip_term.specs.Terms.{Act, ClipTerm, applied, and_term, asked, term_picture, info_of, infos_of, inputs_of, term_pictures, asked_picture, no_picture, IsSound, IsSoundTerm, AreSoundTerms, AreLawful, IsAsked}
use Rattle.clip_term.specs.Refusals.{info_at}
use Rattle.clip_term.proofs.PictureLemmas.{makes_pictures}
use Rattle.clip_term.proofs.SoundLemmas.{sound_lawful}
use Rattle.clip_term.proofs.AskedLemmas.{asks_in_range}
use Rattle.clip_graph.specs.Plan.{Application, application_at, infos_among, infos_at, IsPlan, terms_by, term_within, term_at, key_of, key_picture, PlacesAreTerms, IsKeyBelow, InputsAreKeys, Unfolds}

clips_same : (f g : ℕ → ClipTerm) (is : List ℕ) → ((j : ℕ) → j < length is → f (get_or is j 0) ≡ g (get_or is j 0)) → terms_by f is ≡ terms_by g is
clips_same f g [] same = refl
clips_same f g (i ∷ is) same =
    ap (λ c. and_term c (terms_by f is)) (same zero (omega arith)) ∙ ap (λ cs. and_term (g i) cs) (clips_same f g is (λ j h. same (suc j) (omega arith)))

-- enough filters are enough
fuel_same : (plan : List Application) → IsPlan plan → (m k i : ℕ) → i < m → i < k → i < length plan → term_within plan m i ≡ term_within plan k i
unfolding term_within
fuel_same plan is zero k i h g l = absurd (omega arith)
fuel_same plan is (suc m) zero i h g l = absurd (omega arith)
fuel_same plan is (suc m) (suc k) i h g l =
    ap (λ cs. applied (application_at plan i).act cs)
    (clips_same (term_within plan m) (term_within plan k) (application_at plan i).inputs
    (λ j n. let below = (is.each i l).lower j n in fuel_same plan is m k (get_or (application_at plan i).inputs j 0) (omega arith) (omega arith) (omega arith)))

-- the equation of a place
pub unfold_is : (plan : List Application) → IsPlan plan → (i : ℕ) → i < length plan → term_at plan i ≡ applied (application_at plan i).act (terms_by (term_at plan) (application_at plan i).inputs)
unfolding term_within
unfold_is plan is i h =
    ap (λ cs. applied (application_at plan i).act cs)
    (clips_same (term_within plan i) (term_at plan) (application_at plan i).inputs
    (λ j n. let below = (is.each i h).lower j n in fuel_same plan is i (suc (get_or (application_at plan i).inputs j 0)) (get_or (application_at plan i).inputs j 0) (omega arith) (omega arith) (omega arith)))

infos_are : (plan : List Application) (js : List ℕ) → ((j : ℕ) → j < length js → info_of (term_at plan (get_or js j 0)) ≡ Ok (application_at plan (get_or js j 0)).info)
    → infos_of (terms_by (term_at plan) js) ≡ Ok (infos_among plan js)
unfolding infos_of
infos_are plan [] each = refl
infos_are plan (i ∷ is) each = rw (each zero (omega arith), infos_are plan is (λ j h. each (suc j) (omega arith)))

-- the info that the plan holds is the clip's
info_within : (plan : List Application) → IsPlan plan → (most i : ℕ) → i < most → i < length plan → info_of (term_at plan i) ≡ Ok (application_at plan i).info
unfolding info_of
info_within plan is zero i l h = absurd (omega arith)
info_within plan is (suc most) i l h =
    rw (
      unfold_is plan is i h,
      infos_are plan (application_at plan i).inputs (λ j n. let below = (is.each i h).lower j n in
          info_within plan is most (get_or (application_at plan i).inputs j 0) (omega arith) (omega arith)),
    ) (is.each i h).told

pub info_is : (plan : List Application) → IsPlan plan → (i : ℕ) → i < length plan → info_of (term_at plan i) ≡ Ok (application_at plan i).info
info_is plan is i h = info_within plan is (i + 1) i (omega arith) h

pub infos_is : (plan : List Application) → IsPlan plan → (i : ℕ) → i < length plan → infos_of (terms_by (term_at plan) (application_at plan i).inputs) ≡ Ok (infos_at plan i)
infos_is plan is i h = infos_are plan (application_at plan i).inputs (λ j n. let below = (is.each i h).lower j n in info_is plan is (get_or (application_at plan i).inputs j 0) (omega arith))

counted : (f : ℕ → ClipTerm) (js : List ℕ) → inputs_of (terms_by f js) ≡ length js
counted f [] = refl
counted f (j ∷ js) = let later = counted f js in omega arith

sounds_are : (f : ℕ → ClipTerm) (js : List ℕ) → ((j : ℕ) → j < length js → IsSoundTerm (f (get_or js j 0))) → AreSoundTerms (terms_by f js)
unfolding AreSoundTerms
sounds_are f [] each = tt
sounds_are f (j ∷ js) each = (each zero (omega arith), sounds_are f js (λ k h. each (suc k) (omega arith)))

sound_over : (act : Act) (f : ℕ → ClipTerm) (js : List ℕ) → IsSound act (length js) → AreSoundTerms (terms_by f js) → IsSoundTerm (applied act (terms_by f js))
unfolding IsSoundTerm
sound_over act f js sound rest = (subst (λ (k : ℕ). IsSound act k) (sym (counted f js)) sound, rest)

sound_within : (plan : List Application) → IsPlan plan → (most i : ℕ) → i < most → i < length plan → IsSoundTerm (term_at plan i)
sound_within plan is zero i l h = absurd (omega arith)
sound_within plan is (suc most) i l h =
    let js = (application_at plan i).inputs in
    subst (λ (c : ClipTerm). IsSoundTerm c) (sym (unfold_is plan is i h))
    (sound_over (application_at plan i).act (term_at plan) js (is.each i h).sound
    (sounds_are (term_at plan) js (λ j n. let below = (is.each i h).lower j n in sound_within plan is most (get_or js j 0) (omega arith) (omega arith))))

pub sound_is : (plan : List Application) → IsPlan plan → (i : ℕ) → i < length plan → IsSoundTerm (term_at plan i)
sound_is plan is i h = sound_within plan is (i + 1) i (omega arith) h

pub lawful_is : (plan : List Application) → IsPlan plan → (i : ℕ) → i < length plan → IsLawful (application_at plan i).info
lawful_is plan is i h = sound_lawful (term_at plan i) (application_at plan i).info (sound_is plan is i h) (info_is plan is i h)

pub places_are_terms : PlacesAreTerms
places_are_terms plan i is there = record { sound = sound_is plan is i there; info = info_is plan is i there; lawful = lawful_is plan is i there }

info_found : (plan : List Application) (js : List ℕ) (j : ℕ) → j < length js → info_at (infos_among plan js) j ≡ (application_at plan (get_or js j 0)).info
info_found plan [] j h = absurd (omega arith)
info_found plan (k ∷ ks) zero h = refl
info_found plan (k ∷ ks) (suc j) h = info_found plan ks j (omega arith)

long : (plan : List Application) (i : ℕ) → length (infos_at plan i) ≡ length (application_at plan i).inputs
long plan i = length-map (application_at plan i).inputs (λ j. (application_at plan j).info)

lawfuls : (plan : List Application) → IsPlan plan → (i : ℕ) → i < length plan → AreLawful (infos_at plan i)
lawfuls plan is i h j n =
    let js = (application_at plan i).inputs in
    let l = long plan i in
    let below = (is.each i h).lower j (omega arith) in
    rw (info_found plan js j (omega arith)) (lawful_is plan is (get_or js j 0) (omega arith))

asked_all : (plan : List Application) → IsPlan plan → (i n : ℕ) → i < length plan → All (IsAsked (infos_at plan i)) (asked (application_at plan i).act (infos_at plan i) n)
asked_all plan is i n h =
    asks_in_range (application_at plan i).act (infos_at plan i) n (subst (λ (k : ℕ). IsSound (application_at plan i).act k) (sym (long plan i)) (is.each i h).sound) (lawfuls plan is i h)

-- each origin is one of the inputs
data Inside (plan : List Application) (i : ℕ) : List Origin → Type 0 where
  none : Inside plan i []
  more : {o : Origin} {os : List Origin} → IsAsked (infos_at plan i) o → Inside plan i os → Inside plan i (o ∷ os)

inside_of : (plan : List Application) (i : ℕ) (os : List Origin) → All (IsAsked (infos_at plan i)) os → Inside plan i os
inside_of plan i [] all = none
inside_of plan i (o ∷ os) all = more (All-head (IsAsked (infos_at plan i)) o os all) (inside_of plan i os (All-tail (IsAsked (infos_at plan i)) o os all))

keys_below : (plan : List Application) → IsPlan plan → (i : ℕ) → i < length plan → {os : List Origin} → Inside plan i os → All (IsKeyBelow plan i) (map (key_of plan i) os)
keys_below plan is i h none = All-nil (IsKeyBelow plan i)
keys_below plan is i h (more {o} {os} here rest) =
    let js = (application_at plan i).inputs in
    let l = long plan i in
    let place = here.input in
    let key : IsKeyBelow plan i (key_of plan i o) = record {
      node = (is.each i h).lower o.input (omega arith);
      number = rw (info_found plan js o.input (omega arith)) at here.number;
    } in
    All-cons (IsKeyBelow plan i) (key_of plan i o) (map (key_of plan i) os) key (keys_below plan is i h rest)

pub inputs_are_keys : InputsAreKeys
inputs_are_keys plan key is h = keys_below plan is key.node h (inside_of plan key.node (asked (application_at plan key.node).act (infos_at plan key.node) key.n) (asked_all plan is key.node key.n h))

-- the picture of an input, found by its place in the plan
picture_found : (book : List (List Picture)) (plan : List Application) (is : List ℕ) (i n : ℕ) → i < length is
    → slice_index_or (term_pictures book (terms_by (term_at plan) is)) i (λ k. no_picture) n ≡ term_picture book (term_at plan (get_or is i 0)) n
picture_found book plan [] i n h = absurd (omega arith)
picture_found book plan (j ∷ js) zero n h = refl
picture_found book plan (j ∷ js) (suc i) n h = picture_found book plan js i n (omega arith)

pictures_found : (book : List (List Picture)) (plan : List Application) (node : ℕ) {os : List Origin} → Inside plan node os
    → map (asked_picture (term_pictures book (terms_by (term_at plan) (application_at plan node).inputs))) os ≡ map (key_picture book plan) (map (key_of plan node) os)
pictures_found book plan node none = refl
pictures_found book plan node (more {o} {os} h rest) =
    let js = (application_at plan node).inputs in
    let l = long plan node in
    let place = h.input in
    ap (λ p. p ∷ map (asked_picture (term_pictures book (terms_by (term_at plan) js))) os) (picture_found book plan js o.input o.number (omega arith))
    ∙ ap (λ ps. term_picture book (term_at plan (get_or js o.input 0)) o.number ∷ ps) (pictures_found book plan node rest)

pub unfolds : Unfolds
unfolds book plan key is h =
    let i = key.node in
    let term = applied (application_at plan i).act (terms_by (term_at plan) (application_at plan i).inputs) in
    let one = unfold_is plan is i h in
    let told : info_of term ≡ Ok (application_at plan i).info = rw (← one) (info_is plan is i h) in
    let sound : IsSoundTerm term = rw (← one) (sound_is plan is i h) in
    let inside = inside_of plan i (asked (application_at plan i).act (infos_at plan i) key.n) (asked_all plan is i key.n h) in
    rw (one, ← pictures_found book plan i inside) (makes_pictures book term key.n (infos_at plan i) (application_at plan i).info sound (infos_is plan is i h) told)
