-- The frame that a node's instance makes is that of its key.
use Rattle.std.proofs.Common.{◌≡◌, ℕ, ◌<◌, ◌==◌, Bool, true, false, List, [], map, Option, Some, sym, refl, ap, ◌∙◌, subst, arith, slice_get, length, zero, suc, ◌+◌, ◌-◌, ◌≤◌, ◌∷◌, ◌++◌, take, None, drop}
use Rattle.std.specs.Prelude.{slice_index_or}
use Rattle.std.proofs.lemmas.Option.{get_or_from_slice_get, slice_get_within}
use Rattle.fv_plane.specs.declared.format.Info.{Info}
use Rattle.fv_plane.specs.declared.key.Key.{Key}
use Rattle.fv_plane.specs.Picture.{look_in, picture_from, Picture}
use Rattle.clip_term.specs.Terms.{Act, source, asked}
use Rattle.clip_graph.specs.Plan.{Application, application_at, infos_at, is_source, IsPlan, IsCounted, key_of, input_keys, key_made, key_picture, IsKeyBelow}
use Rattle.clip_graph.proofs.UnfoldingLemmas.{unfolds, inputs_are_keys}
use Rattle.clip_term.proofs.ListedLemmas.{listed}
use Rattle.inst_table.specs.Places.{shared_place}
use Rattle.serve_machine.specs.Events.{mode_at, instance_in}
use Rattle.serve_core.specs.Sources.{place_of}
use Rattle.serve_core.specs.Stands.{Book, FitsAct, IsRight, ExceedsAct}
use Rattle.serve_core.specs.Works.{IsMade}
use Rattle.std.specs.List.{All}
use Rattle.std.proofs.lemmas.List.Elements.{All-get_or}
use Rattle.fv_io.specs.Faults.{HasRisen}

-- a source has mode 3

counted_mode : (act : Act) (before mode : ℕ) → is_source act ≡ true → IsCounted act before mode → mode ≡ 3
counted_mode (source name number info) before mode is counted = counted.1
counted_mode _ before mode is counted = absurd (cc)

pub source_mode : (plan : List Application) (i : ℕ) → IsPlan plan → i < length plan → is_source (application_at plan i).act ≡ true → mode_at plan i ≡ 3
source_mode plan i is less h = counted_mode (application_at plan i).act _ _ h (is.each i less).counted

pub no_source : (plan : List Application) (i : ℕ) → IsPlan plan → i < length plan → mode_at plan i ≡ 1 → is_source (application_at plan i).act ≡ false
no_source plan i is less one = pick (is_source (application_at plan i).act) refl
  where
    pick : (b : Bool) → is_source (application_at plan i).act ≡ b → is_source (application_at plan i).act ≡ false
    pick false e = e
    pick true e = let three = source_mode plan i is less e in absurd (omega arith)

pub shared_for : (plan : List Application) (w i : ℕ) → mode_at plan i ≡ 3 → place_of plan w i ≡ shared_place i
shared_for plan w i three = ap (λ mode. record { node = i; instance = instance_in mode w; shared = mode == 3 }) three

-- the frame of a source

pub source_right : (plan : List Application) (k : Key) (b : List (List Picture)) (name : List ℕ) (number : ℕ) (info : Info) (frame : Picture) → IsPlan plan → k.node < length plan
    → (application_at plan k.node).act ≡ source name number info → (feed : List Picture) → IsMade plan k (Some feed) [] frame → feed ≡ slice_index_or b number [] → frame ≡ key_picture b plan k
source_right plan k b name number info frame is less act feed made told =
    let at : slice_get (slice_index_or b number []) k.n ≡ Some frame = ap (λ l. slice_get l k.n) (sym told) ∙ made.shown (ap is_source act) feed refl in
    let none : Picture = record { shape = info.shape; planes = [] } in
    let first : frame ≡ slice_index_or (slice_index_or b number []) k.n none = sym (get_or_from_slice_get (slice_index_or b number []) k.n frame none at) in
    let law : key_made b plan k (map (key_picture b plan) (input_keys plan k)) ≡ key_picture b plan k = unfolds b plan k is less in
    let law' : picture_from (application_at plan k.node).info.shape (look_in (slice_index_or (slice_index_or b number []) k.n none)) ≡ key_picture b plan k = rw act at law in
    sym (listed frame made.whole) ∙ ap (λ s. picture_from s (look_in frame)) made.shape ∙ ap (λ p. picture_from (application_at plan k.node).info.shape (look_in p)) first ∙ law'

-- the frame of a filter

pub filter_right : (plan : List Application) (k : Key) (b : List (List Picture)) (inputs : List Picture) (frame : Picture) → IsPlan plan → k.node < length plan → frame ≡ key_made b plan k inputs
    → inputs ≡ map (key_picture b plan) (input_keys plan k) → frame ≡ key_picture b plan k
filter_right plan k b inputs frame is less made are = made ∙ ap (key_made b plan k) are ∙ unfolds b plan k is less

-- the frame of either

module _ {I : Type 0} (feed : I → Option (List Picture)) (faults : I → ℕ) (plan : List Application) (k : Key) (inputs : List Picture) (value : I) (frame : Picture) (book : Book) (numbers : List ℕ) where
  pub made_right : IsPlan plan → k.node < length plan → IsMade plan k (feed value) inputs frame → (is_source (application_at plan k.node).act ≡ true → FitsAct feed faults book numbers (application_at plan k.node).act value)
      → ((b : List (List Picture)) → book ≡ Some b → inputs ≡ map (key_picture b plan) (input_keys plan k)) → IsRight book plan k frame
  made_right is less made fits right b q = pick (application_at plan k.node).act refl
    where
      other : is_source (application_at plan k.node).act ≡ false → frame ≡ key_picture b plan k
      other is_none = filter_right plan k b inputs frame is less (made.filtered is_none b) (right b q)

      pick : (act : Act) → (application_at plan k.node).act ≡ act → frame ≡ key_picture b plan k
      pick (source name number info) e =
          let fit : FitsAct feed faults book numbers (source name number info) value = subst (λ act. FitsAct feed faults book numbers act value) e (fits (ap is_source e)) in
          let told : feed value ≡ Some (slice_index_or b number []) = fit.0 b q in
          let none : inputs ≡ [] = right b q ∙ ap (λ act. map (key_picture b plan) (map (key_of plan k.node) (asked act (infos_at plan k.node) k.n))) e in
          source_right plan k b name number info frame is less e (slice_index_or b number []) (subst (λ l. IsMade plan k (Some (slice_index_or b number [])) l frame) none (subst (λ o. IsMade plan k o inputs frame) told made)) refl
      pick _ e = other (ap is_source e)

-- what an instance that was used fits

module _ {I : Type 0} (feed : I → Option (List Picture)) (faults : I → ℕ) where
  pub fits_more : (act : Act) (x y : I) (book : Book) (numbers : List ℕ) → feed y ≡ feed x → faults x ≤ faults y → FitsAct feed faults book numbers act x → FitsAct feed faults book numbers act y
  fits_more (source name number info) x y book numbers f g h = let low = h.1 in ((λ b q. f ∙ h.0 b q), omega arith)
  fits_more _ x y book numbers f g h = tt

  pub exceeds : (act : Act) (x y : I) (book : Book) (numbers : List ℕ) → FitsAct feed faults book numbers act x → HasRisen (faults x) (faults y) → ExceedsAct feed faults book numbers act y
  exceeds (source name number info) x y book numbers fits risen = let low = fits.1 in omega arith
  exceeds _ x y book numbers fits risen = tt

  pub untold_book : (act : Act) (x : I) (book : Book) (numbers : List ℕ) → is_source act ≡ true → ((frames : List Picture) → feed x ≡ Some frames → ⊥) → FitsAct feed faults book numbers act x → book ≡ None
  untold_book (source name number info) x None numbers is untold fits = refl
  untold_book (source name number info) x (Some b) numbers is untold fits = absurd (untold (slice_index_or b number []) (fits.0 b refl))
  untold_book _ x book numbers is untold fits = absurd (cc)

-- THE KEYS OF A FRAME'S INPUTS

pub input_below : (plan : List Application) (k : Key) (i : ℕ) (j : Key) → IsPlan plan → k.node < length plan → slice_get (input_keys plan k) i ≡ Some j → IsKeyBelow plan k.node j
input_below plan k i j is less at =
    let one = All-get_or (IsKeyBelow plan k.node) (input_keys plan k) i j (slice_get_within (input_keys plan k) i j at) (inputs_are_keys plan k is less) in
    subst (IsKeyBelow plan k.node) (get_or_from_slice_get (input_keys plan k) i j j at) one

-- the first keys of a list

pub front_more : (ks : List Key) (i : ℕ) (k : Key) → slice_get ks i ≡ Some k → take (i + 1) ks ≡ take i ks ++ k ∷ []
front_more ks i k h = let e : i + 1 ≡ suc i = omega arith in subst (λ n. take n ks ≡ take i ks ++ k ∷ []) (sym e) (go ks i h)
  where
    go : (ks : List Key) (i : ℕ) → slice_get ks i ≡ Some k → take (suc i) ks ≡ take i ks ++ k ∷ []
    go [] i h = absurd (cc)
    go (j ∷ js) zero h = let same : j ≡ k = cc in ap (λ z. z ∷ []) same
    go (j ∷ js) (suc i) h = ap (λ l. j ∷ l) (go js i h)

pub front_and : (ks : List Key) (i : ℕ) (k : Key) → slice_get ks i ≡ Some k → ks ≡ take i ks ++ k ∷ drop (suc i) ks
front_and [] i k h = absurd (cc)
front_and (j ∷ js) zero k h = let same : j ≡ k = cc in ap (λ z. z ∷ js) same
front_and (j ∷ js) (suc i) k h = ap (λ l. j ∷ l) (front_and js i k h)

pub taken_all : (ks : List Key) (i : ℕ) → slice_get ks i ≡ None → take i ks ≡ ks
taken_all [] zero h = refl
taken_all [] (suc i) h = refl
taken_all (j ∷ js) zero h = absurd (cc)
taken_all (j ∷ js) (suc i) h = ap (λ l. j ∷ l) (taken_all js i h)
