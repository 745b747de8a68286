-- A node and its inputs.
use Rattle.std.proofs.Common.{◌≡◌, ℕ, zero, suc, ◌<◌, List, [], ◌∷◌, length, map, get_or, Ok, refl, sym, ap, ◌∙◌, subst, arith}
use Rattle.std.specs.Prelude.{slice_index_or}
use Rattle.std.specs.List.{All}
use Rattle.std.proofs.lemmas.List.{length-map, get_or_read_under}
use Rattle.std.proofs.lemmas.List.Elements.{All-head, All-tail}
use Rattle.fv_plane.specs.declared.format.Info.{Info}
use Rattle.fv_plane.specs.declared.format.Shape.{Shape}
use Rattle.fv_plane.specs.declared.key.Key.{Key}
use Rattle.clip_term.specs.declared.op.Origin.{Origin}
use Rattle.clip_term.specs.Refusals.{info_at}
use Rattle.clip_term.specs.Terms.{Act, AreLawful, IsAsked, IsSound, asked, check}
use Rattle.clip_term.proofs.AskedLemmas.{asks_in_range}
use Rattle.clip_graph.specs.Plan.{Application, application_at, infos_among, infos_at, IsPlan, key_of}
use Rattle.clip_graph.proofs.UnfoldingLemmas.{lawful_is}
use Rattle.clip_frames.specs.Asked.{IsShown}

input_info : (plan : List Application) (places : List ℕ) (j : ℕ) → j < length places → info_at (infos_among plan places) j ≡ (application_at plan (slice_index_or places j 0)).info
input_info plan [] j within = absurd (omega arith)
input_info plan (i ∷ places) zero within = refl
input_info plan (i ∷ places) (suc j) within = input_info plan places j (omega arith)

-- what is known of a node of a plan, and of the infos of its inputs
pub record IsNode (plan : List Application) (i : ℕ) (infos : List Info) : Type 0 where
  pub sound : IsSound (application_at plan i).act (length infos)
  pub lawful : AreLawful infos
  pub told : check (application_at plan i).act infos ≡ Ok (application_at plan i).info
  pub count : length infos ≡ length (application_at plan i).inputs

pub is_node : (plan : List Application) (i : ℕ) → IsPlan plan → i < length plan → IsNode plan i (infos_at plan i)
is_node plan i is within =
    let inputs = (application_at plan i).inputs in
    let count = length-map inputs (λ j. (application_at plan j).info) in
    let at = is.each i within in
    record {
      sound = subst (λ (k : ℕ). IsSound (application_at plan i).act k) (sym count) at.sound;
      lawful = λ j there. (let below = at.lower j (omega arith) in rw (input_info plan inputs j (omega arith)) (lawful_is plan is (slice_index_or inputs j 0) (omega arith)));
      told = at.told;
      count = count;
    }

-- its frame n is one, as the code has the filter and the inputs
pub is_shown : (plan : List Application) (i n : ℕ) (act : Act) (inputs : List ℕ) → IsPlan plan → i < length plan → n < (application_at plan i).info.frames → act ≡ (application_at plan i).act
    → inputs ≡ (application_at plan i).inputs → IsShown act (infos_among plan inputs) n
is_shown plan i n act inputs is within below act_is are =
    let at = is_node plan i is within in
    rw (act_is, are) (record { sound = at.sound; lawful = at.lawful; shown = rw at.told below })

key_shapes : (plan : List Application) (i : ℕ) → length (infos_at plan i) ≡ length (application_at plan i).inputs → (origins : List Origin) → All (IsAsked (infos_at plan i)) origins
    → map (λ (k : Key). (application_at plan k.node).info.shape) (map (key_of plan i) origins) ≡ map (λ (o : Origin). (info_at (infos_at plan i) o.input).shape) origins
key_shapes plan i count [] all = refl
key_shapes plan i count (o ∷ origins) all =
    let inputs = (application_at plan i).inputs in
    let one = All-head (IsAsked (infos_at plan i)) o origins all in
    let input = one.input in
    let listed : o.input < length inputs = omega arith in
    ap (λ (d : Info). d.shape ∷ map (λ (k : Key). (application_at plan k.node).info.shape) (map (key_of plan i) origins)) (sym (input_info plan inputs o.input listed))
    ∙ ap (λ (shapes : List Shape). (info_at (infos_at plan i) o.input).shape ∷ shapes) (key_shapes plan i count origins (All-tail (IsAsked (infos_at plan i)) o origins all))

-- the frames that are asked have the shapes of its inputs
pub asked_shapes : (plan : List Application) (i n : ℕ) → IsPlan plan → i < length plan
    → map (λ (k : Key). (application_at plan k.node).info.shape) (map (key_of plan i) (asked (application_at plan i).act (infos_at plan i) n))
    ≡ map (λ (o : Origin). (info_at (infos_at plan i) o.input).shape) (asked (application_at plan i).act (infos_at plan i) n)
asked_shapes plan i n is within =
    let at = is_node plan i is within in
    key_shapes plan i at.count (asked (application_at plan i).act (infos_at plan i) n) (asks_in_range (application_at plan i).act (infos_at plan i) n at.sound at.lawful)

-- the info of its first input, as the code reads it
pub first_info : (plan : List Application) (i : ℕ) → IsPlan plan → i < length plan → 0 < length (infos_at plan i) → (inputs : List ℕ) (first : ℕ) (info : Info) → inputs ≡ (application_at plan i).inputs
    → first ≡ get_or inputs 0 first → info ≡ (application_at plan first).info → info ≡ info_at (infos_at plan i) 0
first_info plan i is within some inputs first info are first_is info_is =
    let all = (application_at plan i).inputs in
    let there : 0 < length all = omega (arith, some, (is_node plan i is within).count) in
    let at : first ≡ slice_index_or all 0 0 = get_or_read_under all 0 (length all) first 0 (first_is ∙ ap (λ (l : List ℕ). get_or l 0 first) are) there refl in
    info_is ∙ ap (λ k. (application_at plan k).info) at ∙ sym (input_info plan all 0 there)
