-- No sample that a filter makes of the frames that it asks is over the largest one.
use Rattle.std.proofs.Common.{◌≡◌, ℕ, zero, suc, ◌-◌, ◌^◌, ◌<◌, ◌≤◌, List, [], ◌∷◌, length, map, get_or, refl, ap, ◌∙◌, arith, subst, Ok, All}
use Rattle.std.specs.Prelude.{slice_index_or}
use Rattle.std.proofs.lemmas.List.{length-map}
use Rattle.std.proofs.lemmas.List.Elements.{All-nil, All-cons, All-head, All-tail}
use Rattle.fv_plane.specs.declared.format.Info.{Info}
use Rattle.fv_plane.specs.declared.format.Shape.{Shape}
use Rattle.fv_plane.specs.Format.{largest_sample}
use Rattle.fv_plane.specs.Picture.{Picture, IsPicture, Look, look_at, look_in, picture_from}
use Rattle.clip_term.specs.declared.op.Origin.{Origin}
use Rattle.clip_term.specs.Refusals.{info_at, no_info, rate_of, limits}
use Rattle.clip_term.specs.Time.{source_number, from_input, in_range, time_refusals, time_length, time_rate, field_refusals, field_length, field_rate, field_shape, field_order, field_at}
use Rattle.clip_term.specs.Space.{space_refusals, space_shape, space_at}
use Rattle.clip_term.specs.Join.{join_refusals, join_length, join_shape}
use Rattle.clip_term.specs.Soft.{soft_refusals, soft_at}
use Rattle.clip_term.specs.Terms.{Act, source, plain, time, space, joined, soft, fields, choice, ClipTerms, no_terms, and_term, IsSound, AreLawful, IsAsked, check, asked, info_of, infos_of, ok_or, term_pictures, asked_picture, no_picture}
use Rattle.clip_term.proofs.AskedLemmas.{asks_in_range}
use Rattle.clip_term.proofs.BoundLemmas as bounds
use Rattle.clip_term.proofs.TimeFacts.{time_facts}
use Rattle.clip_term.proofs.SpaceFacts.{space_facts}
use Rattle.clip_term.proofs.JoinFacts.{join_facts}
use Rattle.clip_term.proofs.SoftFacts.{soft_facts}
use Rattle.clip_term.proofs.FieldFacts.{field_facts}
use Rattle.clip_term.proofs.PassedLemmas.{passed, limits_shape, both_ok}
use Rattle.clip_reference.specs.Ready.{IsMade, IsInRange}

-- the frame that shows what is asked has the shape of the input
abbrev pub ShowsInputs : List Info → (Origin → Picture) → Type 0
ShowsInputs infos shown = (o : Origin) → (shown o).shape ≡ (info_at infos o.input).shape

shape_asked : (book : List (List Picture)) (row : ClipTerms) (infos : List Info) → infos_of row ≡ Ok infos → (i n : ℕ)
    → (slice_index_or (term_pictures book row) i (λ k. no_picture) n).shape ≡ (info_at infos i).shape
unfolding infos_of picture_from
shape_asked book no_terms infos e i n = let none : [] ≡ infos = cc in ap (λ ds. (info_at ds i).shape) none
shape_asked book (and_term term rest) infos e zero n =
    let both = both_ok (info_of term) (infos_of rest) infos e in
    rw (← both.whole) (ap (λ r. (ok_or no_info r).shape) both.first_is)
shape_asked book (and_term term rest) infos e (suc i) n =
    let both = both_ok (info_of term) (infos_of rest) infos e in
    rw (← both.whole) (shape_asked book rest both.others both.others_are i n)

-- the frames of the inputs' terms do
pub shows_inputs : (book : List (List Picture)) (row : ClipTerms) (infos : List Info) → infos_of row ≡ Ok infos → ShowsInputs infos (asked_picture (term_pictures book row))
shows_inputs book row infos e o = shape_asked book row infos e o.input o.number

-- the inputs that are asked have samples of so many bits
abbrev HaveBits : List Info → ℕ → List Origin → Type 0
HaveBits infos bits os = All (λ (o : Origin). (info_at infos o.input).shape.bits ≡ bits) os

one_has : (infos : List Info) (bits : ℕ) (o : Origin) → (info_at infos o.input).shape.bits ≡ bits → HaveBits infos bits (o ∷ [])
one_has infos bits o is = All-cons (λ (q : Origin). (info_at infos q.input).shape.bits ≡ bits) o [] is (All-nil (λ (q : Origin). (info_at infos q.input).shape.bits ≡ bits))

all_have : (infos : List Info) (bits : ℕ) (os : List Origin) → All (IsAsked infos) os → ((i : ℕ) → i < length infos → (info_at infos i).shape.bits ≡ bits) → HaveBits infos bits os
all_have infos bits os are each = λ k d h. each (get_or os k d).input (are k d h).input

-- so no sample of the frames is over the largest one
all_bounded : (infos : List Info) (shown : Origin → Picture) → ShowsInputs infos shown → (shape : Shape) (os : List Origin) → HaveBits infos shape.bits os → All IsPicture (map shown os)
    → bounds.AllBounded shape (map look_in (map shown os))
all_bounded infos shown shows shape [] bits are = bounds.none
all_bounded infos shown shows shape (o ∷ os) bits are =
    let P : Origin → Type 0 = λ q. (info_at infos q.input).shape.bits ≡ shape.bits in
    let same : (shown o).shape.bits ≡ shape.bits = ap (λ (s : Shape). s.bits) (shows o) ∙ All-head P o os bits in
    let is = All-head IsPicture (shown o) (map shown os) are in
    bounds.more (record { at = λ p x y. subst (λ n. look_in (shown o) p x y ≤ 2 ^ n - 1) same (is.bounded p x y) })
    (all_bounded infos shown shows shape os (All-tail P o os bits) (All-tail IsPicture (shown o) (map shown os) are))

-- ANY FILTER

in_range_made : (op : Act) (infos : List Info) (info : Info) (n : ℕ) (shown : Origin → Picture) → ShowsInputs infos shown → IsMade op → IsSound op (length infos) → AreLawful infos → check op infos ≡ Ok info
    → All IsPicture (map shown (asked op infos n)) → IsInRange op infos n (map shown (asked op infos n)) info.shape
in_range_made (source name number told) infos info n shown shows filter sound lawful e are = absurd filter
in_range_made (plain told colour) infos info n shown shows filter sound lawful e are = absurd filter
in_range_made (time inner) infos info n shown shows filter sound lawful e are =
    let c = info_at infos 0 in
    let o = source_number inner infos n in
    let rest = limits c (time_length inner c infos) (time_rate inner c infos) c.shape in
    let told = passed (time_refusals inner c infos) rest info e in
    let within = All-head (IsAsked infos) o [] (asks_in_range (time inner) infos n sound lawful) in
    let same = (time_facts inner).local infos n told.0 within.input ∙ limits_shape c (time_length inner c infos) (time_rate inner c infos) c.shape info told.1 in
    let all = all_bounded infos shown shows info.shape (o ∷ []) (one_has infos info.shape.bits o (ap (λ (s : Shape). s.bits) same)) are in
    λ p x y. (bounds.bounded_at all 0).at p x y
in_range_made (space inner) infos info n shown shows filter sound lawful e are =
    let c = info_at infos 0 in
    let shape = space_shape inner c.shape in
    let told = passed (space_refusals inner c.shape) (limits c c.frames (rate_of c) shape) info e in
    let o = in_range infos (from_input 0 n) in
    let from : Look = look_at (map look_in (map shown (o ∷ []))) 0 in
    let all = all_bounded infos shown shows c.shape (o ∷ []) (one_has infos c.shape.bits o refl) are in
    let few = (space_facts inner).bounded c.shape from told.0 (lawful 0 (omega arith)).shape (bounds.bounded_at all 0) in
    λ p x y. subst (λ (s : Shape). space_at inner c.shape from p x y ≤ largest_sample s) (limits_shape c c.frames (rate_of c) shape info told.1) (few.at p x y)
in_range_made (joined inner) infos info n shown shows filter sound lawful e are =
    let c = info_at infos 0 in
    let shape = join_shape inner c infos in
    let told = passed (join_refusals inner c infos) (limits c (join_length inner c infos) (rate_of c) shape) info e in
    let made = limits_shape c (join_length inner c infos) (rate_of c) shape info told.1 in
    let os = asked (joined inner) infos n in
    let bits = all_have infos info.shape.bits os (asks_in_range (joined inner) infos n sound lawful)
    (λ i h. (join_facts inner).bits infos told.0 i h ∙ ap (λ (s : Shape). s.bits) made) in
    let few = (join_facts inner).bounded info.shape infos (map look_in (map shown os)) (all_bounded infos shown shows info.shape os bits are) in
    λ p x y. few.at p x y
in_range_made (soft inner) infos info n shown shows filter sound lawful e are =
    let c = info_at infos 0 in
    let told = passed (soft_refusals inner) (limits c c.frames (rate_of c) c.shape) info e in
    let os = asked (soft inner) infos n in
    let looks : List Look = map look_in (map shown os) in
    let one = sound.0 in
    let bits = all_have infos c.shape.bits os (asks_in_range (soft inner) infos n sound lawful)
    (λ i h. let first : i ≡ 0 = omega arith in ap (λ k. (info_at infos k).shape.bits) first) in
    let long = length-map (map shown os) look_in ∙ length-map os shown ∙ (soft_facts inner).count infos n in
    let few = (soft_facts inner).bounded c.shape looks long (all_bounded infos shown shows c.shape os bits are) in
    λ p x y. subst (λ (s : Shape). soft_at inner c.shape looks p x y ≤ largest_sample s) (limits_shape c c.frames (rate_of c) c.shape info told.1) (few.at p x y)
in_range_made (fields inner) infos info n shown shows filter sound lawful e are =
    let c = info_at infos 0 in
    let shape = field_shape inner c.shape in
    let to = record c { field = field_order inner c.field } in
    let told = passed (field_refusals inner c.shape) (limits to (field_length inner c.frames) (field_rate inner c) shape) info e in
    let os = asked (fields inner) infos n in
    let bits = all_have infos c.shape.bits os (asks_in_range (fields inner) infos n sound lawful)
    (λ i h. let first : i ≡ 0 = omega arith in ap (λ k. (info_at infos k).shape.bits) first) in
    let few = (field_facts inner).bounded c.shape c n (map look_in (map shown os)) (all_bounded infos shown shows c.shape os bits are) in
    let same = (field_facts inner).bits c.shape ∙ ap (λ (s : Shape). s.bits) (limits_shape to (field_length inner c.frames) (field_rate inner c) shape info told.1) in
    λ p x y. subst (λ (b : ℕ). field_at inner c n (map look_in (map shown os)) p x y ≤ 2 ^ b - 1) same (few.at p x y)
in_range_made (choice inner) infos info n shown shows filter sound lawful e are = absurd filter

-- so what a term's filter makes of its inputs' frames is in range
pub made_in_range : (book : List (List Picture)) (row : ClipTerms) (op : Act) (infos : List Info) (info : Info) (n : ℕ) (pictures : List Picture) → infos_of row ≡ Ok infos → IsMade op → IsSound op (length infos)
    → AreLawful infos → check op infos ≡ Ok info → pictures ≡ map (asked_picture (term_pictures book row)) (asked op infos n) → All IsPicture pictures → IsInRange op infos n pictures info.shape
made_in_range book row op infos info n pictures told filter sound lawful e same are = search (arith, in_range_made, shows_inputs)
