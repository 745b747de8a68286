-- What a filter makes of its inputs' pictures is the clip's picture.
use Rattle.std.proofs.Common.{length, ◌≡◌, ℕ, zero, suc, List, [], ◌∷◌, map, refl, ap, ◌∙◌, arith, Result, Ok, subst}
use Rattle.std.specs.Prelude.{slice_index_or}
use Rattle.fv_plane.specs.declared.format.Info.{Info}
use Rattle.fv_plane.specs.declared.format.Shape.{Shape}
use Rattle.fv_plane.specs.Picture.{Picture, Look, nothing, look_at, look_in}
use Rattle.clip_term.specs.declared.fault.FilterFault.{FilterFault}
use Rattle.clip_term.specs.declared.op.Origin.{Origin}
use Rattle.fv_plane.specs.Info.{Rate}
use Rattle.fv_plane.specs.Refusals.{Refusals, first_fault}
use Rattle.clip_term.specs.Refusals.{info_at, rate_of, limits, unless}
use Rattle.clip_term.specs.Time.{time_refusals, time_length, time_rate, field_refusals, field_length, field_rate, field_shape, field_order, field_at}
use Rattle.clip_term.specs.Space.{space_refusals, space_shape, space_at}
use Rattle.clip_term.specs.Join.{join_refusals, join_length, join_shape, join_at}
use Rattle.clip_term.specs.Soft.{soft_refusals, soft_at}
use Rattle.clip_term.specs.Choice.{run_refusals, run_base, run_at}
use Rattle.clip_term.proofs.ChoiceFacts.{run_facts}
use Rattle.clip_term.proofs.FieldFacts.{field_facts}
use Rattle.clip_term.proofs.SoundLemmas.{counted, sounds_lawful}
use Rattle.clip_term.specs.Terms.{Act, source, plain, time, space, joined, soft, fields, choice, ClipTerm, applied, ClipTerms, no_terms, and_term, IsSound, IsSoundTerm, AreSoundTerms, inputs_of, AreLawful, check, asked, sample, then_check, info_of, infos_of, term_sample, term_samples, looks_of, term_picture, term_pictures, asked_picture, no_picture, MakesPictures}
use Rattle.fv_plane.proofs.LookLemmas.{Agree, picture_same, agree_look}
use Rattle.clip_term.proofs.PassedLemmas.{Passed, passed, limits_shape, both_ok}
use Rattle.clip_term.proofs.SeenLemmas.{Alike, Seen, none_seen, one_seen, first_seen, seen_each, each_at}
use Rattle.clip_term.proofs.LimitLemmas.{sized_of}
use Rattle.clip_term.proofs.TimeFacts.{time_facts}
use Rattle.clip_term.proofs.SpaceFacts.{space_facts}
use Rattle.clip_term.proofs.JoinFacts.{join_facts}
use Rattle.clip_term.proofs.SoftFacts.{soft_facts}

-- ONE OP: what it makes inside its picture needs its inputs only inside theirs

-- any row that ends by its limits
made_local : (refusals : Refusals FilterFault) (c : Info) (frames : ℕ) (rate : Rate) (shape : Shape) (info : Info) (u v : Look) → (Passed refusals → Agree shape u v)
    → unless (first_fault refusals) (limits c frames rate shape) ≡ Ok info → Agree info.shape u v
made_local refusals c frames rate shape info u v agree e =
    let told = passed refusals (limits c frames rate shape) info e in
    subst (λ (s : Shape). Agree s u v) (limits_shape c frames rate shape info told.1) (agree told.0)

pub local : (book : List (List Picture)) (op : Act) (infos : List Info) (info : Info) (n : ℕ) → IsSound op (length infos) → AreLawful infos → check op infos ≡ Ok info
    → (ls ms : List Look) → Seen infos (asked op infos n) ls ms → Agree info.shape (sample book op infos n ls) (sample book op infos n ms)
local book (source name number told) infos info n fit lawful e ls ms seen = record { same = λ p x y i. refl }
local book (plain told colour) infos info n fit lawful e ls ms seen = record { same = λ p x y i. refl }
local book (time op) infos info n fit lawful e ls ms seen =
    let c = info_at infos 0 in
    made_local (time_refusals op c infos) c (time_length op c infos) (time_rate op c infos) c.shape info (look_at ls 0) (look_at ms 0)
    (λ told. (first_seen seen).on c.shape (λ h. (time_facts op).local infos n told h)) e
local book (space op) infos info n fit lawful e ls ms seen =
    let c = info_at infos 0 in
    made_local (space_refusals op c.shape) c c.frames (rate_of c) (space_shape op c.shape) info (space_at op c.shape (look_at ls 0)) (space_at op c.shape (look_at ms 0))
    (λ told. (space_facts op).local c.shape (look_at ls 0) (look_at ms 0) told ((first_seen seen).on c.shape (λ h. refl))) e
local book (joined op) infos info n fit lawful e ls ms seen =
    let c = info_at infos 0 in
    made_local (join_refusals op c infos) c (join_length op c infos) (rate_of c) (join_shape op c infos) info (join_at op infos ls) (join_at op infos ms)
    (λ told. (join_facts op).local infos ls ms told (seen_each infos n seen)) e
local book (soft op) infos info n fit lawful e ls ms seen =
    let c = info_at infos 0 in
    made_local (soft_refusals op) c c.frames (rate_of c) c.shape info (soft_at op c.shape ls) (soft_at op c.shape ms) (λ told. (soft_facts op).local infos n ls ms seen) e
local book (fields op) infos info n fit lawful e ls ms seen =
    let c = info_at infos 0 in
    let first = sized_of c.shape (lawful 0 (omega arith)).shape in
    made_local (field_refusals op c.shape) (record c { field = field_order op c.field }) (field_length op c.frames) (field_rate op c) (field_shape op c.shape) info (field_at op c n ls) (field_at op c n ms)
    (λ told. (field_facts op).local infos n ls ms told first seen) e
local book (choice op) infos info n fit lawful e ls ms seen =
    let c = run_base op infos in
    let each = seen_each infos n seen in
    made_local (run_refusals op infos) c c.frames (rate_of c) c.shape info (run_at op infos n ls) (run_at op infos n ms)
    (λ told. record {
      same = λ p x y i.
          ap (λ k. look_at ls k p x y) ((run_facts op).chosen infos n (look_at ls 0) (look_at ms 0) (each_at each 0))
          ∙ ((run_facts op).shown infos n (look_at ms 0) ls ms told each).same p x y i;
    }) e

-- THE TREE: each input's picture looks as its samples, inside

picture_seen : (book : List (List Picture)) (term : ClipTerm) (info : Info) (n : ℕ) → info_of term ≡ Ok info → Agree info.shape (look_in (term_picture book term n)) (term_sample book term n)
picture_seen book term info n e = rw e (agree_look info.shape (term_sample book term n))

input_seen : (book : List (List Picture)) (row : ClipTerms) (infos : List Info) → infos_of row ≡ Ok infos → (i n : ℕ)
    → Alike infos i (look_in (slice_index_or (term_pictures book row) i (λ k. no_picture) n)) (slice_index_or (term_samples book row) i (λ k. nothing) n)
unfolding infos_of term_samples
input_seen book no_terms infos e i n = record { on = λ s h. record { same = λ p x y g. refl } }
input_seen book (and_term term rest) infos e zero n =
    let both = both_ok (info_of term) (infos_of rest) infos e in
    rw (← both.whole) (record {
      on = λ s h. subst (λ (r : Shape). Agree r (look_in (term_picture book term n)) (term_sample book term n)) (h (omega arith)) (picture_seen book term both.first n both.first_is);
    })
input_seen book (and_term term rest) infos e (suc i) n =
    let both = both_ok (info_of term) (infos_of rest) infos e in
    let later = input_seen book rest both.others both.others_are i n in
    rw (← both.whole) (record { on = λ s h. later.on s (λ g. h (omega arith)) })

seen_asked : (book : List (List Picture)) (row : ClipTerms) (infos : List Info) → infos_of row ≡ Ok infos → (os : List Origin)
    → Seen infos os (map look_in (map (asked_picture (term_pictures book row)) os)) (looks_of (term_samples book row) os)
seen_asked book row infos e [] = none_seen
seen_asked book row infos e (o ∷ os) = one_seen (input_seen book row infos e o.input o.number) (seen_asked book row infos e os)

checked : (op : Act) (told : Result (List Info) FilterFault) (infos : List Info) (info : Info) → told ≡ Ok infos → then_check op told ≡ Ok info → check op infos ≡ Ok info
checked op told infos info e f = rw e at f

sound_over : (op : Act) (row : ClipTerms) (infos : List Info) → infos_of row ≡ Ok infos → IsSound op (inputs_of row) × AreSoundTerms row → IsSound op (length infos)
sound_over op row infos e sound = subst (λ (k : ℕ). IsSound op k) (counted row infos e) sound.0

pub makes_pictures : MakesPictures
unfolding info_of infos_of term_sample IsSoundTerm
makes_pictures book (applied op inputs) n infos info sound e f =
    let ls = map look_in (map (asked_picture (term_pictures book inputs)) (asked op infos n)) in
    let ms = looks_of (term_samples book inputs) (asked op infos n) in
    rw (f, e) (picture_same info.shape (sample book op infos n ls) (sample book op infos n ms)
    (local book op infos info n (sound_over op inputs infos e sound) (sounds_lawful inputs infos sound.1 e) (checked op (infos_of inputs) infos info e f) ls ms (seen_asked book inputs infos e (asked op infos n))))
