-- What a node makes of the frames that a frame of it is made of.
use Rattle.std.proofs.Common.{◌≡◌, ℕ, ◌+◌, ◌-◌, ◌*◌, ◌<◌, List, [], ◌∷◌, length, map, get_or, None, Ok, Err, sym, ap, ◌∙◌, subst, arith}
use Rattle.std.specs.Prelude.{IsTrue, Result}
use Rattle.std.specs.Result.{IfOk}
use Rattle.std.specs.List.{range_with_len, All}
use Rattle.std.proofs.lemmas.List.{length-map}
use Rattle.std.proofs.lemmas.List.Elements.{All-nil, All-cons}
use Rattle.std.proofs.lemmas.Simd.{map-map}
use Rattle.fv_plane.specs.declared.format.Colour.{Colour}
use Rattle.fv_plane.specs.declared.format.Info.{Info}
use Rattle.fv_plane.specs.declared.format.Shape.{Shape}
use Rattle.fv_plane.specs.declared.key.Key.{Key}
use Rattle.fv_plane.specs.Format.{IsLegal}
use Rattle.fv_plane.specs.Picture.{Picture, IsPicture, blank, look_in, picture_from}
use Rattle.fv_plane.specs.Refusals.{first_fault}
use Rattle.clip_term.specs.declared.op.Origin.{Origin}
use Rattle.clip_term.specs.declared.op.TimeOp.{TimeOp}
use Rattle.clip_term.specs.declared.op.SpaceOp.{SpaceOp}
use Rattle.clip_term.specs.declared.op.JoinOp.{JoinOp}
use Rattle.clip_term.specs.declared.op.SoftOp.{SoftOp}
use Rattle.clip_term.specs.declared.op.SoftOp.TheVariants as soft_op
use Rattle.clip_term.specs.Refusals.{info_at, nat_of, rate_of, limits}
use Rattle.clip_term.specs.Blank.{colour_at, plain_refusals}
use Rattle.clip_term.specs.Time.{time_refusals, time_length, time_rate, source_number, from_input, in_range}
use Rattle.clip_term.specs.Space.{space_refusals, space_shape, space_at, space_picture}
use Rattle.clip_term.specs.Soft.{soft_at}
use Rattle.clip_term.specs.Terms.{Act, plain, time, space, joined, soft, fields, choice, AreLawful, IsSound, asked, check, make, join_inputs, no_picture}
use Rattle.clip_term.proofs.AskedLemmas.{asks_in_range}
use Rattle.clip_term.proofs.LawfulLemmas.{checks_lawful}
use Rattle.clip_term.proofs.PassedLemmas.{passed, limits_shape}
use Rattle.clip_term.proofs.TimeFacts.{time_facts}
use Rattle.clip_graph.specs.Plan.{Application, application_at, infos_at, IsPlan, input_keys, key_made, AreOfKeys}
use Rattle.clip_term.proofs.ListedLemmas.{listed, blank_listed}
use Rattle.flt_space.proofs.CallerLemmas.{not_refused, shape_made}
use Rattle.flt_merge.specs.Joined.{CanJoin, join_picture}
use Rattle.flt_merge.proofs.CallerLemmas.{can_join, joined_is}
use Rattle.clip_term.specs.declared.field.FieldOp.{FieldOp}
use Rattle.clip_term.specs.Choice.{RunAct, run_inputs}
use Rattle.flt_field.specs.Made as of_field
use Rattle.flt_field.proofs.CallerLemmas.{can_make_field, field_is}
use Rattle.flt_choice.specs.Shown.{picture_shown}
use Rattle.flt_choice.proofs.CallerLemmas.{asked_shapes as each_shape, run_ready, run_made}
use Rattle.flt_soft.specs.Pictures.{CanSoften, HaveShape, soft_picture}
use Rattle.flt_soft.proofs.CallerLemmas as of_soft
use Rattle.flt_soft.proofs.PictureLemmas.{some_asked}
use Rattle.clip_frames.proofs.NodeLemmas.{is_node, asked_shapes}

-- a picture for each frame that is asked, of the shape of its clip
abbrev pub AreOfShapes : Act → List Info → ℕ → List Picture → Type 0
AreOfShapes act infos n pictures = map (λ (p : Picture). p.shape) pictures ≡ map (λ (o : Origin). (info_at infos o.input).shape) (asked act infos n)

-- as many pictures as are asked
pub as_many : (act : Act) (infos : List Info) (n : ℕ) (pictures : List Picture) → AreOfShapes act infos n pictures → length pictures ≡ length (asked act infos n)
as_many act infos n pictures shapes =
    sym (length-map pictures (λ (p : Picture). p.shape)) ∙ ap length shapes ∙ length-map (asked act infos n) (λ (o : Origin). (info_at infos o.input).shape)

-- what is known where a node makes a frame of these pictures
pub record CanMake (plan : List Application) (key : Key) (act : Act) (pictures : List Picture) : Type 0 where
  pub sound : IsSound act (length (infos_at plan key.node))
  pub lawful : AreLawful (infos_at plan key.node)
  pub told : check act (infos_at plan key.node) ≡ Ok (application_at plan key.node).info
  pub shapes : AreOfShapes act (infos_at plan key.node) key.n pictures

pub can_make : (plan : List Application) (key : Key) (act : Act) (pictures : List Picture) → IsPlan plan → key.node < length plan → AreOfKeys plan (input_keys plan key) pictures → act ≡ (application_at plan key.node).act
    → CanMake plan key act pictures
can_make plan key act pictures is within shapes act_is =
    let at = is_node plan key.node is within in
    rw act_is (record { sound = at.sound; lawful = at.lawful; told = at.told; shapes = shapes ∙ asked_shapes plan key.node key.n is within })

-- what is made is what the definition has
pub record Makes {E : Type 0} (plan : List Application) (key : Key) (pictures : List Picture) (answer : Result Picture E) : Type 0 where
  pub made : IfOk answer (λ (p : Picture). (book : List (List Picture)) → p ≡ key_made book plan key pictures)
  pub shape : IfOk answer (λ (p : Picture). p.shape ≡ (application_at plan key.node).info.shape)

pub makes : {E : Type 0} (plan : List Application) (key : Key) (act : Act) (pictures : List Picture) (answer : Result Picture E) (picture : Picture) → act ≡ (application_at plan key.node).act → IfOk answer (λ (p : Picture). p ≡ picture)
    → ((book : List (List Picture)) → picture ≡ make book act (infos_at plan key.node) (application_at plan key.node).info key.n pictures) → Makes plan key pictures answer
unfolding picture_from
makes plan key act pictures (Ok p) picture act_is is same =
    let all : (book : List (List Picture)) → p ≡ key_made book plan key pictures
    = λ book. is ∙ same book ∙ ap (λ a. make book a (infos_at plan key.node) (application_at plan key.node).info key.n pictures) act_is in
    record { made = all; shape = ap (λ (q : Picture). q.shape) (all []) }
makes plan key act pictures (Err fault) picture act_is is same = record { made = tt; shape = tt }

pub is_legal : (act : Act) (infos : List Info) (info : Info) → IsSound act (length infos) → AreLawful infos → check act infos ≡ Ok info → IsLegal info.shape
is_legal act infos info sound lawful told = (checks_lawful act infos info sound lawful told).shape

-- TIME

pub time_made : (op : TimeOp) (infos : List Info) (info : Info) (n : ℕ) (pictures : List Picture) (picture : Picture) → IsSound (time op) (length infos) → AreLawful infos → check (time op) infos ≡ Ok info
    → AreOfShapes (time op) infos n pictures → IsPicture picture → picture ≡ get_or pictures 0 picture → (book : List (List Picture)) → picture ≡ make book (time op) infos info n pictures
time_made op infos info n [] picture sound lawful told shapes whole is book = absurd (let long = as_many (time op) infos n [] shapes in omega arith)
time_made op infos info n (p ∷ rest) picture sound lawful told shapes whole is book =
    let c = info_at infos 0 in
    let o = source_number op infos n in
    let one = asks_in_range (time op) infos n sound lawful 0 o (omega arith) in
    let parts = passed (time_refusals op c infos) (limits c (time_length op c infos) (time_rate op c infos) c.shape) info told in
    let here : p.shape ≡ (info_at infos o.input).shape = cc in
    let first = (time_facts op).local infos n parts.0 one.input in
    let told_shape = limits_shape c (time_length op c infos) (time_rate op c infos) c.shape info parts.1 in
    is ∙ sym (listed p (subst (λ (x : Picture). IsPicture x) is whole)) ∙ ap (λ s. picture_from s (look_in p)) (here ∙ first ∙ told_shape)

-- SPACE

-- the frame that is asked has the shape of the clip
asked_shape : (op : SpaceOp) (infos : List Info) (n : ℕ) (pictures : List Picture) (picture : Picture) → AreOfShapes (space op) infos n pictures → picture ≡ get_or pictures 0 picture
    → picture.shape ≡ (info_at infos 0).shape
asked_shape op infos n [] picture shapes is = absurd (let long = as_many (space op) infos n [] shapes in omega arith)
asked_shape op infos n (p ∷ rest) picture shapes is =
    let here : p.shape ≡ (info_at infos 0).shape = cc in ap (λ (x : Picture). x.shape) is ∙ here

pub space_accepted : (op : SpaceOp) (infos : List Info) (info : Info) (n : ℕ) (pictures : List Picture) (picture : Picture) → check (space op) infos ≡ Ok info → AreOfShapes (space op) infos n pictures
    → picture ≡ get_or pictures 0 picture → first_fault (space_refusals op picture.shape) ≡ None
space_accepted op infos info n pictures picture told shapes is = ap (λ s. first_fault (space_refusals op s)) (asked_shape op infos n pictures picture shapes is) ∙ not_refused op infos info told

pub space_legal : (op : SpaceOp) (infos : List Info) (info : Info) (n : ℕ) (pictures : List Picture) (picture : Picture) → IsSound (space op) (length infos) → AreLawful infos → check (space op) infos ≡ Ok info
    → AreOfShapes (space op) infos n pictures → picture ≡ get_or pictures 0 picture → IsLegal (space_shape op picture.shape)
space_legal op infos info n pictures picture sound lawful told shapes is =
    subst (λ (s : Shape). IsLegal s) (sym (ap (space_shape op) (asked_shape op infos n pictures picture shapes is) ∙ shape_made op infos info told)) (is_legal (space op) infos info sound lawful told)

pub space_made : (op : SpaceOp) (infos : List Info) (info : Info) (n : ℕ) (pictures : List Picture) (picture : Picture) → check (space op) infos ≡ Ok info → AreOfShapes (space op) infos n pictures
    → picture ≡ get_or pictures 0 picture → (book : List (List Picture)) → space_picture op picture ≡ make book (space op) infos info n pictures
space_made op infos info n [] picture told shapes is book = absurd (let long = as_many (space op) infos n [] shapes in omega arith)
space_made op infos info n (p ∷ rest) picture told shapes is book =
    ap (λ s. picture_from (space_shape op s) (space_at op s (look_in picture))) (asked_shape op infos n (p ∷ rest) picture shapes is)
    ∙ ap (λ s. picture_from s (space_at op (info_at infos 0).shape (look_in picture))) (shape_made op infos info told)
    ∙ ap (λ (x : Picture). picture_from info.shape (space_at op (info_at infos 0).shape (look_in x))) is

-- JOIN

pub join_ready : (op : JoinOp) (infos : List Info) (info : Info) (n : ℕ) (pictures : List Picture) → IsSound (joined op) (length infos) → AreLawful infos → check (joined op) infos ≡ Ok info
    → AreOfShapes (joined op) infos n pictures → CanJoin op pictures
join_ready op infos info n pictures sound lawful told shapes =
    let same = shapes ∙ each_shape infos n in
    let long : length pictures ≡ length infos = sym (length-map pictures (λ (p : Picture). p.shape)) ∙ ap length same ∙ length-map infos (λ (d : Info). d.shape) in
    can_join op infos info pictures (subst (λ (k : ℕ). IsTrue (join_inputs op k)) (sym long) sound) told (is_legal (joined op) infos info sound lawful told) same

pub join_made : (op : JoinOp) (infos : List Info) (info : Info) (n : ℕ) (pictures : List Picture) → check (joined op) infos ≡ Ok info → AreOfShapes (joined op) infos n pictures
    → (book : List (List Picture)) → join_picture op pictures ≡ make book (joined op) infos info n pictures
join_made op infos info n pictures told shapes book = joined_is op infos info pictures told (shapes ∙ each_shape infos n) book n

-- SOFT

alike : {A : Type 0} (shape : Shape) (xs : List A) (pictures : List Picture) → map (λ (p : Picture). p.shape) pictures ≡ map (λ (x : A). shape) xs → HaveShape shape pictures
alike {A} shape [] [] same = All-nil (λ (p : Picture). p.shape ≡ shape)
alike {A} shape [] (p ∷ pictures) same = absurd (let none : ⊥ = cc in none)
alike {A} shape (x ∷ xs) [] same = absurd (let none : ⊥ = cc in none)
alike {A} shape (x ∷ xs) (p ∷ pictures) same =
    let here : p.shape ≡ shape = cc in
    let rest : map (λ (q : Picture). q.shape) pictures ≡ map (λ (y : A). shape) xs = cc in
    All-cons (λ (q : Picture). q.shape ≡ shape) p pictures here (alike shape xs pictures rest)

-- the frames that are asked have the shape of the clip
soft_alike : (op : SoftOp) (infos : List Info) (n : ℕ) (pictures : List Picture) → AreOfShapes (soft op) infos n pictures → HaveShape (info_at infos 0).shape pictures
soft_alike (soft_op.TemporalSoften radius luma chroma) infos n pictures shapes =
    let count = 2 * nat_of radius + 1 in
    alike (info_at infos 0).shape (range_with_len 0 count) pictures
    (shapes ∙ map-map (λ (o : Origin). (info_at infos o.input).shape) (λ k. in_range infos (from_input 0 (n + k - nat_of radius))) (range_with_len 0 count))
soft_alike (soft_op.GeneralConvolution bias matrix) infos n pictures shapes = alike {A = ℕ} (info_at infos 0).shape (0 ∷ []) pictures shapes

some_pictures : (op : SoftOp) (infos : List Info) (n : ℕ) (pictures : List Picture) → AreOfShapes (soft op) infos n pictures → 0 < length pictures
some_pictures op infos n pictures shapes = omega (arith, as_many (soft op) infos n pictures shapes, of_soft.length-soft_asked op infos n, some_asked op)

pub soft_ready : (op : SoftOp) (infos : List Info) (info : Info) (n : ℕ) (pictures : List Picture) → IsSound (soft op) (length infos) → check (soft op) infos ≡ Ok info → AreOfShapes (soft op) infos n pictures → CanSoften op pictures
soft_ready op infos info n pictures sound told shapes = record {
  accepted = of_soft.not_refused op infos info told;
  lists = sound.1;
  asked = as_many (soft op) infos n pictures shapes ∙ of_soft.length-soft_asked op infos n;
  alike = of_soft.alike_by (info_at infos 0).shape pictures (some_pictures op infos n pictures shapes) (soft_alike op infos n pictures shapes);
}

pub soft_made : (op : SoftOp) (infos : List Info) (info : Info) (n : ℕ) (pictures : List Picture) → check (soft op) infos ≡ Ok info → AreOfShapes (soft op) infos n pictures
    → (book : List (List Picture)) → soft_picture op pictures ≡ make book (soft op) infos info n pictures
soft_made op infos info n pictures told shapes book =
    ap (λ s. picture_from s (soft_at op s (map look_in pictures))) (soft_alike op infos n pictures shapes 0 no_picture (some_pictures op infos n pictures shapes))
    ∙ ap (λ s. picture_from s (soft_at op (info_at infos 0).shape (map look_in pictures))) (of_soft.shape_made op infos info told)

-- FIELDS

pub field_ready : (op : FieldOp) (infos : List Info) (info : Info) (n : ℕ) (pictures : List Picture) → IsSound (fields op) (length infos) → AreLawful infos → check (fields op) infos ≡ Ok info
    → AreOfShapes (fields op) infos n pictures → of_field.CanMake op pictures
field_ready op infos info n pictures sound lawful told shapes = can_make_field op infos info n pictures told shapes (is_legal (fields op) infos info sound lawful told)

pub field_made : (op : FieldOp) (infos : List Info) (info c : Info) (n : ℕ) (pictures : List Picture) → c ≡ info_at infos 0 → check (fields op) infos ≡ Ok info → AreOfShapes (fields op) infos n pictures
    → (book : List (List Picture)) → of_field.field_picture op c.field n pictures ≡ make book (fields op) infos info n pictures
field_made op infos info c n pictures first told shapes book =
    ap (λ (d : Info). of_field.field_picture op d.field n pictures) first ∙ field_is op infos info n pictures told shapes book

-- CHOICE

pub choice_ready : (op : RunAct) (infos : List Info) (n : ℕ) (pictures : List Picture) → IsSound (choice op) (length infos) → AreOfShapes (choice op) infos n pictures → IsTrue (run_inputs op (length pictures))
choice_ready op infos n pictures sound shapes = run_ready op infos pictures sound (shapes ∙ each_shape infos n)

pub choice_made : (op : RunAct) (infos : List Info) (info : Info) (n : ℕ) (pictures : List Picture) → IsSound (choice op) (length infos) → check (choice op) infos ≡ Ok info
    → AreOfShapes (choice op) infos n pictures → All IsPicture pictures → (book : List (List Picture)) → picture_shown op n pictures ≡ make book (choice op) infos info n pictures
choice_made op infos info n pictures sound told shapes whole book = run_made op infos info n pictures sound told (shapes ∙ each_shape infos n) whole book

-- ONE COLOUR

plain_shape : (info : Info) (colour : Colour) (infos : List Info) (told : Info) → check (plain info colour) infos ≡ Ok told → info.shape ≡ told.shape
plain_shape info colour infos told is =
    let rest = limits info info.frames (rate_of info) info.shape in
    limits_shape info info.frames (rate_of info) info.shape told (passed (plain_refusals info) rest told is).1

pub plain_legal : (info : Info) (colour : Colour) (infos : List Info) (told : Info) → IsSound (plain info colour) (length infos) → AreLawful infos → check (plain info colour) infos ≡ Ok told → IsLegal info.shape
plain_legal info colour infos told sound lawful is = subst (λ (s : Shape). IsLegal s) (sym (plain_shape info colour infos told is)) (is_legal (plain info colour) infos told sound lawful is)

pub plain_made : (info : Info) (colour : Colour) (infos : List Info) (told : Info) (n : ℕ) (pictures : List Picture) → check (plain info colour) infos ≡ Ok told
    → (book : List (List Picture)) → blank info.shape colour ≡ make book (plain info colour) infos told n pictures
plain_made info colour infos told n pictures is book = blank_listed info.shape colour ∙ ap (λ s. picture_from s (colour_at colour info.shape)) (plain_shape info colour infos told is)
