-- A term over its inputs, as its clip.
use Rattle.std.proofs.Common.{◌≡◌, ℕ, zero, suc, ◌<◌, List, [], ◌∷◌, length, map, get_or, refl, sym, ap, ◌∙◌, arith, subst}
use Rattle.std.specs.Prelude.{Result, Ok, Err, slice_index_or}
use Rattle.std.specs.Result.{IsOk, IsOkAnd}
use Rattle.std.proofs.lemmas.List.Elements.{All-get_or}
use Rattle.std.proofs.lemmas.Bool.Decides.{nat_tests}
use Rattle.std.proofs.lemmas.Grind.{common_steps}
use Rattle.fv_plane.specs.declared.format.Info.{Info}
use Rattle.fv_plane.specs.declared.format.Shape.{Shape}
use Rattle.fv_plane.specs.Picture.{IsPictureOf, Picture, blank, look_in, picture_from}
use Rattle.fv_plane.specs.declared.format.Colour.{Colour}
use Rattle.fv_plane.specs.Format.{IsLegal}
use Rattle.clip_term.specs.declared.fault.FilterFault.{FilterFault}
use Rattle.clip_term.specs.declared.op.Origin.{Origin}
use Rattle.clip_term.specs.declared.term.Term.{Term, out-Term}
use Rattle.clip_term.specs.declared.term.Term.TheFolds.{fold_out-Term}
use Rattle.clip_term.specs.Refusals.{info_at, rate_of, limits}
use Rattle.clip_term.specs.Blank.{colour_at, plain_refusals}
use Rattle.clip_term.specs.Terms.{Act, source, plain, act_of, ClipTerm, applied, term_of, term_step, clips, check, then_check, asked, info_of, infos_of, inputs_of, term_sample, term_picture, term_pictures, asked_picture, no_picture, frame_in, make, IsSound, IsSoundTerm, AreSoundTerms, AreLawful, IsAsked}
use Rattle.clip_term.proofs.PictureLemmas.{makes_pictures}
use Rattle.clip_term.proofs.AskedLemmas.{asks_in_range}
use Rattle.clip_term.proofs.PassedLemmas.{both_ok, passed, limits_shape}
use Rattle.clip_term.proofs.LawfulLemmas.{checks_lawful}
use Rattle.clip_term.proofs.SoundLemmas.{counted, sounds_lawful}
use Rattle.clip_reference.specs.Sources.{HasSource, HasSources, HaveSources}
use Rattle.clip_reference.proofs.InfoLemmas.{told}
use Rattle.clip_term.proofs.ListedLemmas.{listed, blank_listed}

pub node : (t : Term) → term_of t ≡ applied (act_of (out-Term t).op) (clips (map term_of (out-Term t).inputs.items))
unfolding term_of
node t = fold_out-Term ClipTerm term_step t

-- an op and the terms of its inputs, as a caller gives them
pub record Accepted (book : List (List Picture)) (op : Act) (ts : List Term) (n : ℕ) : Type 0 where
  pub sound : IsSound op (inputs_of (clips (map term_of ts)))
  pub sounds : AreSoundTerms (clips (map term_of ts))
  pub shown : IsOkAnd (then_check op (told ts)) (λ (info : Info). n < info.frames)
  pub source : HasSource book op
  pub sources : HaveSources book (clips (map term_of ts))

pub accepted : (book : List (List Picture)) (t : Term) (n : ℕ) → IsSoundTerm (term_of t) → IsOkAnd (info_of (term_of t)) (λ (info : Info). n < info.frames)
    → HasSources book (term_of t) → Accepted book (act_of (out-Term t).op) (out-Term t).inputs.items n
unfolding IsSoundTerm info_of HasSources
accepted book t n sound shown sources =
    let a = rw (node t) at sound in
    let b = rw (node t) at shown in
    let c = rw (node t) at sources in
    record { sound = a.0; sounds = a.1; shown = b; source = c.0; sources = c.1 }

-- no input is refused, and the op is not
record Both (op : Act) (r : Result (List Info) FilterFault) (n : ℕ) : Type 0 where
  infos : List Info
  info : Info
  infos_are : r ≡ Ok infos
  info_is : check op infos ≡ Ok info
  inside : n < info.frames

op_told : (op : Act) (infos : List Info) (r : Result Info FilterFault) (n : ℕ) → check op infos ≡ r → IsOkAnd r (λ (info : Info). n < info.frames) → Both op (Ok infos) n
op_told op infos r n e shown = grind (arith, common_steps)

both_told : (op : Act) (r : Result (List Info) FilterFault) (n : ℕ) → IsOkAnd (then_check op r) (λ (info : Info). n < info.frames) → Both op r n
both_told op r n shown = grind (arith, nat_tests, op_told)

ok_is : (r : Result (List Info) FilterFault) (infos : List Info) → r ≡ Ok infos → IsOk r
ok_is r infos e = rw e refl

-- no input is refused
pub inputs_ok : (book : List (List Picture)) (op : Act) (ts : List Term) (n : ℕ) → Accepted book op ts n → IsOk (told ts)
inputs_ok book op ts n a = let both = both_told op (told ts) n a.shown in ok_is (told ts) both.infos both.infos_are

-- the info of a term, and its frame
whole : (book : List (List Picture)) (op : Act) (ts : List Term) (n : ℕ) (infos : List Info) (info : Info) → told ts ≡ Ok infos → check op infos ≡ Ok info
    → term_picture book (applied op (clips (map term_of ts))) n ≡ picture_from info.shape (term_sample book (applied op (clips (map term_of ts))) n)
unfolding info_of
whole book op ts n infos info e f = rw (e, f) refl

-- A SOURCE

-- the frame is there
pub record HasFrame (book : List (List Picture)) (number n : ℕ) : Type 0 where
  pub listed : number < length book
  pub inside : n < length (slice_index_or book number [])

pub source_frame : (book : List (List Picture)) (name : List ℕ) (number : ℕ) (info : Info) (ts : List Term) (n : ℕ) → Accepted book (source name number info) ts n → HasFrame book number n
source_frame book name number info ts n a = grind (arith, common_steps)

pub source_picture : (book : List (List Picture)) (name : List ℕ) (number : ℕ) (info : Info) (ts : List Term) (n : ℕ) → Accepted book (source name number info) ts n
    → frame_in book number n info.shape ≡ term_picture book (applied (source name number info) (clips (map term_of ts))) n
unfolding term_sample
source_picture book name number info ts n a =
    let both = both_told (source name number info) (told ts) n a.shown in
    let picture = frame_in book number n info.shape in
    let is = All-get_or (IsPictureOf info) (slice_index_or book number []) n (record { shape = info.shape; planes = [] }) (source_frame book name number info ts n a).inside a.source.pictures in
    let same = both.info_is in
    let shape : info.shape ≡ both.info.shape = (let i : info ≡ both.info = cc in ap (λ (d : Info). d.shape) i) in
    sym (whole book (source name number info) ts n both.infos both.info both.infos_are both.info_is
    ∙ ap (λ (s : Shape). picture_from s (look_in picture)) (sym shape) ∙ ap (λ (s : Shape). picture_from s (look_in picture)) (sym is.shape) ∙ listed picture is.whole)

-- THE INPUTS, one by one

-- what an input has
pub record Input (book : List (List Picture)) (ts : List Term) (infos : List Info) (i : ℕ) (t : Term) : Type 0 where
  pub sound : IsSoundTerm (term_of t)
  pub sources : HasSources book (term_of t)
  pub info : info_of (term_of t) ≡ Ok (info_at infos i)
  pub picture : slice_index_or (term_pictures book (clips (map term_of ts))) i (λ n. no_picture) ≡ term_picture book (term_of t)

pub input : (book : List (List Picture)) (ts : List Term) (infos : List Info) (i : ℕ) (d : Term) → i < length ts → told ts ≡ Ok infos → AreSoundTerms (clips (map term_of ts))
    → HaveSources book (clips (map term_of ts)) → Input book ts infos i (get_or ts i d)
unfolding infos_of AreSoundTerms HaveSources
input book [] infos i d h e sounds sources = absurd (omega arith)
input book (t ∷ ts) infos zero d h e sounds sources =
    let both = both_ok (info_of (term_of t)) (told ts) infos e in
    record { sound = sounds.0; sources = sources.0; info = rw (← both.whole) both.first_is; picture = refl }
input book (t ∷ ts) infos (suc i) d h e sounds sources =
    let both = both_ok (info_of (term_of t)) (told ts) infos e in
    let later = input book ts both.others i d (omega arith) both.others_are sounds.1 sources.1 in
    record { sound = later.sound; sources = later.sources; info = rw (← both.whole) later.info; picture = later.picture }

pub inputs_counted : (ts : List Term) → inputs_of (clips (map term_of ts)) ≡ length ts
inputs_counted [] = refl
inputs_counted (t ∷ ts) = let later = inputs_counted ts in omega arith

-- what the infos of the inputs have
pub record Known (op : Act) (ts : List Term) (infos : List Info) (n : ℕ) : Type 0 where
  pub sound : IsSound op (length infos)
  pub lawful : AreLawful infos
  pub shown : IsOkAnd (check op infos) (λ (info : Info). n < info.frames)
  pub long : length infos ≡ length ts

pub known : (book : List (List Picture)) (op : Act) (ts : List Term) (infos : List Info) (n : ℕ) → Accepted book op ts n → told ts ≡ Ok infos → Known op ts infos n
known book op ts infos n a e =
    let count = counted (clips (map term_of ts)) infos e in
    record {
      sound = subst (λ (k : ℕ). IsSound op k) count a.sound;
      lawful = sounds_lawful (clips (map term_of ts)) infos a.sounds e;
      shown = (let shown = a.shown in rw e at shown);
      long = sym count ∙ inputs_counted ts;
    }

-- ONE COLOUR

pub record IsBlank (book : List (List Picture)) (info : Info) (colour : Colour) (ts : List Term) (n : ℕ) : Type 0 where
  pub legal : IsLegal info.shape
  pub picture : blank info.shape colour ≡ term_picture book (applied (plain info colour) (clips (map term_of ts))) n

pub is_blank : (book : List (List Picture)) (info : Info) (colour : Colour) (ts : List Term) (n : ℕ) → Accepted book (plain info colour) ts n → IsBlank book info colour ts n
unfolding term_sample
is_blank book info colour ts n a =
    let both = both_told (plain info colour) (told ts) n a.shown in
    let k = known book (plain info colour) ts both.infos n a both.infos_are in
    let rest = limits info info.frames (rate_of info) info.shape in
    let same = limits_shape info info.frames (rate_of info) info.shape both.info (passed (plain_refusals info) rest both.info both.info_is).1 in
    record {
      legal = rw same (checks_lawful (plain info colour) both.infos both.info k.sound k.lawful both.info_is).shape;
      picture = blank_listed info.shape colour ∙ ap (λ (s : Shape). picture_from s (colour_at colour info.shape)) same
          ∙ sym (whole book (plain info colour) ts n both.infos both.info both.infos_are both.info_is);
    }

-- THE FRAMES THAT ARE ASKED

-- a frame that is asked is one of an input
pub one_asked : (op : Act) (ts : List Term) (infos : List Info) (n : ℕ) → Known op ts infos n → (origins : List Origin) → origins ≡ asked op infos n → (i : ℕ) (d : Origin) → i < length origins
    → IsAsked infos (get_or origins i d)
one_asked op ts infos n k origins e i d h = search (arith, asks_in_range)

-- a term that is accepted, with the infos of its inputs as the code has them
pub record Gathered (book : List (List Picture)) (op : Act) (ts : List Term) (infos : List Info) (n : ℕ) : Type 0 where
  pub accepted : Accepted book op ts n
  pub all : told ts ≡ Ok infos
  pub known : Known op ts infos n

pub gathered : (book : List (List Picture)) (t : Term) (n : ℕ) (ts : List Term) (infos : List Info) → IsSoundTerm (term_of t)
    → IsOkAnd (info_of (term_of t)) (λ (info : Info). n < info.frames) → HasSources book (term_of t) → ts ≡ (out-Term t).inputs.items → told ts ≡ Ok infos
    → Gathered book (act_of (out-Term t).op) (out-Term t).inputs.items infos n
gathered book t n ts infos sound shown sources same e =
    let a = accepted book t n sound shown sources in
    let f = rw same at e in
    record { accepted = a; all = f; known = known book (act_of (out-Term t).op) (out-Term t).inputs.items infos n a f }

-- what the code needs of the input of a frame that is asked
pub record Turn (book : List (List Picture)) (ts : List Term) (o : Origin) (t : Term) : Type 0 where
  pub inside : o.input < length ts
  pub sound : IsSoundTerm (term_of t)
  pub shown : IsOkAnd (info_of (term_of t)) (λ (info : Info). o.number < info.frames)
  pub sources : HasSources book (term_of t)
  pub picture : asked_picture (term_pictures book (clips (map term_of ts))) o ≡ term_picture book (term_of t) o.number

pub turn : (book : List (List Picture)) (op : Act) (ts : List Term) (infos : List Info) (n : ℕ) → Gathered book op ts infos n → (origins : List Origin) → origins ≡ asked op infos n → (i : ℕ) (d : Origin) → i < length origins
    → (t e : Term) → t ≡ get_or ts (get_or origins i d).input e → Turn book ts (get_or origins i d) t
turn book op ts infos n g origins same i d h t e is =
    let k = g.known in
    let o = get_or origins i d in
    let one = one_asked op ts infos n k origins same i d h in
    let inside : o.input < length ts = (let below = one.input in let long = k.long in omega arith) in
    let at = input book ts infos o.input e inside g.all g.accepted.sounds g.accepted.sources in
    rw is (record {
      inside = inside;
      sound = at.sound;
      shown = rw at.info one.number;
      sources = at.sources;
      picture = ap (λ p. p o.number) at.picture;
    })

-- THE FRAME

pub no_refusal : (r : Result Info FilterFault) (P : Info → Type 0) (fault : FilterFault) → IsOkAnd r P → r ≡ Err fault → ⊥
no_refusal r P fault ok e = let h = rw e at ok in h

-- what the op makes of the frames that it asks is the frame of the term
pub made_whole : (book : List (List Picture)) (t : Term) (n : ℕ) (infos : List Info) (info : Info) (pictures : List Picture) → IsSoundTerm (term_of t)
    → told (out-Term t).inputs.items ≡ Ok infos → check (act_of (out-Term t).op) infos ≡ Ok info
    → pictures ≡ map (asked_picture (term_pictures book (clips (map term_of (out-Term t).inputs.items)))) (asked (act_of (out-Term t).op) infos n)
    → make book (act_of (out-Term t).op) infos info n pictures ≡ term_picture book (term_of t) n
unfolding info_of
made_whole book t n infos info pictures sound e f same =
    let op = act_of (out-Term t).op in
    let row = clips (map term_of (out-Term t).inputs.items) in
    let law = makes_pictures book (applied op row) n infos info (let s = rw (node t) at sound in s) e (rw e f) in
    rw (same, node t) law
