-- A choice shows one of the frames of its inputs.
use Rattle.std.proofs.Common.{◌≡◌, ℕ, ◌<◌, List, [], ◌∷◌, length, map, Ok, refl, sym, ap, ◌∙◌, arith}
use Rattle.std.specs.Prelude.{IsTrue, Result}
use Rattle.std.specs.Result.{IsOkAnd}
use Rattle.std.specs.List.{All}
use Rattle.std.proofs.lemmas.Grind.{common_steps}
use Rattle.fv_plane.specs.declared.format.Info.{Info}
use Rattle.fv_plane.specs.declared.format.Shape.{Shape}
use Rattle.fv_plane.specs.Picture.{Picture, IsPicture}
use Rattle.clip_term.specs.declared.fault.FilterFault.{FilterFault}
use Rattle.clip_term.specs.declared.op.Origin.{Origin}
use Rattle.clip_term.specs.declared.term.Term.{Term, out-Term}
use Rattle.clip_term.specs.Choice.{RunAct, run_inputs}
use Rattle.clip_term.specs.Terms.{Act, act_of, choice, term_of, clips, asked, asked_picture, check, make, term_picture, term_pictures, IsSoundTerm}
use Rattle.clip_term.specs.Refusals.{info_at}
use Rattle.flt_choice.specs.Shown.{picture_shown}
use Rattle.flt_choice.proofs.CallerLemmas.{HaveShapes, asked_shapes, run_ready, run_made}
use Rattle.clip_reference.proofs.RangeLemmas.{ShowsInputs, shows_inputs}
use Rattle.clip_reference.proofs.TermLemmas.{Gathered, made_whole}

-- the info of what isn't refused
record Told (r : Result Info FilterFault) : Type 0 where
  info : Info
  is : r ≡ Ok info

told_by : (r : Result Info FilterFault) (P : Info → Type 0) → IsOkAnd r P → Told r
told_by r P ok = grind (arith, common_steps)

shapes_shown : (infos : List Info) (shown : Origin → Picture) → ShowsInputs infos shown → (os : List Origin)
    → map (λ (p : Picture). p.shape) (map shown os) ≡ map (λ (o : Origin). (info_at infos o.input).shape) os
shapes_shown infos shown shows [] = refl
shapes_shown infos shown shows (o ∷ os) =
    ap (λ (s : Shape). s ∷ map (λ (p : Picture). p.shape) (map shown os)) (shows o)
    ∙ ap (λ (l : List Shape). (info_at infos o.input).shape ∷ l) (shapes_shown infos shown shows os)

-- the picture that is shown is that of the term
pub record Chosen (book : List (List Picture)) (t : Term) (op : RunAct) (n : ℕ) (pictures : List Picture) : Type 0 where
  pub ready : IsTrue (run_inputs op (length pictures))
  pub picture : picture_shown op n pictures ≡ term_picture book (term_of t) n

pub chosen : (book : List (List Picture)) (t : Term) (op : RunAct) (n : ℕ) (infos : List Info) (pictures : List Picture) → act_of (out-Term t).op ≡ choice op → IsSoundTerm (term_of t)
    → Gathered book (act_of (out-Term t).op) (out-Term t).inputs.items infos n
    → pictures ≡ map (asked_picture (term_pictures book (clips (map term_of (out-Term t).inputs.items)))) (asked (act_of (out-Term t).op) infos n) → All IsPicture pictures
    → Chosen book t op n pictures
chosen book t op n infos pictures is sound g same whole =
    let shown = asked_picture (term_pictures book (clips (map term_of (out-Term t).inputs.items))) in
    let known = rw is at g.known in
    let told = told_by (check (choice op) infos) (λ (info : Info). n < info.frames) known.shown in
    let listed : pictures ≡ map shown (asked (choice op) infos n) = same ∙ ap (λ (a : Act). map shown (asked a infos n)) is in
    let shapes : HaveShapes infos pictures
    = ap (map (λ (p : Picture). p.shape)) listed
    ∙ shapes_shown infos shown (shows_inputs book (clips (map term_of (out-Term t).inputs.items)) infos g.all) (asked (choice op) infos n) ∙ asked_shapes infos n in
    record {
      ready = run_ready op infos pictures known.sound shapes;
      picture = run_made op infos told.info n pictures known.sound told.is shapes whole book
          ∙ ap (λ (a : Act). make book a infos told.info n pictures) (sym is)
          ∙ made_whole book t n infos told.info pictures sound g.all (ap (λ (a : Act). check a infos) is ∙ told.is) same;
    }
