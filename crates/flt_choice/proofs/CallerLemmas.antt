-- What other crates may cite: a caller who holds an accepted check and the pictures of its clips has the definition's picture.
use Rattle.std.proofs.Common.{◌≡◌, ℕ, ◌<◌, List, length, map, get_or, true, Ok, sym, ap, ◌∙◌, subst, arith}
use Rattle.std.specs.Prelude.{IsTrue}
use Rattle.std.specs.List.{All, range_with_len}
use Rattle.std.proofs.Math.ListN.{get_or-map}
use Rattle.std.proofs.lemmas.List.{length-map}
use Rattle.std.proofs.lemmas.List.FromFn.{fill_by_all}
use Rattle.std.proofs.lemmas.Simd.{map-map}
use Rattle.std.proofs.lemmas.Grind.{common_steps}
use Rattle.fv_plane.specs.declared.format.Info.{Info}
use Rattle.fv_plane.specs.declared.format.Shape.{Shape}
use Rattle.fv_plane.specs.Picture.{Look, look_at, look_in, picture_from, Picture, IsPicture}
use Rattle.clip_term.specs.declared.op.Origin.{Origin}
use Rattle.clip_term.specs.Choice.{RunAct, chosen, differences, run_refusals, run_base, run_inputs, check_run}
use Rattle.clip_term.specs.Terms.{choice, make, no_picture}
use Rattle.clip_term.specs.Refusals.{info_at, no_info, rate_of, limits}
use Rattle.clip_term.specs.Time.{from_input, in_range}
use Rattle.clip_term.proofs.ListedLemmas.{listed}
use Rattle.clip_term.proofs.PassedLemmas.{Passed, passed, limits_shape}
use Rattle.flt_choice.specs.Shown.{number_shown, picture_shown}

-- a picture for each clip, of its shape
abbrev pub HaveShapes : List Info → List Picture → Type 0
HaveShapes infos pictures = map (λ (p : Picture). p.shape) pictures ≡ map (λ (d : Info). d.shape) infos

shape_at : (infos : List Info) (pictures : List Picture) (i : ℕ) → HaveShapes infos pictures → (get_or pictures i no_picture).shape ≡ (info_at infos i).shape
shape_at infos pictures i same =
    sym (get_or-map (λ (p : Picture). p.shape) pictures i no_picture) ∙ ap (λ l. get_or l i no_info.shape) same ∙ get_or-map (λ (d : Info). d.shape) infos i no_info

as_many : (infos : List Info) (pictures : List Picture) → HaveShapes infos pictures → length pictures ≡ length infos
as_many infos pictures same = sym (length-map pictures (λ (p : Picture). p.shape)) ∙ ap length same ∙ length-map infos (λ (d : Info). d.shape)

-- each clip is asked for its frame
pub asked_shapes : (infos : List Info) (n : ℕ) → map (λ (o : Origin). (info_at infos o.input).shape) (map (λ i. in_range infos (from_input i n)) (range_with_len 0 (length infos))) ≡ map (λ (d : Info). d.shape) infos
asked_shapes infos n =
    map-map (λ (o : Origin). (info_at infos o.input).shape) (λ i. in_range infos (from_input i n)) (range_with_len 0 (length infos))
    ∙ sym (fill_by_all (λ i. (info_at infos i).shape) (map (λ (d : Info). d.shape) infos) (length infos) no_info.shape (length-map infos (λ (d : Info). d.shape))
    (λ k there. get_or-map (λ (d : Info). d.shape) infos k no_info))

-- so as many pictures as the op asks
pub run_ready : (op : RunAct) (infos : List Info) (pictures : List Picture) → IsTrue (run_inputs op (length infos)) → HaveShapes infos pictures → IsTrue (run_inputs op (length pictures))
run_ready op infos pictures sound same = subst (λ (k : ℕ). IsTrue (run_inputs op k)) (sym (as_many infos pictures same)) sound

-- THE INPUT THAT IS SHOWN

-- it hangs on the number of clips and the shape of the test alone
chosen_like : (op : RunAct) (infos others : List Info) (n : ℕ) (test : Look) → length others ≡ length infos → (info_at others 0).shape ≡ (info_at infos 0).shape → chosen op others n test ≡ chosen op infos n test
chosen_like op infos others n test long shape = grind (arith, common_steps)

look_of : (pictures : List Picture) (i : ℕ) → look_at (map look_in pictures) i ≡ look_in (get_or pictures i no_picture)
look_of pictures i = get_or-map look_in pictures i no_picture

chosen_is : (op : RunAct) (infos : List Info) (n : ℕ) (pictures : List Picture) → HaveShapes infos pictures → number_shown op n pictures ≡ chosen op infos n (look_at (map look_in pictures) 0)
chosen_is op infos n pictures same = grind (arith, common_steps, get_or-map, shape_at, chosen_like, length-map, as_many, look_of)

like : (a b : Shape) → Passed (differences a b) → b ≡ a
like a b passed = grind (arith, common_steps)

-- it is one of the clips, and has the shape of the op's clip
record IsShown (op : RunAct) (infos : List Info) (k : ℕ) : Type 0 where
  inside : k < length infos
  shape : (info_at infos k).shape ≡ (run_base op infos).shape

is_shown : (op : RunAct) (infos : List Info) (n : ℕ) (test : Look) → run_inputs op (length infos) ≡ true → Passed (run_refusals op infos) → IsShown op infos (chosen op infos n test)
is_shown op infos n test sound passed = grind (arith, common_steps)

-- WHAT IS MADE

-- the picture that is shown has the shape of the op's clip
pub run_shape : (op : RunAct) (infos : List Info) (info : Info) (n : ℕ) (pictures : List Picture) → IsTrue (run_inputs op (length infos)) → check_run op infos ≡ Ok info → HaveShapes infos pictures
    → (picture_shown op n pictures).shape ≡ info.shape
run_shape op infos info n pictures sound told same =
    let c = run_base op infos in
    let parts = passed (run_refusals op infos) (limits c c.frames (rate_of c) c.shape) info told in
    let k = chosen op infos n (look_at (map look_in pictures) 0) in
    ap (λ i. (get_or pictures i no_picture).shape) (chosen_is op infos n pictures same) ∙ shape_at infos pictures k same
    ∙ (is_shown op infos n (look_at (map look_in pictures) 0) sound parts.0).shape ∙ limits_shape c c.frames (rate_of c) c.shape info parts.1

-- and is the picture of the definition, in each book
pub run_made : (op : RunAct) (infos : List Info) (info : Info) (n : ℕ) (pictures : List Picture) → IsTrue (run_inputs op (length infos)) → check_run op infos ≡ Ok info → HaveShapes infos pictures
    → All (λ (p : Picture). IsPicture p) pictures → (book : List (List Picture)) → picture_shown op n pictures ≡ make book (choice op) infos info n pictures
run_made op infos info n pictures sound told same whole book =
    let c = run_base op infos in
    let parts = passed (run_refusals op infos) (limits c c.frames (rate_of c) c.shape) info told in
    let looks = map look_in pictures in
    let k = chosen op infos n (look_at looks 0) in
    let shown = is_shown op infos n (look_at looks 0) sound parts.0 in
    let picture = get_or pictures k no_picture in
    let is = whole k no_picture (let inside = shown.inside in omega (arith, as_many infos pictures same)) in
    let shape = shape_at infos pictures k same ∙ shown.shape ∙ limits_shape c c.frames (rate_of c) c.shape info parts.1 in
    ap (λ i. get_or pictures i no_picture) (chosen_is op infos n pictures same) ∙ sym (listed picture is) ∙ ap (λ s. picture_from s (look_in picture)) shape
    ∙ ap (λ l. picture_from info.shape l) (sym (look_of pictures k))
