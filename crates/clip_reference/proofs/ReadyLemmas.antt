-- Filters that are ready to make frames.
use Rattle.std.proofs.Common.{◌≡◌, ℕ, ◌+◌, ◌-◌, ◌*◌, ◌≤◌, List, [], length, map, ◌∙◌, arith, true}
use Rattle.std.specs.Prelude.{Result, Ok, Option, None, ◌||◌, ◌==◌}
use Rattle.std.proofs.lemmas.List.FromFn.{length-map-range_with_len}
use Rattle.std.proofs.lemmas.Bool.Decides.{nat_tests}
use Rattle.std.proofs.lemmas.Grind.{common_steps}
use Rattle.fv_plane.specs.declared.format.Info.{Info}
use Rattle.fv_plane.specs.declared.format.Colour.{Colour}
use Rattle.fv_plane.specs.Picture.{Picture, look_in, picture_from}
use Rattle.clip_term.specs.declared.fault.FilterFault.{FilterFault}
use Rattle.fv_io.specs.declared.text.Text.{Text}
use Rattle.clip_term.specs.declared.op.Op.{Op}
use Rattle.clip_term.specs.declared.op.Op.TheVariants as code_op
use Rattle.clip_term.specs.declared.op.SoftOp.TheVariants as op
use Rattle.clip_term.specs.declared.run.RunOp.{RunOp}
use Rattle.fv_plane.specs.Refusals.{first_fault}
use Rattle.clip_term.specs.Refusals.{info_at, rate_of, nat_of, unless, limits}
use Rattle.clip_term.specs.Time.{from_input, in_range}
use Rattle.clip_term.specs.Space.{space_refusals, space_shape}
use Rattle.clip_term.specs.Terms.{Act, source, plain, time, space, joined, soft, fields, choice, act_of, sample, make, check, asked, IsSound, AreLawful}
use Rattle.clip_term.proofs.PassedLemmas.{both}
use Rattle.clip_reference.specs.Ready.{IsReady, IsFilter, IsMade}

-- what a filter makes is the same in each book
pub made_same : (op : Act) (infos : List Info) (info : Info) (n : ℕ) (pictures : List Picture) (k : ℕ) → IsReady op infos k → (book : List (List Picture))
    → picture_from info.shape (sample [] op infos n (map look_in pictures)) ≡ make book op infos info n pictures
made_same op infos info n pictures k ready book = grind (arith, common_steps)

no_fault : (o : Option FilterFault) (rest : Result Info FilterFault) (info : Info) → unless o rest ≡ Ok info → o ≡ None
no_fault o rest info e = grind (arith, common_steps)

small_matrix : (k : ℕ) → k == 9 || k == 25 ≡ true → k ≤ 25
small_matrix k e = grind (arith, nat_tests)

-- a filter that is accepted is ready for the frames that it asks
pub ready : (inner : Act) (infos : List Info) (info : Info) (n k : ℕ) → IsMade inner → IsSound inner (length infos) → AreLawful infos → check inner infos ≡ Ok info → k ≡ length (asked inner infos n)
    → IsReady inner infos k
ready (source name number told) infos info n k filter sound lawful e long = absurd filter
ready (plain told colour) infos info n k filter sound lawful e long = absurd filter
ready (time inner) infos info n k filter sound lawful e long = omega arith
ready (space inner) infos info n k filter sound lawful e long =
    let c = info_at infos 0 in
    (omega arith, omega arith, no_fault (first_fault (space_refusals inner c.shape)) (limits c c.frames (rate_of c) (space_shape inner c.shape)) info e, (lawful 0 (omega arith)).shape)
ready (joined inner) infos info n k filter sound lawful e long = long ∙ length-map-range_with_len (λ i. in_range infos (from_input i n)) 0 (length infos)
ready (soft (op.TemporalSoften radius luma chroma)) infos info n k filter sound lawful e long = (
  let one = sound.0 in omega arith,
  long ∙ length-map-range_with_len (λ i. in_range infos (from_input 0 (n + i - nat_of radius))) 0 (2 * nat_of radius + 1),
  (let one = sound.0 in (lawful 0 (omega arith)).shape),
)
ready (soft (op.GeneralConvolution bias matrix)) infos info n k filter sound lawful e long =
    let one = sound.0 in
    let tests = both (length matrix.entries == 9 || length matrix.entries == 25) _ sound.1 in
    (omega arith, (omega arith, small_matrix (length matrix.entries) tests.0), (lawful 0 (omega arith)).shape)
ready (fields inner) infos info n k filter sound lawful e long = omega arith
ready (choice inner) infos info n k filter sound lawful e long = absurd filter

-- an op that is neither a source nor a clip of one colour
pub filter_is : (code : Op) → ((name : Text) (number : ℕ) (told : Info) → code ≡ code_op.Source name number told → ⊥)
    → ((told : Info) (colour : Colour) → code ≡ code_op.Blank told colour → ⊥) → IsFilter (act_of code)
filter_is code no_source no_blank = grind (arith, common_steps)

-- nor a choice
pub made_is : (code : Op) → IsFilter (act_of code) → ((inner : RunOp) → code ≡ code_op.Run inner → ⊥) → IsMade (act_of code)
made_is code filter no_choice = grind (arith, common_steps)
