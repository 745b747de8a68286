-- The filters that choose a clip for each frame (AviSynth+ wiki, "ConditionalSelect" and "ConditionalFilter"). The first clip
-- is the test.
use Rattle.std.specs.Prelude.{ℕ, ◌+◌, ◌-◌, Bool, not, ◌&&◌, if◌then◌else◌, ◌==◌, nat_le, ℤ, pos, int_lt, int_le, unsigned_abs, List, [], ◌∷◌, length, map, Option, Some, None, Result}
use Rattle.std.specs.List.{range_with_len}
use Rattle.std.specs.Ordering.{int_eq}
use Rattle.fv_plane.specs.declared.format.Info.{Info}
use Rattle.fv_plane.specs.declared.format.Shape.{Shape}
use Rattle.fv_plane.specs.Format.{planes}
use Rattle.fv_plane.specs.Picture.{Look, look_at}
use Rattle.fv_plane.specs.Refusals.{Refusals, first_fault}
use Rattle.clip_term.specs.declared.fault.FilterFault.{FilterFault}
use Rattle.clip_term.specs.declared.fault.FilterFault.TheVariants.{FormatDiffers, SizeDiffers}
use Rattle.clip_term.specs.declared.filter.Filter.{Filter}
use Rattle.clip_term.specs.declared.filter.Filter.TheVariants as filters
use Rattle.clip_term.specs.declared.op.Origin.{Origin}
use Rattle.clip_term.specs.Refusals.{rate_of, info_at, same_format, same_size, disagreements, unless, limits}
use Rattle.clip_term.specs.Time.{from_input, in_range}
use Rattle.clip_term.specs.declared.run.RunCompare.{RunCompare}
use Rattle.clip_term.specs.declared.run.RunCompare.TheVariants.{Equals, Greater, Less}
use Rattle.clip_term.specs.declared.run.RunOp.{RunOp}
use Rattle.clip_term.specs.declared.run.RunOp.TheVariants as op
use Rattle.clip_term.specs.Expression.{expr_view, is_number, Word, words, tree_of, value, stat_of}

-- what is done: the op, with words in place of boxes and buffers
pub data RunAct : Type 0 where
  choose : List Word → RunAct
  decide : List Word → RunCompare → List Word → RunAct

abbrev pub run_act : RunOp → RunAct
run_act (op.Select e) = choose (words (expr_view e) [])
run_act (op.Filter e by f) = decide (words (expr_view e) []) by (words (expr_view f) [])

abbrev pub holds : RunCompare → ℤ → ℤ → Bool
holds Equals a b = int_eq a b
holds Greater a b = int_lt b a
holds Less a b = int_lt a b

-- ---- the input that is shown: the test is 0

-- of so many inputs, the source of this number, where there is one
abbrev pub source_of : ℕ → Option ℤ → ℕ
source_of inputs None = 0
source_of inputs (Some z) = if int_le (pos 0) z && int_lt z (pos (inputs - 1)) then 1 + unsigned_abs z else 0

abbrev pub side_of : RunCompare → Option ℤ → Option ℤ → ℕ
side_of by (Some a) (Some b) = if holds by a b then 1 else 2
side_of by _ _ = 2

-- the second source differs from the first
abbrev pub differences : Shape → Shape → Refusals FilterFault
differences a b = (FormatDiffers, not (same_format b a)) ∷ (SizeDiffers, not (same_size b a)) ∷ []

-- What is said of a filter: how many clips it takes, and whether its expressions are numbers, of planes that the test has;
-- then, of its clips, the info that stays, what it refuses, in this order, and the input that is shown at n.
pub record RunRow : Type 0 where
  pub filter : Filter
  pub inputs : ℕ → Bool
  pub numbers : Info → Bool
  pub base : List Info → Info
  pub refusals : List Info → Refusals FilterFault
  pub chosen : List Info → ℕ → Look → ℕ

abbrev pub run_row : RunAct → RunRow
run_row (choose e) = record {
  filter = filters.ConditionalSelect;
  inputs = λ k. nat_le 2 k;
  numbers = λ test. is_number (planes test.shape.kind) (tree_of e);
  base = λ infos. info_at infos 0;
  refusals = λ infos. disagreements infos;
  chosen = λ infos n test. source_of (length infos) (value n (stat_of (info_at infos 0).shape test) (tree_of e));
}
run_row (decide e by f) = record {
  filter = filters.ConditionalFilter;
  inputs = λ k. k == 3;
  numbers = λ test. is_number (planes test.shape.kind) (tree_of e) && is_number (planes test.shape.kind) (tree_of f);
  base = λ infos. info_at infos 1;
  refusals = λ infos. differences (info_at infos 1).shape (info_at infos 2).shape;
  chosen = λ infos n test.
      let stats = stat_of (info_at infos 0).shape test in
      side_of by (value n stats (tree_of e)) (value n stats (tree_of f));
}

-- The words of a row.

abbrev pub run_filter : RunAct → Filter
run_filter op = (run_row op).filter

abbrev pub run_inputs : RunAct → ℕ → Bool
run_inputs op = (run_row op).inputs

abbrev pub run_numbers : RunAct → Info → Bool
run_numbers op = (run_row op).numbers

abbrev pub run_base : RunAct → List Info → Info
run_base op = (run_row op).base

abbrev pub run_refusals : RunAct → List Info → Refusals FilterFault
run_refusals op = (run_row op).refusals

abbrev pub chosen : RunAct → List Info → ℕ → Look → ℕ
chosen op = (run_row op).chosen

abbrev pub check_run : RunAct → List Info → Result Info FilterFault
check_run op infos =
    let c = run_base op infos in
    unless (first_fault (run_refusals op infos)) (limits c c.frames (rate_of c) c.shape)

-- every clip, at n
abbrev pub run_asked : RunAct → List Info → ℕ → List Origin
run_asked op infos n = map (λ i. in_range infos (from_input i n)) (range_with_len 0 (length infos))

abbrev pub run_at : RunAct → List Info → ℕ → List Look → Look
run_at op infos n looks = look_at looks (chosen op infos n (look_at looks 0))
