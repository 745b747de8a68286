-- Filters on samples of 10 and 16 bits, each on a small clip: the clip that it gives, and the samples of its frames, plane by
-- plane and row by row. What is set by eight bits, as a colour, a bound or a threshold, counts times 4 or 256.
use Rattle.std.specs.Prelude.{◌≡◌, ℕ, List, [], ◌∷◌, map, pos, negsuc, codes, Result, Ok, Err}
use Rattle.std.specs.List.{range_with_len}
use Rattle.fv_plane.specs.declared.format.Info.{Info}
use Rattle.fv_plane.specs.declared.format.PixelType.TheVariants.{Y8, YV24}
use Rattle.fv_plane.specs.declared.format.Field.TheVariants.{Bottom}
use Rattle.fv_plane.specs.Picture.{Picture}
use Rattle.clip_term.specs.declared.fault.FilterFault.{FilterFault}
use Rattle.clip_term.specs.declared.fault.FilterFault.TheVariants.{DepthRefused, FormatDiffers}
use Rattle.clip_term.specs.declared.op.SpaceOp.TheVariants as s
use Rattle.clip_term.specs.declared.op.JoinOp.TheVariants as j
use Rattle.clip_term.specs.declared.op.SoftOp.TheVariants as f
use Rattle.clip_term.specs.declared.op.TimeOp.TheVariants as t
use Rattle.clip_term.specs.declared.field.FieldOp.TheVariants as d
use Rattle.clip_term.specs.declared.run.PlaneStat.TheVariants.{Least, Median}
use Rattle.clip_term.specs.declared.run.RunCompare.TheVariants.{Greater, Equals}
use Rattle.clip_term.specs.Choice.{choose, decide}
use Rattle.clip_term.specs.Expression.{frame_word, plane_word, int_word}
use Rattle.clip_term.specs.Terms.{Act, ClipTerm, applied, no_terms, and_term, source, time, space, joined, soft, fields, choice, info_of, term_picture}
use Rattle.clip_term.specs.ExampleClips.{all_channels, convolution, one, two, samples}
use Rattle.row_laws.specs.SmallStreams.{told}

-- two frames of luma of ten bits, and a frame of 4:4:4 of sixteen bits
abbrev pub g_told : Info
g_told = told Y8 10 2 2 2

abbrev pub c_told : Info
c_told = told YV24 16 2 1 1

abbrev pub book : List (List Picture)
book =
    (record { shape = g_told.shape; planes = ((100 ∷ 200 ∷ []) ∷ (300 ∷ 1023 ∷ []) ∷ []) ∷ [] }
    ∷ record { shape = g_told.shape; planes = ((104 ∷ 0 ∷ []) ∷ (1000 ∷ 4 ∷ []) ∷ []) ∷ [] } ∷ [])
    ∷ (record { shape = c_told.shape; planes = ((1000 ∷ 65535 ∷ []) ∷ []) ∷ ((32768 ∷ 1 ∷ []) ∷ []) ∷ ((0 ∷ 40000 ∷ []) ∷ []) ∷ [] } ∷ [])
    ∷ []

abbrev pub g : ClipTerm
g = applied (source [] 0 g_told) no_terms

abbrev pub c : ClipTerm
c = applied (source [] 1 c_told) no_terms

abbrev pub three : Act → ClipTerm → ClipTerm → ClipTerm → ClipTerm
three act x y z = applied act (and_term x (and_term y (and_term z no_terms)))

-- what a clip shows
abbrev pub shown_by : ClipTerm → Result Info FilterFault → Result (Info × List (List ℕ)) FilterFault
shown_by x (Ok info) = Ok (info, map (λ n. samples (term_picture book x n)) (range_with_len 0 info.frames))
shown_by x (Err fault) = Err fault

abbrev pub shown : ClipTerm → Result (Info × List (List ℕ)) FilterFault
shown x = shown_by x (info_of x)

-- another size, and a frame or two
abbrev pub sized : Info → ℕ → ℕ → Info
sized info width height = record info { shape = record info.shape { width = width; height = height } }

abbrev pub one_frame : Info → List ℕ → Result (Info × List (List ℕ)) FilterFault
one_frame info a = Ok (info, a ∷ [])

abbrev pub two_frames : Info → List ℕ → List ℕ → Result (Info × List (List ℕ)) FilterFault
two_frames info a b = Ok (info, a ∷ b ∷ [])

pub record DeepSpaceRows : Type 0 where
  pub crop : shown (one (space (s.Crop (pos 1) (pos 0) (pos 1) (pos 2))) g) ≡ two_frames (sized g_told 1 2) (200 ∷ 1023 ∷ []) (0 ∷ 4 ∷ [])
  pub flip_horizontal : shown (one (space s.FlipHorizontal) c) ≡ one_frame c_told (65535 ∷ 1000 ∷ 1 ∷ 32768 ∷ 40000 ∷ 0 ∷ [])
  pub flip_vertical : shown (one (space s.FlipVertical) g) ≡ two_frames g_told (300 ∷ 1023 ∷ 100 ∷ 200 ∷ []) (1000 ∷ 4 ∷ 104 ∷ 0 ∷ [])
  -- the right column becomes the upper row
  pub turn_left : shown (one (space s.TurnLeft) g) ≡ two_frames g_told (200 ∷ 1023 ∷ 100 ∷ 300 ∷ []) (0 ∷ 4 ∷ 104 ∷ 1000 ∷ [])
  -- AddBorders(0, 1, 0, 0, $108020): 16, 128 and 32, times 256
  pub borders : shown (one (space (s.AddBorders (pos 0) (pos 1) (pos 0) (pos 0) (pos 1081376))) c)
      ≡ one_frame (sized c_told 2 2) (4096 ∷ 4096 ∷ 1000 ∷ 65535 ∷ 32768 ∷ 32768 ∷ 32768 ∷ 1 ∷ 8192 ∷ 8192 ∷ 0 ∷ 40000 ∷ [])
  -- 65535 less each sample
  pub invert : shown (one (space (s.Invert all_channels)) c) ≡ one_frame c_told (64535 ∷ 0 ∷ 32767 ∷ 65534 ∷ 65535 ∷ 25535 ∷ [])
  -- luma from 16 to 235 and chroma from 16 to 240, times 256
  pub limiter : shown (one (space (s.Limiter (pos 16) (pos 235) (pos 16) (pos 240))) c)
      ≡ one_frame c_told (4096 ∷ 60160 ∷ 32768 ∷ 4096 ∷ 4096 ∷ 40000 ∷ [])
  pub greyscale : shown (one (space s.Greyscale) c) ≡ one_frame c_told (1000 ∷ 65535 ∷ 32768 ∷ 32768 ∷ 32768 ∷ 32768 ∷ [])
  pub swap : shown (one (space s.SwapUV) c) ≡ one_frame c_told (1000 ∷ 65535 ∷ 0 ∷ 40000 ∷ 32768 ∷ 1 ∷ [])
  -- to eight bits each is divided by 256 and rounded, to sixteen it is multiplied by 64
  pub to_eight_bits : shown (one (space (s.ConvertBits (pos 8))) c) ≡ one_frame (told YV24 8 2 1 1) (4 ∷ 255 ∷ 128 ∷ 0 ∷ 0 ∷ 156 ∷ [])
  pub to_sixteen_bits : shown (one (space (s.ConvertBits (pos 16))) g)
      ≡ two_frames (told Y8 16 2 2 2) (6400 ∷ 12800 ∷ 19200 ∷ 65472 ∷ []) (6656 ∷ 0 ∷ 64000 ∷ 256 ∷ [])
  -- these take eight bits alone
  pub to_luma : shown (one (space s.ConvertToY8) c) ≡ Err DepthRefused
  pub chroma_as_luma : shown (one (space s.UToY8) c) ≡ Err DepthRefused

pub record DeepJoinRows : Type 0 where
  pub side_by_side : shown (two (joined j.StackHorizontal) g g)
      ≡ two_frames (sized g_told 4 2) (100 ∷ 200 ∷ 100 ∷ 200 ∷ 300 ∷ 1023 ∷ 300 ∷ 1023 ∷ []) (104 ∷ 0 ∷ 104 ∷ 0 ∷ 1000 ∷ 4 ∷ 1000 ∷ 4 ∷ [])
  pub one_below_the_other : shown (two (joined j.StackVertical) c (one (space s.FlipHorizontal) c))
      ≡ one_frame (sized c_told 2 2) (1000 ∷ 65535 ∷ 65535 ∷ 1000 ∷ 32768 ∷ 1 ∷ 1 ∷ 32768 ∷ 0 ∷ 40000 ∷ 40000 ∷ 0 ∷ [])
  -- with its reverse: halves, rounded up
  pub merge : shown (two (joined j.Merge) g (one (time t.Reverse) g))
      ≡ two_frames g_told (102 ∷ 100 ∷ 650 ∷ 514 ∷ []) (102 ∷ 100 ∷ 650 ∷ 514 ∷ [])
  pub merge_luma : shown (two (joined j.MergeLuma) c (one (space (s.Invert all_channels)) c))
      ≡ one_frame c_told (64535 ∷ 0 ∷ 32768 ∷ 1 ∷ 0 ∷ 40000 ∷ [])
  pub merge_chroma : shown (two (joined j.MergeChroma) c (one (space (s.Invert all_channels)) c))
      ≡ one_frame c_told (1000 ∷ 65535 ∷ 32767 ∷ 65534 ∷ 65535 ∷ 25535 ∷ [])
  -- U, V and Y, in this order
  pub planes : shown (three (joined j.YToUV) (one (space s.FlipVertical) g) (one (space s.FlipHorizontal) g) g)
      ≡ two_frames (told YV24 10 2 2 2) (100 ∷ 200 ∷ 300 ∷ 1023 ∷ 300 ∷ 1023 ∷ 100 ∷ 200 ∷ 200 ∷ 100 ∷ 1023 ∷ 300 ∷ [])
      (104 ∷ 0 ∷ 1000 ∷ 4 ∷ 1000 ∷ 4 ∷ 104 ∷ 0 ∷ 0 ∷ 104 ∷ 4 ∷ 1000 ∷ [])
  -- ten bits and twelve
  pub other_bits : shown (two (joined j.Merge) g (one (space (s.ConvertBits (pos 12))) g)) ≡ Err FormatDiffers

pub record DeepSoftRows : Type 0 where
  -- TemporalSoften(1, 2, 0): what differs by more than 8 counts as the middle one; before the first frame it counts again
  pub soften : shown (one (soft (f.TemporalSoften (pos 1) (pos 2) (pos 0))) g)
      ≡ two_frames g_told (101 ∷ 200 ∷ 300 ∷ 1023 ∷ []) (103 ∷ 0 ∷ 1000 ∷ 4 ∷ [])
  -- GeneralConvolution(1, "0 0 0 1 2 1 0 0 0"): a quarter of the left one, twice the middle one and the right one, and 4
  pub convolve : shown (one (convolution (pos 1) (codes "0 0 0 1 2 1 0 0 0")) g)
      ≡ two_frames g_told (129 ∷ 179 ∷ 484 ∷ 846 ∷ []) (82 ∷ 30 ∷ 755 ∷ 257 ∷ [])
  -- a bias of 255 and of -255, times 256, stays within 0 to 65535
  pub brightest : shown (one (convolution (pos 255) (codes "0 0 0 0 1 0 0 0 0")) c)
      ≡ one_frame c_told (65535 ∷ 65535 ∷ 65535 ∷ 65281 ∷ 65280 ∷ 65535 ∷ [])
  pub darkest : shown (one (convolution (negsuc 254) (codes "0 0 0 0 1 0 0 0 0")) c) ≡ one_frame c_told (0 ∷ 255 ∷ 0 ∷ 0 ∷ 0 ∷ 0 ∷ [])

pub record DeepFieldRows : Type 0 where
  -- the even rows and then the odd rows, at twice the rate
  pub separate : shown (one (fields d.SeparateFields) g)
      ≡ Ok (record (told Y8 10 2 1 4) { num = 50 }, (100 ∷ 200 ∷ []) ∷ (300 ∷ 1023 ∷ []) ∷ (104 ∷ 0 ∷ []) ∷ (1000 ∷ 4 ∷ []) ∷ [])
  -- where the bottom field is the first, the odd rows come first
  pub separate_bottom : shown (one (fields d.SeparateFields) (one (fields d.AssumeBFF) g))
      ≡ Ok (record (told Y8 10 2 1 4) { num = 50; field = Bottom }, (300 ∷ 1023 ∷ []) ∷ (100 ∷ 200 ∷ []) ∷ (1000 ∷ 4 ∷ []) ∷ (104 ∷ 0 ∷ []) ∷ [])
  -- rows of the first and of the second frame in turn, at half the rate
  pub weave : shown (one (fields d.Weave) g)
      ≡ Ok (record (told Y8 10 2 4 1) { den = 2 }, (100 ∷ 200 ∷ 104 ∷ 0 ∷ 300 ∷ 1023 ∷ 1000 ∷ 4 ∷ []) ∷ [])
  pub woven_again : shown (one (fields d.Weave) (one (fields d.SeparateFields) g)) ≡ shown g
  pub swap : shown (one (fields d.SwapFields) g) ≡ two_frames g_told (300 ∷ 1023 ∷ 100 ∷ 200 ∷ []) (1000 ∷ 4 ∷ 104 ∷ 0 ∷ [])

pub record DeepChoiceRows : Type 0 where
  -- ConditionalFilter(g, g, g.Reverse, "YPlaneMin", ">", "50"): the least samples are 100 and 0
  pub by_the_least : shown (three (choice (decide (plane_word 0 Least ∷ []) Greater (int_word (pos 50) ∷ []))) g g (one (time t.Reverse) g))
      ≡ two_frames g_told (100 ∷ 200 ∷ 300 ∷ 1023 ∷ []) (100 ∷ 200 ∷ 300 ∷ 1023 ∷ [])
  -- ConditionalFilter(g, g, g.FlipVertical, "YPlaneMedian", "==", "4"): the medians are 200 and 4
  pub by_the_median : shown (three (choice (decide (plane_word 0 Median ∷ []) Equals (int_word (pos 4) ∷ []))) g g (one (space s.FlipVertical) g))
      ≡ two_frames g_told (300 ∷ 1023 ∷ 100 ∷ 200 ∷ []) (104 ∷ 0 ∷ 1000 ∷ 4 ∷ [])
  -- ConditionalSelect(g, "current_frame", g.FlipVertical, g)
  pub by_the_frame : shown (three (choice (choose (frame_word ∷ []))) g (one (space s.FlipVertical) g) g)
      ≡ two_frames g_told (300 ∷ 1023 ∷ 100 ∷ 200 ∷ []) (104 ∷ 0 ∷ 1000 ∷ 4 ∷ [])
