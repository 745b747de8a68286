-- The group Time: worked rows, each computed.
use Rattle.std.specs.Prelude.{◌≡◌, [], ◌∷◌, pos, negsuc, Ok, Err}
use Rattle.std.specs.Prelude.{codes, Some}
use Rattle.fv_plane.specs.declared.format.PixelType.TheVariants.{Y8}
use Rattle.fv_plane.specs.declared.format.Field.TheVariants.{Progressive}
use Rattle.fv_plane.specs.declared.format.Tag.TheVariants.{Jpeg}
use Rattle.clip_term.specs.declared.fault.FilterFault.TheVariants.{BadRange, EmptyClip, FormatDiffers, LengthLimit, RateLimit, SizeDiffers}
use Rattle.clip_term.specs.declared.op.TrimBound.TheVariants.{Last, Length, End}
use Rattle.clip_term.specs.declared.op.TimeOp.TheVariants as t
use Rattle.clip_term.specs.declared.op.SpaceOp.TheVariants as s
use Rattle.clip_term.specs.Terms.{applied, no_terms, and_term, time, space}
use Rattle.clip_term.specs.ExampleClips.{rendered, a8, all_channels, b8, blank_clip, m3, m4, none_given, one, p, q8, two}

pub record TimeRows : Type 0 where
  -- Y4MSource("m4.y4m") / Trim(0,0)
  pub trim_to_the_end : rendered (one (time (t.Trim (pos 0) (Last (pos 0)))) m4)
      ≡ Ok (record { shape = record { kind = Y8; bits = 8; width = 1; height = 1 }; frames = 4; num = 25; den = 1; field = Progressive; par = record { num = 1; den = 1 }; tag = Jpeg }, ((0 ∷ []) ∷ (1 ∷ []) ∷ (2 ∷ []) ∷ (3 ∷ []) ∷ []))
  -- Y4MSource("m4.y4m") / Trim(0,-1)
  pub trim_one_frame : rendered (one (time (t.Trim (pos 0) (Last (negsuc 0)))) m4)
      ≡ Ok (record { shape = record { kind = Y8; bits = 8; width = 1; height = 1 }; frames = 1; num = 25; den = 1; field = Progressive; par = record { num = 1; den = 1 }; tag = Jpeg }, ((0 ∷ []) ∷ []))
  -- Y4MSource("m4.y4m") / Trim(2,1)
  pub trim_backwards : rendered (one (time (t.Trim (pos 2) (Last (pos 1)))) m4)
      ≡ Err BadRange
  -- Y4MSource("m4.y4m").Trim(1,length=2)
  pub trim_a_length : rendered (one (time (t.Trim (pos 1) (Length (pos 2)))) m4)
      ≡ Ok (record { shape = record { kind = Y8; bits = 8; width = 1; height = 1 }; frames = 2; num = 25; den = 1; field = Progressive; par = record { num = 1; den = 1 }; tag = Jpeg }, ((1 ∷ []) ∷ (2 ∷ []) ∷ []))
  -- Y4MSource("m4.y4m").Trim(1,length=0)
  pub trim_no_length : rendered (one (time (t.Trim (pos 1) (Length (pos 0)))) m4)
      ≡ Err EmptyClip
  -- Y4MSource("m4.y4m").Trim(1,end=9)
  pub trim_past_the_end : rendered (one (time (t.Trim (pos 1) (End (pos 9)))) m4)
      ≡ Ok (record { shape = record { kind = Y8; bits = 8; width = 1; height = 1 }; frames = 3; num = 25; den = 1; field = Progressive; par = record { num = 1; den = 1 }; tag = Jpeg }, ((1 ∷ []) ∷ (2 ∷ []) ∷ (3 ∷ []) ∷ []))
  -- Y4MSource("m4.y4m").Trim(1,end=0)
  pub trim_end_before_first : rendered (one (time (t.Trim (pos 1) (End (pos 0)))) m4)
      ≡ Err BadRange
  -- Y4MSource("m4.y4m").Trim(4,0)
  pub trim_from_past_the_end : rendered (one (time (t.Trim (pos 4) (Last (pos 0)))) m4)
      ≡ Err BadRange
  -- Y4MSource("m4.y4m").SelectEvery(3,0,2)
  pub select_every_keeps_the_rate : rendered (one (time (t.SelectEvery (pos 3) (pos 0 ∷ pos 2 ∷ []))) m4)
      ≡ Ok (record { shape = record { kind = Y8; bits = 8; width = 1; height = 1 }; frames = 3; num = 50; den = 3; field = Progressive; par = record { num = 1; den = 1 }; tag = Jpeg }, ((0 ∷ []) ∷ (2 ∷ []) ∷ (3 ∷ []) ∷ []))
  -- Y4MSource("m4.y4m").SelectEvery(2,3,0)
  pub select_every_of_uneven_lengths : rendered (one (time (t.SelectEvery (pos 2) (pos 3 ∷ pos 0 ∷ []))) m4)
      ≡ Ok (record { shape = record { kind = Y8; bits = 8; width = 1; height = 1 }; frames = 4; num = 25; den = 1; field = Progressive; par = record { num = 1; den = 1 }; tag = Jpeg }, ((3 ∷ []) ∷ (0 ∷ []) ∷ (3 ∷ []) ∷ (2 ∷ []) ∷ []))
  -- Y4MSource("m4.y4m").SelectEvery(2,2,0)
  pub select_every_of_a_short_offset : rendered (one (time (t.SelectEvery (pos 2) (pos 2 ∷ pos 0 ∷ []))) m4)
      ≡ Ok (record { shape = record { kind = Y8; bits = 8; width = 1; height = 1 }; frames = 4; num = 25; den = 1; field = Progressive; par = record { num = 1; den = 1 }; tag = Jpeg }, ((2 ∷ []) ∷ (0 ∷ []) ∷ (2 ∷ []) ∷ (2 ∷ []) ∷ []))
  -- Y4MSource("m4.y4m").SelectEvery(2,0,4)
  pub select_every_past_the_end : rendered (one (time (t.SelectEvery (pos 2) (pos 0 ∷ pos 4 ∷ []))) m4)
      ≡ Err EmptyClip
  -- Y4MSource("m4.y4m").SelectEvery(0,4)
  pub select_every_without_step : rendered (one (time (t.SelectEvery (pos 0) (pos 4 ∷ []))) m4)
      ≡ Err BadRange
  -- a = Y4MSource("m3.y4m") / Interleave(a, a.Trim(2,-1))
  pub interleave_of_uneven_lengths : rendered (two (time t.Interleave) m3 (one (time (t.Trim (pos 2) (Last (negsuc 0)))) m3))
      ≡ Ok (record { shape = record { kind = Y8; bits = 8; width = 1; height = 1 }; frames = 5; num = 50; den = 1; field = Progressive; par = record { num = 1; den = 1 }; tag = Jpeg }, ((0 ∷ []) ∷ (2 ∷ []) ∷ (1 ∷ []) ∷ (2 ∷ []) ∷ (2 ∷ []) ∷ []))
  -- a = Y4MSource("m4.y4m") / b = Y4MSource("m4.y4m").Reverse / Interleave(a, b)
  pub interleave_with_reverse : rendered (two (time t.Interleave) m4 (one (time t.Reverse) m4))
      ≡ Ok (record { shape = record { kind = Y8; bits = 8; width = 1; height = 1 }; frames = 8; num = 50; den = 1; field = Progressive; par = record { num = 1; den = 1 }; tag = Jpeg }, ((0 ∷ []) ∷ (3 ∷ []) ∷ (1 ∷ []) ∷ (2 ∷ []) ∷ (2 ∷ []) ∷ (1 ∷ []) ∷ (3 ∷ []) ∷ (0 ∷ []) ∷ []))
  -- a = Y4MSource("m4.y4m").AssumeFPS(2147483647) / Interleave(a, a)
  pub interleave_past_the_rate : rendered (let a = one (time (t.AssumeFPS (pos 2147483647) (pos 1))) m4 in two (time t.Interleave) a a)
      ≡ Err RateLimit
  -- Interleave(Y4MSource("a8.y4m"), Y4MSource("q8.y4m"), Y4MSource("p.y4m"))
  pub interleave_of_formats_before_sizes : rendered (applied (time t.Interleave) (and_term a8 (and_term q8 (and_term p no_terms))))
      ≡ Err FormatDiffers
  -- a = BlankClip(length=1, width=1, height=1, pixel_type="Y8", color_yuv=$200000) / a + Y4MSource("m4.y4m")
  pub splice_with_a_blank_clip : rendered (two (time t.UnalignedSplice) (blank_clip (record none_given { length = Some (pos 1); width = Some (pos 1); height = Some (pos 1); pixel_type = Some (codes "Y8"); color_yuv = Some (pos 2097152) })) m4)
      ≡ Ok (record { shape = record { kind = Y8; bits = 8; width = 1; height = 1 }; frames = 5; num = 24; den = 1; field = Progressive; par = record { num = 0; den = 0 }; tag = Jpeg }, ((32 ∷ []) ∷ (0 ∷ []) ∷ (1 ∷ []) ∷ (2 ∷ []) ∷ (3 ∷ []) ∷ []))
  -- Y4MSource("a8.y4m") ++ Y4MSource("b8.y4m")
  pub splice_of_sizes : rendered (two (time t.AlignedSplice) a8 b8)
      ≡ Err SizeDiffers
  -- a = Y4MSource("m3.y4m") / AlignedSplice(a, a.Trim(2,-1), a.Reverse)
  pub splice_of_three : rendered (applied (time t.AlignedSplice) (and_term m3 (and_term (one (time (t.Trim (pos 2) (Last (negsuc 0)))) m3) (and_term (one (time t.Reverse) m3) no_terms))))
      ≡ Ok (record { shape = record { kind = Y8; bits = 8; width = 1; height = 1 }; frames = 7; num = 25; den = 1; field = Progressive; par = record { num = 1; den = 1 }; tag = Jpeg }, ((0 ∷ []) ∷ (1 ∷ []) ∷ (2 ∷ []) ∷ (2 ∷ []) ∷ (2 ∷ []) ∷ (1 ∷ []) ∷ (0 ∷ []) ∷ []))
  -- Y4MSource("m4.y4m").FreezeFrame(1,2,0)
  pub freeze_frame : rendered (one (time (t.FreezeFrame (pos 1) (pos 2) (pos 0))) m4)
      ≡ Ok (record { shape = record { kind = Y8; bits = 8; width = 1; height = 1 }; frames = 4; num = 25; den = 1; field = Progressive; par = record { num = 1; den = 1 }; tag = Jpeg }, ((0 ∷ []) ∷ (0 ∷ []) ∷ (0 ∷ []) ∷ (3 ∷ []) ∷ []))
  -- Y4MSource("m4.y4m").FreezeFrame(2,9,1)
  pub freeze_frame_past_the_end : rendered (one (time (t.FreezeFrame (pos 2) (pos 9) (pos 1))) m4)
      ≡ Ok (record { shape = record { kind = Y8; bits = 8; width = 1; height = 1 }; frames = 4; num = 25; den = 1; field = Progressive; par = record { num = 1; den = 1 }; tag = Jpeg }, ((0 ∷ []) ∷ (1 ∷ []) ∷ (1 ∷ []) ∷ (1 ∷ []) ∷ []))
  -- Y4MSource("m4.y4m").FreezeFrame(1,2,4)
  pub freeze_frame_of_no_frame : rendered (one (time (t.FreezeFrame (pos 1) (pos 2) (pos 4))) m4)
      ≡ Err BadRange
  -- Y4MSource("m4.y4m").FreezeFrame(1,2,0-1)
  pub freeze_frame_from_below_zero : rendered (one (time (t.FreezeFrame (pos 1) (pos 2) (negsuc 0))) m4)
      ≡ Err BadRange
  -- Y4MSource("m4.y4m").FreezeFrame(2,1,0)
  pub freeze_frame_backwards : rendered (one (time (t.FreezeFrame (pos 2) (pos 1) (pos 0))) m4)
      ≡ Err BadRange
  -- Y4MSource("m3.y4m").SelectEven
  pub select_even : rendered (one (time t.SelectEven) m3)
      ≡ Ok (record { shape = record { kind = Y8; bits = 8; width = 1; height = 1 }; frames = 2; num = 25; den = 2; field = Progressive; par = record { num = 1; den = 1 }; tag = Jpeg }, ((0 ∷ []) ∷ (2 ∷ []) ∷ []))
  -- Y4MSource("m3.y4m").SelectOdd
  pub select_odd : rendered (one (time t.SelectOdd) m3)
      ≡ Ok (record { shape = record { kind = Y8; bits = 8; width = 1; height = 1 }; frames = 1; num = 25; den = 2; field = Progressive; par = record { num = 1; den = 1 }; tag = Jpeg }, ((1 ∷ []) ∷ []))
  -- Y4MSource("q8.y4m").SelectOdd
  pub select_odd_of_one_frame : rendered (one (time t.SelectOdd) q8)
      ≡ Err EmptyClip
  -- Y4MSource("m4.y4m").Loop(0, 1, 2)
  pub loop_without_a_part : rendered (one (time (t.Loop (pos 0) (pos 1) (pos 2))) m4)
      ≡ Ok (record { shape = record { kind = Y8; bits = 8; width = 1; height = 1 }; frames = 2; num = 25; den = 1; field = Progressive; par = record { num = 1; den = 1 }; tag = Jpeg }, ((0 ∷ []) ∷ (3 ∷ []) ∷ []))
  -- Y4MSource("m4.y4m").Loop(3, 1, 2)
  pub loop_of_a_part : rendered (one (time (t.Loop (pos 3) (pos 1) (pos 2))) m4)
      ≡ Ok (record { shape = record { kind = Y8; bits = 8; width = 1; height = 1 }; frames = 8; num = 25; den = 1; field = Progressive; par = record { num = 1; den = 1 }; tag = Jpeg }, ((0 ∷ []) ∷ (1 ∷ []) ∷ (2 ∷ []) ∷ (1 ∷ []) ∷ (2 ∷ []) ∷ (1 ∷ []) ∷ (2 ∷ []) ∷ (3 ∷ []) ∷ []))
  -- Y4MSource("m4.y4m").Loop(0)
  pub loop_of_nothing : rendered (one (time (t.Loop (pos 0) (pos 0) (pos 3))) m4)
      ≡ Err EmptyClip
  -- Y4MSource("m4.y4m").Loop(2,1,4)
  pub loop_past_the_end : rendered (one (time (t.Loop (pos 2) (pos 1) (pos 4))) m4)
      ≡ Err BadRange
  -- Y4MSource("m4.y4m").DuplicateFrame(2,0,2)
  pub duplicate_frame : rendered (one (time (t.DuplicateFrame (pos 2 ∷ pos 0 ∷ pos 2 ∷ []))) m4)
      ≡ Ok (record { shape = record { kind = Y8; bits = 8; width = 1; height = 1 }; frames = 7; num = 25; den = 1; field = Progressive; par = record { num = 1; den = 1 }; tag = Jpeg }, ((0 ∷ []) ∷ (0 ∷ []) ∷ (1 ∷ []) ∷ (2 ∷ []) ∷ (2 ∷ []) ∷ (2 ∷ []) ∷ (3 ∷ []) ∷ []))
  -- Y4MSource("m4.y4m").DuplicateFrame(4)
  pub duplicate_frame_past_the_end : rendered (one (time (t.DuplicateFrame (pos 4 ∷ []))) m4)
      ≡ Err BadRange
  -- Y4MSource("m4.y4m").DeleteFrame(1, 1, 3)
  pub delete_frame_twice : rendered (one (time (t.DeleteFrame (pos 1 ∷ pos 1 ∷ pos 3 ∷ []))) m4)
      ≡ Ok (record { shape = record { kind = Y8; bits = 8; width = 1; height = 1 }; frames = 2; num = 25; den = 1; field = Progressive; par = record { num = 1; den = 1 }; tag = Jpeg }, ((0 ∷ []) ∷ (2 ∷ []) ∷ []))
  -- Y4MSource("m3.y4m").DeleteFrame(2,1,0)
  pub delete_every_frame : rendered (one (time (t.DeleteFrame (pos 2 ∷ pos 1 ∷ pos 0 ∷ []))) m3)
      ≡ Err EmptyClip
  -- Y4MSource("m4.y4m").AssumeFPS(50, 4)
  pub assume_fps : rendered (one (time (t.AssumeFPS (pos 50) (pos 4))) m4)
      ≡ Ok (record { shape = record { kind = Y8; bits = 8; width = 1; height = 1 }; frames = 4; num = 25; den = 2; field = Progressive; par = record { num = 1; den = 1 }; tag = Jpeg }, ((0 ∷ []) ∷ (1 ∷ []) ∷ (2 ∷ []) ∷ (3 ∷ []) ∷ []))
  -- Y4MSource("m4.y4m").AssumeFPS(50, 0)
  pub assume_no_fps : rendered (one (time (t.AssumeFPS (pos 50) (pos 0))) m4)
      ≡ Err BadRange
  -- Y4MSource("m4.y4m").ChangeFPS(50)
  pub change_fps_to_twice : rendered (one (time (t.ChangeFPS (pos 50) (pos 1))) m4)
      ≡ Ok (record { shape = record { kind = Y8; bits = 8; width = 1; height = 1 }; frames = 8; num = 50; den = 1; field = Progressive; par = record { num = 1; den = 1 }; tag = Jpeg }, ((0 ∷ []) ∷ (0 ∷ []) ∷ (1 ∷ []) ∷ (1 ∷ []) ∷ (2 ∷ []) ∷ (2 ∷ []) ∷ (3 ∷ []) ∷ (3 ∷ []) ∷ []))
  -- Y4MSource("m4.y4m").ChangeFPS(10)
  pub change_fps_to_less : rendered (one (time (t.ChangeFPS (pos 10) (pos 1))) m4)
      ≡ Ok (record { shape = record { kind = Y8; bits = 8; width = 1; height = 1 }; frames = 2; num = 10; den = 1; field = Progressive; par = record { num = 1; den = 1 }; tag = Jpeg }, ((0 ∷ []) ∷ (2 ∷ []) ∷ []))
  -- Y4MSource("m4.y4m").ChangeFPS(2147483647)
  pub change_fps_to_much : rendered (one (time (t.ChangeFPS (pos 2147483647) (pos 1))) m4)
      ≡ Err LengthLimit
  -- Y4MSource("m4.y4m").ApplyRange(1, 2, "Invert")
  pub apply_range_of_invert : rendered (two (time (t.ApplyRange (pos 1) (pos 2))) m4 (one (space (s.Invert all_channels)) m4))
      ≡ Ok (record { shape = record { kind = Y8; bits = 8; width = 1; height = 1 }; frames = 4; num = 25; den = 1; field = Progressive; par = record { num = 1; den = 1 }; tag = Jpeg }, ((0 ∷ []) ∷ (254 ∷ []) ∷ (253 ∷ []) ∷ (3 ∷ []) ∷ []))
  -- Y4MSource("m4.y4m").ApplyRange(1, 4, "Invert")
  pub apply_range_past_the_end : rendered (two (time (t.ApplyRange (pos 1) (pos 4))) m4 (one (space (s.Invert all_channels)) m4))
      ≡ Err BadRange
  -- Y4MSource("a8.y4m").ApplyRange(1, 2, "CropBottom", 1)
  pub apply_range_of_another_size : rendered (two (time (t.ApplyRange (pos 1) (pos 2))) a8 (one (space (s.CropBottom (pos 1))) a8))
      ≡ Err SizeDiffers
  -- Y4MSource("a8.y4m").ApplyRange(1, 9, "CropBottom", 1)
  pub apply_range_past_the_end_of_another_size : rendered (two (time (t.ApplyRange (pos 1) (pos 9))) a8 (one (space (s.CropBottom (pos 1))) a8))
      ≡ Err BadRange
