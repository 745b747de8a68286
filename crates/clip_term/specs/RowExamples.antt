-- Rows that are about an info, a text or a maker, each computed.
use Rattle.std.specs.Prelude.{◌≡◌, [], ◌∷◌, pos, negsuc, Ok, Err, true, false}
use Rattle.std.specs.Prelude.{codes, Some, None}
use Rattle.fv_plane.specs.declared.format.PixelType.TheVariants.{Y8, YV12, YV411}
use Rattle.clip_term.specs.declared.fault.FilterFault.TheVariants.{BadRange, BadText, TooLarge, LengthLimit, NotWholeChroma, EmptyClip}
use Rattle.clip_term.specs.declared.op.TimeOp.TheVariants as t
use Rattle.clip_term.specs.declared.op.JoinOp.TheVariants as j
use Rattle.clip_term.specs.declared.op.SoftOp.TheVariants as f
use Rattle.clip_term.specs.declared.filter.Filter.TheVariants as filter
use Rattle.clip_term.specs.Terms.{time, joined, soft, info_of, term_sample, term_picture, make, asked}
use Rattle.clip_term.specs.Blank.{check_blank, default_clip}
use Rattle.fv_plane.specs.Format.{format_named}
use Rattle.clip_term.specs.Filters.{channels_named, matrix_named, declared_mode}
use Rattle.clip_term.specs.Time.{from_input}
use Rattle.clip_term.specs.ExampleClips.{samples, blank_clip, none_given, one, m4, m4_told, book}

pub record OtherRows : Type 0 where
  -- BlankClip(length=1, width=4096, height=4096, pixel_type="Y8")
  pub largest : info_of (blank_clip (record none_given { length = Some (pos 1); width = Some (pos 4096); height = Some (pos 4096); pixel_type = Some (codes "Y8") }))
      ≡ Ok (record default_clip { shape = record { kind = Y8; bits = 8; width = 4096; height = 4096 }; frames = 1 })
  pub last_of_largest : term_sample book (blank_clip (record none_given { length = Some (pos 1); width = Some (pos 4096); height = Some (pos 4096); pixel_type = Some (codes "Y8") })) 0 0 4095 4095 ≡ 16
  pub too_large : info_of (blank_clip (record none_given { length = Some (pos 1); width = Some (pos 4096); height = Some (pos 4096); pixel_type = Some (codes "YV12") })) ≡ Err TooLarge
  -- BlankClip(length=1000000), then .Loop(2)
  pub longest : info_of (blank_clip (record none_given { length = Some (pos 1000000) })) ≡ Ok (record default_clip { frames = 1000000 })
  pub looped_longest : info_of (one (time (t.Loop (pos 2) (pos 0) (pos 999999))) (blank_clip (record none_given { length = Some (pos 1000000) }))) ≡ Err LengthLimit
  -- refusals of BlankClip count in the order of its arguments
  pub blank_text_before_rate : check_blank default_clip (record none_given { pixel_type = Some (codes "x"); fps = Some (pos 0) }) ≡ Err BadText
  pub blank_size_before_text : check_blank default_clip (record none_given { pixel_type = Some (codes "x"); width = Some (negsuc 0) }) ≡ Err BadRange
  pub blank_odd : check_blank default_clip (record none_given { pixel_type = Some (codes "Yv411"); width = Some (pos 642) }) ≡ Err NotWholeChroma
  pub blank_of_no_frames : check_blank default_clip (record none_given { length = Some (pos 0) }) ≡ Err EmptyClip
  pub blank_of_no_colour : check_blank default_clip (record none_given { color_yuv = Some (pos 16777216) }) ≡ Err BadRange
  -- texts
  pub channel_unknown : channels_named (codes "Q") ≡ Err BadText
  pub channels_in_any_case : channels_named (codes "vYv") ≡ Ok (record { y = true; u = false; v = true })
  pub no_channels : channels_named [] ≡ Ok (record { y = false; u = false; v = false })
  pub matrix_too_short : matrix_named (codes "1 2 3") ≡ None
  pub matrix_with_gaps : matrix_named (codes " 1 2 3\n-4 05 6\t7  -1024 1024 ") ≡ Some (pos 1 ∷ pos 2 ∷ pos 3 ∷ negsuc 3 ∷ pos 5 ∷ pos 6 ∷ pos 7 ∷ negsuc 1023 ∷ pos 1024 ∷ [])
  pub matrix_past_its_bound : matrix_named (codes "1 2 3 4 5 6 7 8 1025") ≡ None
  pub matrix_with_a_sign_alone : matrix_named (codes "1 2 3 4 - 6 7 8 9") ≡ None
  pub matrix_with_a_plus : matrix_named (codes "1 2 3 4 +5 6 7 8 9") ≡ None
  pub format_in_any_case : format_named (codes "yV411") ≡ Some (record { kind = YV411; bits = 8 })
  pub format_of_ten_bits : format_named (codes "yuv420p10") ≡ Some (record { kind = YV12; bits = 10 })
  pub format_unknown : format_named (codes "YV13") ≡ None
  -- modes
  pub modes : (declared_mode filter.Y4MSource ∷ declared_mode filter.Limiter ∷ declared_mode filter.TemporalSoften ∷ declared_mode filter.Crop ∷ []) ≡ (Some 3 ∷ None ∷ Some 2 ∷ Some 1 ∷ [])
  -- Merge of m4 and its Reverse at 3: what is made of the two frames
  pub made_of_two_frames : samples (make book (joined j.Merge) (m4_told ∷ m4_told ∷ []) m4_told 3 (term_picture book m4 3 ∷ term_picture book (one (time t.Reverse) m4) 3 ∷ [])) ≡ (2 ∷ [])
  -- the frames that TemporalSoften asks at both ends
  pub soften_asks_at_the_start : asked (soft (f.TemporalSoften (pos 2) (pos 0) (pos 0))) (m4_told ∷ []) 0 ≡ (from_input 0 0 ∷ from_input 0 0 ∷ from_input 0 0 ∷ from_input 0 1 ∷ from_input 0 2 ∷ [])
  pub soften_asks_at_the_end : asked (soft (f.TemporalSoften (pos 1) (pos 9) (pos 9))) (m4_told ∷ []) 3 ≡ (from_input 0 2 ∷ from_input 0 3 ∷ from_input 0 3 ∷ [])
