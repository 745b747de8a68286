-- The group Soft: worked rows, each computed.
use Rattle.std.specs.Prelude.{◌≡◌, [], ◌∷◌, pos, negsuc, Ok, Err}
use Rattle.std.specs.Prelude.{codes, Some}
use Rattle.fv_plane.specs.declared.format.PixelType.TheVariants.{Y8, YV12, YV16, YV24}
use Rattle.fv_plane.specs.declared.format.Field.TheVariants.{Progressive, Top}
use Rattle.fv_plane.specs.declared.format.Tag.TheVariants.{Jpeg, Mpeg2}
use Rattle.clip_term.specs.declared.fault.FilterFault.TheVariants.{BadRange}
use Rattle.clip_term.specs.declared.op.SpaceOp.TheVariants as s
use Rattle.clip_term.specs.declared.op.SoftOp.TheVariants as f
use Rattle.clip_term.specs.Terms.{space, soft}
use Rattle.clip_term.specs.ExampleClips.{rendered, a12, a16, a24, a8, b8, blank_clip, convolution, m4, none_given, one, q8}

pub record SoftRows : Type 0 where
  -- Y4MSource("m4.y4m").ConvertToY8.TemporalSoften(1, 255, 0)
  pub soften_of_all : rendered (one (soft (f.TemporalSoften (pos 1) (pos 255) (pos 0))) (one (space s.ConvertToY8) m4))
      ≡ Ok (record { shape = record { kind = Y8; bits = 8; width = 1; height = 1 }; frames = 4; num = 25; den = 1; field = Progressive; par = record { num = 1; den = 1 }; tag = Jpeg }, ((0 ∷ []) ∷ (1 ∷ []) ∷ (2 ∷ []) ∷ (3 ∷ []) ∷ []))
  -- Y4MSource("a12.y4m").TemporalSoften(1, 60, 90)
  pub soften_within_a_threshold : rendered (one (soft (f.TemporalSoften (pos 1) (pos 60) (pos 90))) a12)
      ≡ Ok (record { shape = record { kind = YV12; bits = 8; width = 4; height = 4 }; frames = 2; num = 30; den = 1; field = Top; par = record { num = 4; den = 3 }; tag = Mpeg2 }, ((130 ∷ 183 ∷ 9 ∷ 238 ∷ 120 ∷ 26 ∷ 81 ∷ 66 ∷ 176 ∷ 240 ∷ 118 ∷ 194 ∷ 66 ∷ 118 ∷ 6 ∷ 124 ∷ 208 ∷ 157 ∷ 93 ∷ 199 ∷ 79 ∷ 36 ∷ 58 ∷ 208 ∷ []) ∷ (64 ∷ 67 ∷ 5 ∷ 2 ∷ 114 ∷ 110 ∷ 83 ∷ 76 ∷ 162 ∷ 160 ∷ 109 ∷ 104 ∷ 79 ∷ 109 ∷ 196 ∷ 138 ∷ 11 ∷ 170 ∷ 212 ∷ 84 ∷ 76 ∷ 135 ∷ 46 ∷ 188 ∷ []) ∷ []))
  -- Y4MSource("a16.y4m").TemporalSoften(2, 0, 255)
  pub soften_chroma_alone : rendered (one (soft (f.TemporalSoften (pos 2) (pos 0) (pos 255))) a16)
      ≡ Ok (record { shape = record { kind = YV16; bits = 8; width = 4; height = 2 }; frames = 2; num = 25; den = 1; field = Progressive; par = record { num = 1; den = 1 }; tag = Jpeg }, ((121 ∷ 176 ∷ 128 ∷ 233 ∷ 215 ∷ 74 ∷ 28 ∷ 16 ∷ 186 ∷ 195 ∷ 163 ∷ 104 ∷ 138 ∷ 183 ∷ 92 ∷ 148 ∷ []) ∷ (222 ∷ 190 ∷ 76 ∷ 30 ∷ 215 ∷ 150 ∷ 72 ∷ 232 ∷ 152 ∷ 208 ∷ 192 ∷ 124 ∷ 174 ∷ 168 ∷ 111 ∷ 178 ∷ []) ∷ []))
  -- Y4MSource("m4.y4m").TemporalSoften(8, 0, 0)
  pub soften_too_wide : rendered (one (soft (f.TemporalSoften (pos 8) (pos 0) (pos 0))) m4)
      ≡ Err BadRange
  -- Y4MSource("m4.y4m").TemporalSoften(1, 256, 0)
  pub soften_over_a_threshold : rendered (one (soft (f.TemporalSoften (pos 1) (pos 256) (pos 0))) m4)
      ≡ Err BadRange
  -- BlankClip(length=1, width=3, height=1, pixel_type="Y8", color_yuv=$200000).GeneralConvolution(5, "0 0 0 1 2 1 0 0 0")
  pub convolve_a_plain_picture : rendered (one (convolution (pos 5) (codes "0 0 0 1 2 1 0 0 0")) (blank_clip (record none_given { length = Some (pos 1); width = Some (pos 3); height = Some (pos 1); pixel_type = Some (codes "Y8"); color_yuv = Some (pos 2097152) })))
      ≡ Ok (record { shape = record { kind = Y8; bits = 8; width = 3; height = 1 }; frames = 1; num = 24; den = 1; field = Progressive; par = record { num = 0; den = 0 }; tag = Jpeg }, ((37 ∷ 37 ∷ 37 ∷ []) ∷ []))
  -- Y4MSource("a8.y4m").GeneralConvolution(128, "1 2 1 0 0 0 -1 -2 -1")
  pub convolve_edges : rendered (one (convolution (pos 128) (codes "1 2 1 0 0 0 -1 -2 -1")) a8)
      ≡ Ok (record { shape = record { kind = Y8; bits = 8; width = 4; height = 3 }; frames = 3; num = 25; den = 1; field = Progressive; par = record { num = 1; den = 1 }; tag = Jpeg }, ((255 ∷ 255 ∷ 255 ∷ 0 ∷ 216 ∷ 255 ∷ 255 ∷ 255 ∷ 0 ∷ 15 ∷ 255 ∷ 255 ∷ []) ∷ (255 ∷ 255 ∷ 0 ∷ 0 ∷ 126 ∷ 220 ∷ 91 ∷ 0 ∷ 0 ∷ 7 ∷ 253 ∷ 0 ∷ []) ∷ (255 ∷ 255 ∷ 228 ∷ 239 ∷ 255 ∷ 183 ∷ 31 ∷ 0 ∷ 0 ∷ 0 ∷ 0 ∷ 0 ∷ []) ∷ []))
  -- Y4MSource("b8.y4m").GeneralConvolution(255, "0 -1 0 -1 -3 0 1 0 0")
  pub convolve_negative_sum : rendered (one (convolution (pos 255) (codes "0 -1 0 -1 -3 0 1 0 0")) b8)
      ≡ Ok (record { shape = record { kind = Y8; bits = 8; width = 2; height = 2 }; frames = 2; num = 25; den = 1; field = Progressive; par = record { num = 1; den = 1 }; tag = Jpeg }, ((255 ∷ 255 ∷ 255 ∷ 255 ∷ []) ∷ (255 ∷ 255 ∷ 255 ∷ 255 ∷ []) ∷ []))
  -- Y4MSource("a24.y4m").GeneralConvolution(0-3, "1 1 1 1 1  1 0 0 0 1  1 0 9 0 1  1 0 0 0 1  1 1 1 1 2")
  pub convolve_five_by_five : rendered (one (convolution (negsuc 2) (codes "1 1 1 1 1  1 0 0 0 1  1 0 9 0 1  1 0 0 0 1  1 1 1 1 2")) a24)
      ≡ Ok (record { shape = record { kind = YV24; bits = 8; width = 3; height = 2 }; frames = 2; num = 25; den = 1; field = Progressive; par = record { num = 1; den = 1 }; tag = Jpeg }, ((180 ∷ 131 ∷ 121 ∷ 182 ∷ 143 ∷ 197 ∷ 164 ∷ 128 ∷ 104 ∷ 199 ∷ 153 ∷ 161 ∷ 70 ∷ 121 ∷ 63 ∷ 123 ∷ 132 ∷ 116 ∷ []) ∷ (183 ∷ 134 ∷ 129 ∷ 149 ∷ 110 ∷ 70 ∷ 199 ∷ 156 ∷ 167 ∷ 159 ∷ 189 ∷ 156 ∷ 173 ∷ 170 ∷ 156 ∷ 172 ∷ 182 ∷ 171 ∷ []) ∷ []))
  -- Y4MSource("q8.y4m").GeneralConvolution
  pub convolve_without_matrix : rendered (one (convolution (pos 0) (codes "0 0 0 0 1 0 0 0 0")) q8)
      ≡ Ok (record { shape = record { kind = Y8; bits = 8; width = 2; height = 2 }; frames = 1; num = 25; den = 1; field = Progressive; par = record { num = 1; den = 1 }; tag = Jpeg }, ((1 ∷ 2 ∷ 3 ∷ 4 ∷ []) ∷ []))
  -- Y4MSource("q8.y4m").GeneralConvolution(256)
  pub convolve_past_the_bias : rendered (one (convolution (pos 256) (codes "0 0 0 0 1 0 0 0 0")) q8)
      ≡ Err BadRange
  -- Y4MSource("q8.y4m").GeneralConvolution(0-256)
  pub convolve_below_the_bias : rendered (one (convolution (negsuc 255) (codes "0 0 0 0 1 0 0 0 0")) q8)
      ≡ Err BadRange
  -- Y4MSource("q8.y4m").GeneralConvolution(0-255, "0 0 0 0 100 0 0 0 0")
  pub convolve_at_the_least_bias : rendered (one (convolution (negsuc 254) (codes "0 0 0 0 100 0 0 0 0")) q8)
      ≡ Ok (record { shape = record { kind = Y8; bits = 8; width = 2; height = 2 }; frames = 1; num = 25; den = 1; field = Progressive; par = record { num = 1; den = 1 }; tag = Jpeg }, ((0 ∷ 0 ∷ 0 ∷ 0 ∷ []) ∷ []))
