-- The group Join: worked rows, each computed.
use Rattle.std.specs.Prelude.{◌≡◌, [], ◌∷◌, Ok, Err}
use Rattle.fv_plane.specs.declared.format.PixelType.TheVariants.{Y8, YV12, YV24}
use Rattle.fv_plane.specs.declared.format.Field.TheVariants.{Progressive}
use Rattle.fv_plane.specs.declared.format.Tag.TheVariants.{Jpeg}
use Rattle.clip_term.specs.declared.fault.FilterFault.TheVariants.{FormatDiffers, SizeDiffers}
use Rattle.clip_term.specs.declared.op.TimeOp.TheVariants as t
use Rattle.clip_term.specs.declared.op.SpaceOp.TheVariants as s
use Rattle.clip_term.specs.declared.op.JoinOp.TheVariants as j
use Rattle.clip_term.specs.Terms.{applied, no_terms, and_term, time, space, joined}
use Rattle.clip_term.specs.ExampleClips.{rendered, a12, a16, a24, a8, all_channels, b12, b8, c12, m4, one, q8, two}

pub record JoinRows : Type 0 where
  -- StackHorizontal(Y4MSource("c12.y4m"), Y4MSource("a12.y4m"))
  pub stack_horizontal : rendered (two (joined j.StackHorizontal) c12 a12)
      ≡ Ok (record { shape = record { kind = YV12; bits = 8; width = 6; height = 4 }; frames = 2; num = 25; den = 1; field = Progressive; par = record { num = 1; den = 1 }; tag = Jpeg }, ((162 ∷ 156 ∷ 130 ∷ 183 ∷ 14 ∷ 238 ∷ 90 ∷ 40 ∷ 127 ∷ 26 ∷ 80 ∷ 57 ∷ 76 ∷ 158 ∷ 190 ∷ 240 ∷ 126 ∷ 194 ∷ 247 ∷ 82 ∷ 52 ∷ 127 ∷ 6 ∷ 110 ∷ 24 ∷ 208 ∷ 143 ∷ 41 ∷ 93 ∷ 199 ∷ 207 ∷ 81 ∷ 36 ∷ 16 ∷ 71 ∷ 227 ∷ []) ∷ (162 ∷ 156 ∷ 64 ∷ 67 ∷ 0 ∷ 2 ∷ 90 ∷ 40 ∷ 107 ∷ 110 ∷ 84 ∷ 85 ∷ 76 ∷ 158 ∷ 148 ∷ 160 ∷ 101 ∷ 104 ∷ 247 ∷ 82 ∷ 93 ∷ 100 ∷ 196 ∷ 152 ∷ 24 ∷ 11 ∷ 184 ∷ 41 ∷ 212 ∷ 84 ∷ 207 ∷ 74 ∷ 135 ∷ 16 ∷ 33 ∷ 169 ∷ []) ∷ []))
  -- StackHorizontal(Y4MSource("a8.y4m"), Y4MSource("b8.y4m"))
  pub stack_horizontal_of_heights : rendered (two (joined j.StackHorizontal) a8 b8)
      ≡ Err SizeDiffers
  -- StackVertical(Y4MSource("q8.y4m"), Y4MSource("b8.y4m"), Y4MSource("q8.y4m"))
  pub stack_vertical : rendered (applied (joined j.StackVertical) (and_term q8 (and_term b8 (and_term q8 no_terms))))
      ≡ Ok (record { shape = record { kind = Y8; bits = 8; width = 2; height = 6 }; frames = 2; num = 25; den = 1; field = Progressive; par = record { num = 1; den = 1 }; tag = Jpeg }, ((1 ∷ 2 ∷ 3 ∷ 4 ∷ 58 ∷ 191 ∷ 18 ∷ 154 ∷ 1 ∷ 2 ∷ 3 ∷ 4 ∷ []) ∷ (1 ∷ 2 ∷ 3 ∷ 4 ∷ 48 ∷ 151 ∷ 173 ∷ 150 ∷ 1 ∷ 2 ∷ 3 ∷ 4 ∷ []) ∷ []))
  -- StackVertical(Y4MSource("a12.y4m"), Y4MSource("a16.y4m"))
  pub stack_vertical_of_formats : rendered (two (joined j.StackVertical) a12 a16)
      ≡ Err FormatDiffers
  -- c = Y4MSource("m4.y4m") / Merge(c, c.Reverse)
  pub merge_with_reverse : rendered (two (joined j.Merge) m4 (one (time t.Reverse) m4))
      ≡ Ok (record { shape = record { kind = Y8; bits = 8; width = 1; height = 1 }; frames = 4; num = 25; den = 1; field = Progressive; par = record { num = 1; den = 1 }; tag = Jpeg }, ((2 ∷ []) ∷ (2 ∷ []) ∷ (2 ∷ []) ∷ (2 ∷ []) ∷ []))
  -- Merge(Y4MSource("b12.y4m"), Y4MSource("a12.y4m"))
  pub merge : rendered (two (joined j.Merge) b12 a12)
      ≡ Ok (record { shape = record { kind = YV12; bits = 8; width = 4; height = 4 }; frames = 2; num = 25; den = 1; field = Progressive; par = record { num = 1; den = 1 }; tag = Jpeg }, ((142 ∷ 92 ∷ 94 ∷ 136 ∷ 143 ∷ 104 ∷ 118 ∷ 152 ∷ 176 ∷ 167 ∷ 186 ∷ 218 ∷ 71 ∷ 78 ∷ 69 ∷ 61 ∷ 196 ∷ 175 ∷ 51 ∷ 207 ∷ 134 ∷ 114 ∷ 38 ∷ 229 ∷ []) ∷ (44 ∷ 80 ∷ 50 ∷ 31 ∷ 116 ∷ 173 ∷ 130 ∷ 133 ∷ 138 ∷ 198 ∷ 78 ∷ 146 ∷ 122 ∷ 59 ∷ 209 ∷ 99 ∷ 59 ∷ 179 ∷ 199 ∷ 80 ∷ 124 ∷ 138 ∷ 40 ∷ 164 ∷ []) ∷ []))
  -- MergeLuma(Y4MSource("b12.y4m"), Y4MSource("a12.y4m"))
  pub merge_luma : rendered (two (joined j.MergeLuma) b12 a12)
      ≡ Ok (record { shape = record { kind = YV12; bits = 8; width = 4; height = 4 }; frames = 2; num = 25; den = 1; field = Progressive; par = record { num = 1; den = 1 }; tag = Jpeg }, ((130 ∷ 183 ∷ 14 ∷ 238 ∷ 127 ∷ 26 ∷ 80 ∷ 57 ∷ 190 ∷ 240 ∷ 126 ∷ 194 ∷ 52 ∷ 127 ∷ 6 ∷ 110 ∷ 183 ∷ 206 ∷ 9 ∷ 214 ∷ 187 ∷ 192 ∷ 4 ∷ 231 ∷ []) ∷ (64 ∷ 67 ∷ 0 ∷ 2 ∷ 107 ∷ 110 ∷ 84 ∷ 85 ∷ 148 ∷ 160 ∷ 101 ∷ 104 ∷ 93 ∷ 100 ∷ 196 ∷ 152 ∷ 106 ∷ 174 ∷ 185 ∷ 75 ∷ 174 ∷ 141 ∷ 47 ∷ 159 ∷ []) ∷ []))
  -- MergeChroma(Y4MSource("b12.y4m"), Y4MSource("a12.y4m"))
  pub merge_chroma : rendered (two (joined j.MergeChroma) b12 a12)
      ≡ Ok (record { shape = record { kind = YV12; bits = 8; width = 4; height = 4 }; frames = 2; num = 25; den = 1; field = Progressive; par = record { num = 1; den = 1 }; tag = Jpeg }, ((154 ∷ 1 ∷ 173 ∷ 33 ∷ 158 ∷ 181 ∷ 156 ∷ 246 ∷ 161 ∷ 94 ∷ 246 ∷ 241 ∷ 90 ∷ 29 ∷ 131 ∷ 11 ∷ 208 ∷ 143 ∷ 93 ∷ 199 ∷ 81 ∷ 36 ∷ 71 ∷ 227 ∷ []) ∷ (23 ∷ 92 ∷ 100 ∷ 60 ∷ 125 ∷ 236 ∷ 176 ∷ 181 ∷ 128 ∷ 236 ∷ 55 ∷ 188 ∷ 151 ∷ 18 ∷ 221 ∷ 46 ∷ 11 ∷ 184 ∷ 212 ∷ 84 ∷ 74 ∷ 135 ∷ 33 ∷ 169 ∷ []) ∷ []))
  -- a = Y4MSource("b8.y4m") / YToUV(a, a.Invert, a.FlipVertical)
  pub y_to_uv_of_one_size : rendered (applied (joined j.YToUV) (and_term b8 (and_term (one (space (s.Invert all_channels)) b8) (and_term (one (space s.FlipVertical) b8) no_terms))))
      ≡ Ok (record { shape = record { kind = YV24; bits = 8; width = 2; height = 2 }; frames = 2; num = 25; den = 1; field = Progressive; par = record { num = 1; den = 1 }; tag = Jpeg }, ((18 ∷ 154 ∷ 58 ∷ 191 ∷ 58 ∷ 191 ∷ 18 ∷ 154 ∷ 197 ∷ 64 ∷ 237 ∷ 101 ∷ []) ∷ (173 ∷ 150 ∷ 48 ∷ 151 ∷ 48 ∷ 151 ∷ 173 ∷ 150 ∷ 207 ∷ 104 ∷ 82 ∷ 105 ∷ []) ∷ []))
  -- a = Y4MSource("b8.y4m") / YToUV(a, Y4MSource("q8.y4m"), Y4MSource("a12.y4m"))
  pub y_to_uv_of_half_a_size : rendered (applied (joined j.YToUV) (and_term b8 (and_term q8 (and_term a12 no_terms))))
      ≡ Ok (record { shape = record { kind = YV12; bits = 8; width = 4; height = 4 }; frames = 2; num = 25; den = 1; field = Progressive; par = record { num = 1; den = 1 }; tag = Jpeg }, ((130 ∷ 183 ∷ 14 ∷ 238 ∷ 127 ∷ 26 ∷ 80 ∷ 57 ∷ 190 ∷ 240 ∷ 126 ∷ 194 ∷ 52 ∷ 127 ∷ 6 ∷ 110 ∷ 58 ∷ 191 ∷ 18 ∷ 154 ∷ 1 ∷ 2 ∷ 3 ∷ 4 ∷ []) ∷ (64 ∷ 67 ∷ 0 ∷ 2 ∷ 107 ∷ 110 ∷ 84 ∷ 85 ∷ 148 ∷ 160 ∷ 101 ∷ 104 ∷ 93 ∷ 100 ∷ 196 ∷ 152 ∷ 48 ∷ 151 ∷ 173 ∷ 150 ∷ 1 ∷ 2 ∷ 3 ∷ 4 ∷ []) ∷ []))
  -- a = Y4MSource("b8.y4m") / YToUV(a, a, Y4MSource("a8.y4m"))
  pub y_to_uv_of_no_size : rendered (applied (joined j.YToUV) (and_term b8 (and_term b8 (and_term a8 no_terms))))
      ≡ Err SizeDiffers
  -- YToUV(Y4MSource("a8.y4m"), Y4MSource("b8.y4m"), Y4MSource("a8.y4m"))
  pub y_to_uv_of_two_sizes : rendered (applied (joined j.YToUV) (and_term a8 (and_term b8 (and_term a8 no_terms))))
      ≡ Err SizeDiffers
  -- Merge(Y4MSource("a16.y4m"), Y4MSource("a24.y4m"))
  pub merge_of_formats : rendered (two (joined j.Merge) a16 a24)
      ≡ Err FormatDiffers
  -- StackVertical(Y4MSource("a8.y4m"), Y4MSource("b8.y4m"))
  pub stack_vertical_of_widths : rendered (two (joined j.StackVertical) a8 b8)
      ≡ Err SizeDiffers
