-- The group Space: worked rows, each computed.
use Rattle.std.specs.Prelude.{◌≡◌, [], ◌∷◌, pos, negsuc, Ok, Err, true, false}
use Rattle.std.specs.Prelude.{codes, Some}
use Rattle.fv_plane.specs.declared.format.PixelType.TheVariants.{Y8, YV12, YV16, YV24, YV411}
use Rattle.fv_plane.specs.declared.format.Field.TheVariants.{Progressive, Top}
use Rattle.fv_plane.specs.declared.format.Tag.TheVariants.{Jpeg, Mpeg2}
use Rattle.clip_term.specs.declared.fault.FilterFault.TheVariants.{BadRange, DepthRefused, NeedsChroma, NotWholeChroma, OutOfPicture, TooLarge, TurnFormat}
use Rattle.clip_term.specs.declared.op.SpaceOp.TheVariants as s
use Rattle.clip_term.specs.Terms.{space}
use Rattle.clip_term.specs.ExampleClips.{rendered, all_channels, d10, d10_told, a11, a12, a16, a24, a8, b8, blank_clip, c12, none_given, one, p, q8}

pub record SpaceRows : Type 0 where
  -- BlankClip(width=4, height=4) / Crop(1,0,-1,0)
  pub crop_on_half_a_chroma_sample : rendered (one (space (s.Crop (pos 1) (pos 0) (negsuc 0) (pos 0))) (blank_clip (record none_given { width = Some (pos 4); height = Some (pos 4) })))
      ≡ Err NotWholeChroma
  -- Y4MSource("p.y4m").Crop(0,0,0,0)
  pub crop_nothing : rendered (one (space (s.Crop (pos 0) (pos 0) (pos 0) (pos 0))) p)
      ≡ Ok (record { shape = record { kind = YV12; bits = 8; width = 2; height = 2 }; frames = 1; num = 25; den = 1; field = Progressive; par = record { num = 1; den = 1 }; tag = Jpeg }, ((16 ∷ 32 ∷ 48 ∷ 64 ∷ 128 ∷ 144 ∷ []) ∷ []))
  -- Y4MSource("a12.y4m").Crop(2,2,2,2)
  pub crop_a_corner : rendered (one (space (s.Crop (pos 2) (pos 2) (pos 2) (pos 2))) a12)
      ≡ Ok (record { shape = record { kind = YV12; bits = 8; width = 2; height = 2 }; frames = 2; num = 30; den = 1; field = Top; par = record { num = 4; den = 3 }; tag = Mpeg2 }, ((126 ∷ 194 ∷ 6 ∷ 110 ∷ 199 ∷ 227 ∷ []) ∷ (101 ∷ 104 ∷ 196 ∷ 152 ∷ 84 ∷ 169 ∷ []) ∷ []))
  -- Y4MSource("a24.y4m").Crop(1,0,-1,-1)
  pub crop_from_the_far_edge : rendered (one (space (s.Crop (pos 1) (pos 0) (negsuc 0) (negsuc 0))) a24)
      ≡ Ok (record { shape = record { kind = YV24; bits = 8; width = 1; height = 1 }; frames = 2; num = 25; den = 1; field = Progressive; par = record { num = 1; den = 1 }; tag = Jpeg }, ((75 ∷ 92 ∷ 182 ∷ []) ∷ (135 ∷ 128 ∷ 178 ∷ []) ∷ []))
  -- Y4MSource("a8.y4m").Crop(2,0,3,3)
  pub crop_outside : rendered (one (space (s.Crop (pos 2) (pos 0) (pos 3) (pos 3))) a8)
      ≡ Err OutOfPicture
  -- Y4MSource("a8.y4m").Crop(0-1,0,9,9)
  pub crop_from_below_zero : rendered (one (space (s.Crop (negsuc 0) (pos 0) (pos 9) (pos 9))) a8)
      ≡ Err BadRange
  -- Y4MSource("q8.y4m").Crop(1,0,1,2).ConvertToY8
  pub window_of_one_column : rendered (one (space s.ConvertToY8) (one (space (s.Crop (pos 1) (pos 0) (pos 1) (pos 2))) q8))
      ≡ Ok (record { shape = record { kind = Y8; bits = 8; width = 1; height = 2 }; frames = 1; num = 25; den = 1; field = Progressive; par = record { num = 1; den = 1 }; tag = Jpeg }, ((2 ∷ 4 ∷ []) ∷ []))
  -- Y4MSource("a12.y4m").CropBottom(2)
  pub crop_bottom : rendered (one (space (s.CropBottom (pos 2))) a12)
      ≡ Ok (record { shape = record { kind = YV12; bits = 8; width = 4; height = 2 }; frames = 2; num = 30; den = 1; field = Top; par = record { num = 4; den = 3 }; tag = Mpeg2 }, ((130 ∷ 183 ∷ 14 ∷ 238 ∷ 127 ∷ 26 ∷ 80 ∷ 57 ∷ 208 ∷ 143 ∷ 81 ∷ 36 ∷ []) ∷ (64 ∷ 67 ∷ 0 ∷ 2 ∷ 107 ∷ 110 ∷ 84 ∷ 85 ∷ 11 ∷ 184 ∷ 74 ∷ 135 ∷ []) ∷ []))
  -- Y4MSource("a8.y4m").CropBottom(3)
  pub crop_bottom_whole : rendered (one (space (s.CropBottom (pos 3))) a8)
      ≡ Err OutOfPicture
  -- Y4MSource("a8.y4m").CropBottom(9)
  pub crop_bottom_past_the_top : rendered (one (space (s.CropBottom (pos 9))) a8)
      ≡ Err OutOfPicture
  -- Y4MSource("p.y4m").AddBorders(2,0,0,2,$204060)
  pub add_borders : rendered (one (space (s.AddBorders (pos 2) (pos 0) (pos 0) (pos 2) (pos 2113632))) p)
      ≡ Ok (record { shape = record { kind = YV12; bits = 8; width = 4; height = 4 }; frames = 1; num = 25; den = 1; field = Progressive; par = record { num = 1; den = 1 }; tag = Jpeg }, ((32 ∷ 32 ∷ 16 ∷ 32 ∷ 32 ∷ 32 ∷ 48 ∷ 64 ∷ 32 ∷ 32 ∷ 32 ∷ 32 ∷ 32 ∷ 32 ∷ 32 ∷ 32 ∷ 64 ∷ 128 ∷ 64 ∷ 64 ∷ 96 ∷ 144 ∷ 96 ∷ 96 ∷ []) ∷ []))
  -- Y4MSource("p.y4m").AddBorders(1,0,1,0)
  pub add_odd_borders : rendered (one (space (s.AddBorders (pos 1) (pos 0) (pos 1) (pos 0) (pos 1081472))) p)
      ≡ Err NotWholeChroma
  -- Y4MSource("p.y4m").AddBorders(1,0,1,0,$1000000)
  pub add_borders_of_no_colour : rendered (one (space (s.AddBorders (pos 1) (pos 0) (pos 1) (pos 0) (pos 16777216))) p)
      ≡ Err BadRange
  -- Y4MSource("b8.y4m").AddBorders(65534,0,0,0)
  pub add_borders_too_large : rendered (one (space (s.AddBorders (pos 65534) (pos 0) (pos 0) (pos 0) (pos 1081472))) b8)
      ≡ Err TooLarge
  -- Y4MSource("a16.y4m").LetterBox(1,0,2,0)
  pub letter_box : rendered (one (space (s.LetterBox (pos 1) (pos 0) (pos 2) (pos 0) (pos 1081472))) a16)
      ≡ Ok (record { shape = record { kind = YV16; bits = 8; width = 4; height = 2 }; frames = 2; num = 25; den = 1; field = Progressive; par = record { num = 1; den = 1 }; tag = Jpeg }, ((16 ∷ 16 ∷ 16 ∷ 16 ∷ 16 ∷ 16 ∷ 28 ∷ 16 ∷ 128 ∷ 128 ∷ 128 ∷ 66 ∷ 128 ∷ 128 ∷ 128 ∷ 86 ∷ []) ∷ (16 ∷ 16 ∷ 16 ∷ 16 ∷ 16 ∷ 16 ∷ 72 ∷ 232 ∷ 128 ∷ 128 ∷ 128 ∷ 162 ∷ 128 ∷ 128 ∷ 128 ∷ 240 ∷ []) ∷ []))
  -- Y4MSource("b8.y4m").LetterBox(1,1)
  pub letter_box_over_all : rendered (one (space (s.LetterBox (pos 1) (pos 1) (pos 0) (pos 0) (pos 1081472))) b8)
      ≡ Ok (record { shape = record { kind = Y8; bits = 8; width = 2; height = 2 }; frames = 2; num = 25; den = 1; field = Progressive; par = record { num = 1; den = 1 }; tag = Jpeg }, ((16 ∷ 16 ∷ 16 ∷ 16 ∷ []) ∷ (16 ∷ 16 ∷ 16 ∷ 16 ∷ []) ∷ []))
  -- Y4MSource("a12.y4m").LetterBox(3,2)
  pub letter_box_past_the_picture : rendered (one (space (s.LetterBox (pos 3) (pos 2) (pos 0) (pos 0) (pos 1081472))) a12)
      ≡ Err OutOfPicture
  -- Y4MSource("a8.y4m").LetterBox(0,0,3,2)
  pub letter_box_past_the_side : rendered (one (space (s.LetterBox (pos 0) (pos 0) (pos 3) (pos 2) (pos 1081472))) a8)
      ≡ Err OutOfPicture
  -- Y4MSource("a8.y4m").LetterBox(0,1,1,2,$204060)
  pub letter_box_of_one_column : rendered (one (space (s.LetterBox (pos 0) (pos 1) (pos 1) (pos 2) (pos 2113632))) a8)
      ≡ Ok (record { shape = record { kind = Y8; bits = 8; width = 4; height = 3 }; frames = 3; num = 25; den = 1; field = Progressive; par = record { num = 1; den = 1 }; tag = Jpeg }, ((32 ∷ 215 ∷ 32 ∷ 32 ∷ 32 ∷ 100 ∷ 32 ∷ 32 ∷ 32 ∷ 32 ∷ 32 ∷ 32 ∷ []) ∷ (32 ∷ 115 ∷ 32 ∷ 32 ∷ 32 ∷ 56 ∷ 32 ∷ 32 ∷ 32 ∷ 32 ∷ 32 ∷ 32 ∷ []) ∷ (32 ∷ 179 ∷ 32 ∷ 32 ∷ 32 ∷ 121 ∷ 32 ∷ 32 ∷ 32 ∷ 32 ∷ 32 ∷ 32 ∷ []) ∷ []))
  -- Y4MSource("a12.y4m").LetterBox(0,0,2,1)
  pub letter_box_on_half_a_chroma_sample : rendered (one (space (s.LetterBox (pos 0) (pos 0) (pos 2) (pos 1) (pos 1081472))) a12)
      ≡ Err NotWholeChroma
  -- Y4MSource("a12.y4m").FlipHorizontal
  pub flip_horizontal : rendered (one (space s.FlipHorizontal) a12)
      ≡ Ok (record { shape = record { kind = YV12; bits = 8; width = 4; height = 4 }; frames = 2; num = 30; den = 1; field = Top; par = record { num = 4; den = 3 }; tag = Mpeg2 }, ((238 ∷ 14 ∷ 183 ∷ 130 ∷ 57 ∷ 80 ∷ 26 ∷ 127 ∷ 194 ∷ 126 ∷ 240 ∷ 190 ∷ 110 ∷ 6 ∷ 127 ∷ 52 ∷ 143 ∷ 208 ∷ 199 ∷ 93 ∷ 36 ∷ 81 ∷ 227 ∷ 71 ∷ []) ∷ (2 ∷ 0 ∷ 67 ∷ 64 ∷ 85 ∷ 84 ∷ 110 ∷ 107 ∷ 104 ∷ 101 ∷ 160 ∷ 148 ∷ 152 ∷ 196 ∷ 100 ∷ 93 ∷ 184 ∷ 11 ∷ 84 ∷ 212 ∷ 135 ∷ 74 ∷ 169 ∷ 33 ∷ []) ∷ []))
  -- Y4MSource("a16.y4m").FlipVertical
  pub flip_vertical : rendered (one (space s.FlipVertical) a16)
      ≡ Ok (record { shape = record { kind = YV16; bits = 8; width = 4; height = 2 }; frames = 2; num = 25; den = 1; field = Progressive; par = record { num = 1; den = 1 }; tag = Jpeg }, ((215 ∷ 74 ∷ 28 ∷ 16 ∷ 121 ∷ 176 ∷ 128 ∷ 233 ∷ 106 ∷ 66 ∷ 252 ∷ 171 ∷ 54 ∷ 86 ∷ 67 ∷ 211 ∷ []) ∷ (215 ∷ 150 ∷ 72 ∷ 232 ∷ 222 ∷ 190 ∷ 76 ∷ 30 ∷ 249 ∷ 162 ∷ 86 ∷ 232 ∷ 149 ∷ 240 ∷ 245 ∷ 140 ∷ []) ∷ []))
  -- Y4MSource("a11.y4m").Turn180
  pub turn_180 : rendered (one (space s.Turn180) a11)
      ≡ Ok (record { shape = record { kind = YV411; bits = 8; width = 8; height = 1 }; frames = 1; num = 25; den = 1; field = Progressive; par = record { num = 1; den = 1 }; tag = Jpeg }, ((185 ∷ 101 ∷ 85 ∷ 72 ∷ 171 ∷ 186 ∷ 230 ∷ 88 ∷ 144 ∷ 244 ∷ 213 ∷ 40 ∷ []) ∷ []))
  -- Y4MSource("p.y4m").TurnLeft
  pub turn_left : rendered (one (space s.TurnLeft) p)
      ≡ Ok (record { shape = record { kind = YV12; bits = 8; width = 2; height = 2 }; frames = 1; num = 25; den = 1; field = Progressive; par = record { num = 1; den = 1 }; tag = Jpeg }, ((32 ∷ 64 ∷ 16 ∷ 48 ∷ 128 ∷ 144 ∷ []) ∷ []))
  -- Y4MSource("a24.y4m").TurnRight
  pub turn_right : rendered (one (space s.TurnRight) a24)
      ≡ Ok (record { shape = record { kind = YV24; bits = 8; width = 2; height = 3 }; frames = 2; num = 25; den = 1; field = Progressive; par = record { num = 1; den = 1 }; tag = Jpeg }, ((193 ∷ 206 ∷ 91 ∷ 75 ∷ 255 ∷ 57 ∷ 251 ∷ 173 ∷ 139 ∷ 92 ∷ 184 ∷ 45 ∷ 156 ∷ 32 ∷ 186 ∷ 182 ∷ 143 ∷ 17 ∷ []) ∷ (174 ∷ 248 ∷ 91 ∷ 135 ∷ 5 ∷ 150 ∷ 140 ∷ 242 ∷ 237 ∷ 128 ∷ 147 ∷ 166 ∷ 176 ∷ 182 ∷ 209 ∷ 178 ∷ 179 ∷ 140 ∷ []) ∷ []))
  -- Y4MSource("c12.y4m").TurnLeft
  pub turn_left_of_two_thirds : rendered (one (space s.TurnLeft) c12)
      ≡ Ok (record { shape = record { kind = YV12; bits = 8; width = 4; height = 2 }; frames = 1; num = 25; den = 1; field = Progressive; par = record { num = 1; den = 1 }; tag = Jpeg }, ((156 ∷ 40 ∷ 158 ∷ 82 ∷ 162 ∷ 90 ∷ 76 ∷ 247 ∷ 24 ∷ 41 ∷ 207 ∷ 16 ∷ []) ∷ []))
  -- Y4MSource("a16.y4m").TurnLeft
  pub turn_yv16 : rendered (one (space s.TurnLeft) a16)
      ≡ Err TurnFormat
  -- Y4MSource("a11.y4m").TurnRight
  pub turn_yv411 : rendered (one (space s.TurnRight) a11)
      ≡ Err TurnFormat
  -- Y4MSource("a24.y4m").Greyscale
  pub greyscale : rendered (one (space s.Greyscale) a24)
      ≡ Ok (record { shape = record { kind = YV24; bits = 8; width = 3; height = 2 }; frames = 2; num = 25; den = 1; field = Progressive; par = record { num = 1; den = 1 }; tag = Jpeg }, ((206 ∷ 75 ∷ 57 ∷ 193 ∷ 91 ∷ 255 ∷ 128 ∷ 128 ∷ 128 ∷ 128 ∷ 128 ∷ 128 ∷ 128 ∷ 128 ∷ 128 ∷ 128 ∷ 128 ∷ 128 ∷ []) ∷ (248 ∷ 135 ∷ 150 ∷ 174 ∷ 91 ∷ 5 ∷ 128 ∷ 128 ∷ 128 ∷ 128 ∷ 128 ∷ 128 ∷ 128 ∷ 128 ∷ 128 ∷ 128 ∷ 128 ∷ 128 ∷ []) ∷ []))
  -- Y4MSource("a16.y4m").Invert("vU")
  pub invert_chroma : rendered (one (space (s.Invert (record { y = false; u = true; v = true }))) a16)
      ≡ Ok (record { shape = record { kind = YV16; bits = 8; width = 4; height = 2 }; frames = 2; num = 25; den = 1; field = Progressive; par = record { num = 1; den = 1 }; tag = Jpeg }, ((121 ∷ 176 ∷ 128 ∷ 233 ∷ 215 ∷ 74 ∷ 28 ∷ 16 ∷ 3 ∷ 84 ∷ 149 ∷ 189 ∷ 188 ∷ 44 ∷ 201 ∷ 169 ∷ []) ∷ (222 ∷ 190 ∷ 76 ∷ 30 ∷ 215 ∷ 150 ∷ 72 ∷ 232 ∷ 169 ∷ 23 ∷ 6 ∷ 93 ∷ 10 ∷ 115 ∷ 106 ∷ 15 ∷ []) ∷ []))
  -- Y4MSource("a12.y4m").Limiter
  pub limiter : rendered (one (space (s.Limiter (pos 16) (pos 235) (pos 16) (pos 240))) a12)
      ≡ Ok (record { shape = record { kind = YV12; bits = 8; width = 4; height = 4 }; frames = 2; num = 30; den = 1; field = Top; par = record { num = 4; den = 3 }; tag = Mpeg2 }, ((130 ∷ 183 ∷ 16 ∷ 235 ∷ 127 ∷ 26 ∷ 80 ∷ 57 ∷ 190 ∷ 235 ∷ 126 ∷ 194 ∷ 52 ∷ 127 ∷ 16 ∷ 110 ∷ 208 ∷ 143 ∷ 93 ∷ 199 ∷ 81 ∷ 36 ∷ 71 ∷ 227 ∷ []) ∷ (64 ∷ 67 ∷ 16 ∷ 16 ∷ 107 ∷ 110 ∷ 84 ∷ 85 ∷ 148 ∷ 160 ∷ 101 ∷ 104 ∷ 93 ∷ 100 ∷ 196 ∷ 152 ∷ 16 ∷ 184 ∷ 212 ∷ 84 ∷ 74 ∷ 135 ∷ 33 ∷ 169 ∷ []) ∷ []))
  -- Y4MSource("a12.y4m").Limiter(20,10)
  pub limiter_of_crossed_bounds : rendered (one (space (s.Limiter (pos 20) (pos 10) (pos 16) (pos 240))) a12)
      ≡ Err BadRange
  -- Y4MSource("a12.y4m").Limiter(16,235,240,16)
  pub limiter_of_crossed_chroma : rendered (one (space (s.Limiter (pos 16) (pos 235) (pos 240) (pos 16))) a12)
      ≡ Err BadRange
  -- Y4MSource("a12.y4m").Limiter(16,256)
  pub limiter_past_eight_bits : rendered (one (space (s.Limiter (pos 16) (pos 256) (pos 16) (pos 240))) a12)
      ≡ Err BadRange
  -- Y4MSource("a16.y4m").SwapUV
  pub swap_uv : rendered (one (space s.SwapUV) a16)
      ≡ Ok (record { shape = record { kind = YV16; bits = 8; width = 4; height = 2 }; frames = 2; num = 25; den = 1; field = Progressive; par = record { num = 1; den = 1 }; tag = Jpeg }, ((121 ∷ 176 ∷ 128 ∷ 233 ∷ 215 ∷ 74 ∷ 28 ∷ 16 ∷ 67 ∷ 211 ∷ 54 ∷ 86 ∷ 252 ∷ 171 ∷ 106 ∷ 66 ∷ []) ∷ (222 ∷ 190 ∷ 76 ∷ 30 ∷ 215 ∷ 150 ∷ 72 ∷ 232 ∷ 245 ∷ 140 ∷ 149 ∷ 240 ∷ 86 ∷ 232 ∷ 249 ∷ 162 ∷ []) ∷ []))
  -- Y4MSource("q8.y4m").SwapUV
  pub swap_uv_of_y8 : rendered (one (space s.SwapUV) q8)
      ≡ Ok (record { shape = record { kind = Y8; bits = 8; width = 2; height = 2 }; frames = 1; num = 25; den = 1; field = Progressive; par = record { num = 1; den = 1 }; tag = Jpeg }, ((1 ∷ 2 ∷ 3 ∷ 4 ∷ []) ∷ []))
  -- Y4MSource("a12.y4m").UToY8
  pub u_to_y8 : rendered (one (space s.UToY8) a12)
      ≡ Ok (record { shape = record { kind = Y8; bits = 8; width = 2; height = 2 }; frames = 2; num = 30; den = 1; field = Top; par = record { num = 4; den = 3 }; tag = Mpeg2 }, ((208 ∷ 143 ∷ 93 ∷ 199 ∷ []) ∷ (11 ∷ 184 ∷ 212 ∷ 84 ∷ []) ∷ []))
  -- Y4MSource("a11.y4m").VToY8
  pub v_to_y8 : rendered (one (space s.VToY8) a11)
      ≡ Ok (record { shape = record { kind = Y8; bits = 8; width = 2; height = 1 }; frames = 1; num = 25; den = 1; field = Progressive; par = record { num = 1; den = 1 }; tag = Jpeg }, ((40 ∷ 213 ∷ []) ∷ []))
  -- Y4MSource("a8.y4m").UToY8
  pub u_to_y8_of_y8 : rendered (one (space s.UToY8) a8)
      ≡ Err NeedsChroma
  -- Y4MSource("a8.y4m").VToY8
  pub v_to_y8_of_y8 : rendered (one (space s.VToY8) a8)
      ≡ Err NeedsChroma
  -- Y4MSource("a24.y4m").ConvertToY8
  pub convert_to_y8 : rendered (one (space s.ConvertToY8) a24)
      ≡ Ok (record { shape = record { kind = Y8; bits = 8; width = 3; height = 2 }; frames = 2; num = 25; den = 1; field = Progressive; par = record { num = 1; den = 1 }; tag = Jpeg }, ((206 ∷ 75 ∷ 57 ∷ 193 ∷ 91 ∷ 255 ∷ []) ∷ (248 ∷ 135 ∷ 150 ∷ 174 ∷ 91 ∷ 5 ∷ []) ∷ []))
  -- Y4MSource("d10.y4m").Invert, .Limiter, .AddBorders(1,0,0,0,$010203), .ConvertToY8: samples of ten bits
  pub invert_ten_bits : rendered (one (space (s.Invert all_channels)) d10) ≡ Ok (d10_told, (510 ∷ 0 ∷ []) ∷ [])
  pub limiter_of_ten_bits : rendered (one (space (s.Limiter (pos 16) (pos 235) (pos 16) (pos 240))) d10)
      ≡ Ok (d10_told, (513 ∷ 940 ∷ []) ∷ [])
  pub borders_of_ten_bits : rendered (one (space (s.AddBorders (pos 1) (pos 0) (pos 0) (pos 0) (pos 66051))) d10)
      ≡ Ok (record d10_told { shape = record d10_told.shape { width = 3 } }, (4 ∷ 513 ∷ 1023 ∷ []) ∷ [])
  pub luma_of_ten_bits : rendered (one (space s.ConvertToY8) d10) ≡ Err DepthRefused
  -- Y4MSource("d10.y4m").ConvertBits(8), (12), (16), (10) and (9)
  pub ten_bits_to_eight : rendered (one (space (s.ConvertBits (pos 8))) d10)
      ≡ Ok (record d10_told { shape = record d10_told.shape { bits = 8 } }, (128 ∷ 255 ∷ []) ∷ [])
  pub ten_bits_to_twelve : rendered (one (space (s.ConvertBits (pos 12))) d10)
      ≡ Ok (record d10_told { shape = record d10_told.shape { bits = 12 } }, (2052 ∷ 4092 ∷ []) ∷ [])
  pub ten_bits_to_sixteen : rendered (one (space (s.ConvertBits (pos 16))) d10)
      ≡ Ok (record d10_told { shape = record d10_told.shape { bits = 16 } }, (32832 ∷ 65472 ∷ []) ∷ [])
  pub ten_bits_to_ten : rendered (one (space (s.ConvertBits (pos 10))) d10) ≡ Ok (d10_told, (513 ∷ 1023 ∷ []) ∷ [])
  pub ten_bits_to_nine : rendered (one (space (s.ConvertBits (pos 9))) d10) ≡ Err BadRange
  -- Y4MSource("q8.y4m").ConvertBits(10).ConvertBits(8)
  pub eight_bits_there_and_back : rendered (one (space (s.ConvertBits (pos 8))) (one (space (s.ConvertBits (pos 10))) q8)) ≡ rendered q8
  -- Y4MSource("q8.y4m").ConvertBits(0-8)
  pub fewer_bits_than_none : rendered (one (space (s.ConvertBits (negsuc 7))) q8) ≡ Err BadRange
  -- Y4MSource("a11.y4m").ConvertBits(8), (10) and (11)
  pub yv411_to_eight_bits : rendered (one (space (s.ConvertBits (pos 8))) a11) ≡ rendered a11
  pub yv411_to_ten_bits : rendered (one (space (s.ConvertBits (pos 10))) a11) ≡ Err DepthRefused
  pub yv411_to_eleven_bits : rendered (one (space (s.ConvertBits (pos 11))) a11) ≡ Err BadRange
  -- BlankClip(width=4096, height=4096, pixel_type="Y8").ConvertBits(16)
  pub sixteen_bits_too_large : rendered (one (space (s.ConvertBits (pos 16))) (blank_clip (record none_given { width = Some (pos 4096); height = Some (pos 4096); pixel_type = Some (codes "Y8") })))
      ≡ Err TooLarge
