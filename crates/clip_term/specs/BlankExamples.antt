-- Clips of one colour: worked rows, each computed.
use Rattle.std.specs.Prelude.{◌≡◌, [], ◌∷◌, pos, Ok}
use Rattle.std.specs.Prelude.{codes, Some}
use Rattle.fv_plane.specs.declared.format.PixelType.TheVariants.{Y8, YV12, YV16}
use Rattle.fv_plane.specs.declared.format.Field.TheVariants.{Progressive, Top}
use Rattle.fv_plane.specs.declared.format.Tag.TheVariants.{Jpeg, Mpeg2}
use Rattle.clip_term.specs.ExampleClips.{rendered, a12_told, blank_over, m3_told, none_given}

pub record BlankRows : Type 0 where
  -- Y4MSource("a12.y4m").BlankClip(length=1, pixel_type="yv16", color_yuv=$112233)
  pub blank_of_a_clip : rendered (blank_over a12_told (record none_given { length = Some (pos 1); pixel_type = Some (codes "yv16"); color_yuv = Some (pos 1122867) }))
      ≡ Ok (record { shape = record { kind = YV16; bits = 8; width = 4; height = 4 }; frames = 1; num = 30; den = 1; field = Top; par = record { num = 4; den = 3 }; tag = Mpeg2 }, ((17 ∷ 17 ∷ 17 ∷ 17 ∷ 17 ∷ 17 ∷ 17 ∷ 17 ∷ 17 ∷ 17 ∷ 17 ∷ 17 ∷ 17 ∷ 17 ∷ 17 ∷ 17 ∷ 34 ∷ 34 ∷ 34 ∷ 34 ∷ 34 ∷ 34 ∷ 34 ∷ 34 ∷ 51 ∷ 51 ∷ 51 ∷ 51 ∷ 51 ∷ 51 ∷ 51 ∷ 51 ∷ []) ∷ []))
  -- Y4MSource("m3.y4m").BlankClip(fps_denominator=10)
  pub blank_with_a_denominator : rendered (blank_over m3_told (record none_given { fps_denominator = Some (pos 10) }))
      ≡ Ok (record { shape = record { kind = Y8; bits = 8; width = 1; height = 1 }; frames = 3; num = 5; den = 2; field = Progressive; par = record { num = 1; den = 1 }; tag = Jpeg }, ((16 ∷ []) ∷ (16 ∷ []) ∷ (16 ∷ []) ∷ []))
  -- Y4MSource("a12.y4m").BlankClip(width=2, height=2, length=1, fps=50)
  pub blank_with_a_rate : rendered (blank_over a12_told (record none_given { width = Some (pos 2); height = Some (pos 2); length = Some (pos 1); fps = Some (pos 50) }))
      ≡ Ok (record { shape = record { kind = YV12; bits = 8; width = 2; height = 2 }; frames = 1; num = 50; den = 1; field = Top; par = record { num = 4; den = 3 }; tag = Mpeg2 }, ((16 ∷ 16 ∷ 16 ∷ 16 ∷ 128 ∷ 128 ∷ []) ∷ []))
  -- Y4MSource("a12.y4m").AssumeFPS(24000,1001).BlankClip(width=2, height=2, length=1, fps=50)
  pub blank_with_a_rate_over_another : rendered (blank_over (record a12_told { num = 24000; den = 1001 }) (record none_given { width = Some (pos 2); height = Some (pos 2); length = Some (pos 1); fps = Some (pos 50) }))
      ≡ Ok (record { shape = record { kind = YV12; bits = 8; width = 2; height = 2 }; frames = 1; num = 50; den = 1; field = Top; par = record { num = 4; den = 3 }; tag = Mpeg2 }, ((16 ∷ 16 ∷ 16 ∷ 16 ∷ 128 ∷ 128 ∷ []) ∷ []))
  -- Y4MSource("a12.y4m").AssumeFPS(24000,1001).BlankClip(width=2, height=2, length=1, fps_denominator=7)
  pub blank_with_a_denominator_over_another : rendered (blank_over (record a12_told { num = 24000; den = 1001 }) (record none_given { width = Some (pos 2); height = Some (pos 2); length = Some (pos 1); fps_denominator = Some (pos 7) }))
      ≡ Ok (record { shape = record { kind = YV12; bits = 8; width = 2; height = 2 }; frames = 1; num = 24000; den = 7; field = Top; par = record { num = 4; den = 3 }; tag = Mpeg2 }, ((16 ∷ 16 ∷ 16 ∷ 16 ∷ 128 ∷ 128 ∷ []) ∷ []))
