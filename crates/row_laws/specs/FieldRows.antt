-- Filters on fields of 8 bits, each on a small clip of clip_term: the clip that it gives, and the samples of its frames. The
-- even rows of each plane are the upper field.
use Rattle.std.specs.Prelude.{◌≡◌, [], ◌∷◌, Ok, Err}
use Rattle.fv_plane.specs.declared.format.PixelType.TheVariants.{Y8, YV12}
use Rattle.fv_plane.specs.declared.format.Field.TheVariants.{Top, Bottom}
use Rattle.clip_term.specs.declared.fault.FilterFault.TheVariants.{EmptyClip, NotWholeChroma}
use Rattle.clip_term.specs.declared.field.FieldOp.TheVariants as d
use Rattle.clip_term.specs.Terms.{fields}
use Rattle.clip_term.specs.ExampleClips.{rendered, one, m4, m4_told, c12, c12_told, p}
use Rattle.row_laws.specs.SmallStreams.{told}

pub record FieldRows : Type 0 where
  -- of four rows of luma and two of chroma
  pub separate : rendered (one (fields d.SeparateFields) c12)
      ≡ Ok (record (told YV12 8 2 2 2) { num = 50 }, (162 ∷ 156 ∷ 76 ∷ 158 ∷ 24 ∷ 207 ∷ []) ∷ (90 ∷ 40 ∷ 247 ∷ 82 ∷ 41 ∷ 16 ∷ []) ∷ [])
  pub separate_bottom : rendered (one (fields d.SeparateFields) (one (fields d.AssumeBFF) c12))
      ≡ Ok (record (told YV12 8 2 2 2) { num = 50; field = Bottom }, (90 ∷ 40 ∷ 247 ∷ 82 ∷ 41 ∷ 16 ∷ []) ∷ (162 ∷ 156 ∷ 76 ∷ 158 ∷ 24 ∷ 207 ∷ []) ∷ [])
  pub swap : rendered (one (fields d.SwapFields) c12)
      ≡ Ok (c12_told, (90 ∷ 40 ∷ 162 ∷ 156 ∷ 247 ∷ 82 ∷ 76 ∷ 158 ∷ 41 ∷ 24 ∷ 16 ∷ 207 ∷ []) ∷ [])
  -- one row of chroma is no two fields
  pub separate_half : rendered (one (fields d.SeparateFields) p) ≡ Err NotWholeChroma
  pub swap_half : rendered (one (fields d.SwapFields) p) ≡ Err NotWholeChroma
  -- two frames become one of twice the height, at half the rate; one frame alone becomes none
  pub weave : rendered (one (fields d.Weave) m4) ≡ Ok (record (told Y8 8 1 2 2) { den = 2 }, (0 ∷ 1 ∷ []) ∷ (2 ∷ 3 ∷ []) ∷ [])
  pub weave_bottom : rendered (one (fields d.Weave) (one (fields d.AssumeBFF) m4))
      ≡ Ok (record (told Y8 8 1 2 2) { den = 2; field = Bottom }, (1 ∷ 0 ∷ []) ∷ (3 ∷ 2 ∷ []) ∷ [])
  pub weave_one : rendered (one (fields d.Weave) (one (fields d.Weave) (one (fields d.Weave) m4))) ≡ Err EmptyClip
  -- these change the order of the fields alone, and an order that is not known stays so
  pub top : rendered (one (fields d.AssumeTFF) m4) ≡ Ok (record m4_told { field = Top }, (0 ∷ []) ∷ (1 ∷ []) ∷ (2 ∷ []) ∷ (3 ∷ []) ∷ [])
  pub complement : rendered (one (fields d.ComplementParity) (one (fields d.AssumeTFF) m4))
      ≡ Ok (record m4_told { field = Bottom }, (0 ∷ []) ∷ (1 ∷ []) ∷ (2 ∷ []) ∷ (3 ∷ []) ∷ [])
  pub complement_of_none : rendered (one (fields d.ComplementParity) m4) ≡ rendered m4
