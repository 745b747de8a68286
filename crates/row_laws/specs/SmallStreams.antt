-- Small streams, and the clips that they are: m4 has four frames of one sample and m1 has one, p and q have a frame of 4:2:0,
-- and d10 has a frame of two samples of ten bits, of which the second is over the largest one.
use Rattle.std.specs.Prelude.{ℕ, List, [], ◌∷◌, ◌++◌, codes}
use Rattle.fv_plane.specs.declared.format.Info.{Info}
use Rattle.fv_plane.specs.declared.format.PixelType.{PixelType}
use Rattle.fv_plane.specs.declared.format.PixelType.TheVariants.{Y8, YV12}
use Rattle.fv_plane.specs.declared.format.Field.TheVariants.{Progressive, Unknown}
use Rattle.fv_plane.specs.declared.format.Tag.TheVariants.{Jpeg}
use Rattle.fv_plane.specs.Picture.{Clip, Picture}
use Rattle.y4m_stream.specs.Stream.{Stream}
use Rattle.row_laws.specs.Worlds.{frame, dots}

-- 25 frames a second
abbrev pub told : PixelType → ℕ → ℕ → ℕ → ℕ → Info
told kind bits width height frames = record {
  shape = record { kind = kind; bits = bits; width = width; height = height };
  frames = frames;
  num = 25;
  den = 1;
  field = Progressive;
  par = record { num = 1; den = 1 };
  tag = Jpeg;
}

abbrev pub m4_bytes : List ℕ
m4_bytes = codes "YUV4MPEG2 W1 H1 F25:1 Ip A1:1 Cmono\n" ++ dots (0 ∷ 1 ∷ 2 ∷ 3 ∷ [])

abbrev dot : ℕ → Picture
dot sample = record { shape = (told Y8 8 1 1 4).shape; planes = ((sample ∷ []) ∷ []) ∷ [] }

abbrev pub m4 : Clip
m4 = record { info = told Y8 8 1 1 4; pictures = dot 0 ∷ dot 1 ∷ dot 2 ∷ dot 3 ∷ [] }

abbrev pub m1_bytes : List ℕ
m1_bytes = codes "YUV4MPEG2 W1 H1 F25:1 Ip A1:1 Cmono\n" ++ dots (9 ∷ [])

abbrev pub m1 : Clip
m1 = record { info = told Y8 8 1 1 1; pictures = dot 9 ∷ [] }

-- the word of the chroma's place is a comment, which is not read
abbrev pub p_bytes : List ℕ
p_bytes = codes "YUV4MPEG2 W2 H2 F25:1 Ip A1:1 C420jpeg XYSCSS=420JPEG\n" ++ frame (16 ∷ 32 ∷ 48 ∷ 64 ∷ 128 ∷ 144 ∷ [])

abbrev pub p : Clip
p = record {
  info = told YV12 8 2 2 1;
  pictures =
      record { shape = (told YV12 8 2 2 1).shape; planes = ((16 ∷ 32 ∷ []) ∷ (48 ∷ 64 ∷ []) ∷ []) ∷ ((128 ∷ []) ∷ []) ∷ ((144 ∷ []) ∷ []) ∷ [] } ∷ [];
}

-- of two widths the last one counts, a rate is in lowest terms, and a mixed order of fields is unknown
abbrev pub q_bytes : List ℕ
q_bytes = codes "YUV4MPEG2 C420jpeg W9 A1:1 W2 H2 Xc F50:2 Im\n" ++ frame (16 ∷ 32 ∷ 48 ∷ 64 ∷ 128 ∷ 144 ∷ [])

abbrev pub q : Clip
q = record { info = record p.info { field = Unknown }; pictures = p.pictures }

-- the low byte of a sample comes first
abbrev pub d10_bytes : List ℕ
d10_bytes = codes "YUV4MPEG2 W2 H1 F25:1 Ip A1:1 Cmono10\n" ++ frame (1 ∷ 2 ∷ 0 ∷ 8 ∷ [])

abbrev pub d10 : Clip
d10 = record {
  info = told Y8 10 2 1 1;
  pictures = record { shape = (told Y8 10 2 1 1).shape; planes = ((513 ∷ 1023 ∷ []) ∷ []) ∷ [] } ∷ [];
}

pub record AreStreams : Type 0 where
  pub m4_is : Stream m4_bytes m4
  pub m1_is : Stream m1_bytes m1
  pub p_is : Stream p_bytes p
  pub q_is : Stream q_bytes q
  pub d10_is : Stream d10_bytes d10
