-- Small sources, and what is rendered of a clip: its info and the samples of its frames. The examples compute these.
use Rattle.std.specs.Prelude.{ℕ, List, [], ◌∷◌, map, Result, Ok, Err, ℤ, true}
use Rattle.std.specs.Prelude.{None}
use Rattle.std.specs.Option.{unwrap_or}
use Rattle.std.specs.List.{range_with_len, flat_map}
use Rattle.fv_plane.specs.declared.format.Info.{Info}
use Rattle.fv_plane.specs.declared.format.PixelType.TheVariants.{Y8, YV12, YV16, YV24, YV411}
use Rattle.fv_plane.specs.declared.format.Field.TheVariants.{Progressive, Top}
use Rattle.fv_plane.specs.declared.format.Tag.TheVariants.{Jpeg, Mpeg2}
use Rattle.fv_rows.specs.Rows.{flat_rows}
use Rattle.fv_plane.specs.Picture.{Picture}
use Rattle.clip_term.specs.declared.fault.FilterFault.{FilterFault}
use Rattle.clip_term.specs.declared.op.Channels.{Channels}
use Rattle.clip_term.specs.declared.op.SoftOp.TheVariants.{GeneralConvolution}
use Rattle.clip_term.specs.Blank.{BlankArgs, blank_info, colour_of, colour_given, default_clip}
use Rattle.clip_term.specs.Filters.{matrix_named}
use Rattle.clip_term.specs.Terms.{Act, ClipTerm, applied, no_terms, and_term, source, plain, soft, info_of, term_picture}

abbrev pub m4_told : Info
m4_told = record { shape = record { kind = Y8; bits = 8; width = 1; height = 1 }; frames = 4; num = 25; den = 1; field = Progressive; par = record { num = 1; den = 1 }; tag = Jpeg }

abbrev pub m3_told : Info
m3_told = record { shape = record { kind = Y8; bits = 8; width = 1; height = 1 }; frames = 3; num = 25; den = 1; field = Progressive; par = record { num = 1; den = 1 }; tag = Jpeg }

abbrev pub p_told : Info
p_told = record { shape = record { kind = YV12; bits = 8; width = 2; height = 2 }; frames = 1; num = 25; den = 1; field = Progressive; par = record { num = 1; den = 1 }; tag = Jpeg }

abbrev pub a12_told : Info
a12_told = record { shape = record { kind = YV12; bits = 8; width = 4; height = 4 }; frames = 2; num = 30; den = 1; field = Top; par = record { num = 4; den = 3 }; tag = Mpeg2 }

abbrev pub b12_told : Info
b12_told = record { shape = record { kind = YV12; bits = 8; width = 4; height = 4 }; frames = 2; num = 25; den = 1; field = Progressive; par = record { num = 1; den = 1 }; tag = Jpeg }

abbrev pub c12_told : Info
c12_told = record { shape = record { kind = YV12; bits = 8; width = 2; height = 4 }; frames = 1; num = 25; den = 1; field = Progressive; par = record { num = 1; den = 1 }; tag = Jpeg }

abbrev pub a16_told : Info
a16_told = record { shape = record { kind = YV16; bits = 8; width = 4; height = 2 }; frames = 2; num = 25; den = 1; field = Progressive; par = record { num = 1; den = 1 }; tag = Jpeg }

abbrev pub a24_told : Info
a24_told = record { shape = record { kind = YV24; bits = 8; width = 3; height = 2 }; frames = 2; num = 25; den = 1; field = Progressive; par = record { num = 1; den = 1 }; tag = Jpeg }

abbrev pub a11_told : Info
a11_told = record { shape = record { kind = YV411; bits = 8; width = 8; height = 1 }; frames = 1; num = 25; den = 1; field = Progressive; par = record { num = 1; den = 1 }; tag = Jpeg }

abbrev pub a8_told : Info
a8_told = record { shape = record { kind = Y8; bits = 8; width = 4; height = 3 }; frames = 3; num = 25; den = 1; field = Progressive; par = record { num = 1; den = 1 }; tag = Jpeg }

abbrev pub b8_told : Info
b8_told = record { shape = record { kind = Y8; bits = 8; width = 2; height = 2 }; frames = 2; num = 25; den = 1; field = Progressive; par = record { num = 1; den = 1 }; tag = Jpeg }

abbrev pub q8_told : Info
q8_told = record { shape = record { kind = Y8; bits = 8; width = 2; height = 2 }; frames = 1; num = 25; den = 1; field = Progressive; par = record { num = 1; den = 1 }; tag = Jpeg }

abbrev pub d10_told : Info
d10_told = record { shape = record { kind = Y8; bits = 10; width = 2; height = 1 }; frames = 1; num = 25; den = 1; field = Progressive; par = record { num = 1; den = 1 }; tag = Jpeg }

abbrev pub book : List (List Picture)
book =
    (record { shape = m4_told.shape; planes = (((0 ∷ []) ∷ []) ∷ []) } ∷ record { shape = m4_told.shape; planes = (((1 ∷ []) ∷ []) ∷ []) } ∷ record { shape = m4_told.shape; planes = (((2 ∷ []) ∷ []) ∷ []) } ∷ record { shape = m4_told.shape; planes = (((3 ∷ []) ∷ []) ∷ []) } ∷ [])
    ∷ (record { shape = m3_told.shape; planes = (((0 ∷ []) ∷ []) ∷ []) } ∷ record { shape = m3_told.shape; planes = (((1 ∷ []) ∷ []) ∷ []) } ∷ record { shape = m3_told.shape; planes = (((2 ∷ []) ∷ []) ∷ []) } ∷ [])
    ∷ (record { shape = p_told.shape; planes = (((16 ∷ 32 ∷ []) ∷ (48 ∷ 64 ∷ []) ∷ []) ∷ ((128 ∷ []) ∷ []) ∷ ((144 ∷ []) ∷ []) ∷ []) } ∷ [])
    ∷ (record { shape = a12_told.shape; planes = (((130 ∷ 183 ∷ 14 ∷ 238 ∷ []) ∷ (127 ∷ 26 ∷ 80 ∷ 57 ∷ []) ∷ (190 ∷ 240 ∷ 126 ∷ 194 ∷ []) ∷ (52 ∷ 127 ∷ 6 ∷ 110 ∷ []) ∷ []) ∷ ((208 ∷ 143 ∷ []) ∷ (93 ∷ 199 ∷ []) ∷ []) ∷ ((81 ∷ 36 ∷ []) ∷ (71 ∷ 227 ∷ []) ∷ []) ∷ []) } ∷ record { shape = a12_told.shape; planes = (((64 ∷ 67 ∷ 0 ∷ 2 ∷ []) ∷ (107 ∷ 110 ∷ 84 ∷ 85 ∷ []) ∷ (148 ∷ 160 ∷ 101 ∷ 104 ∷ []) ∷ (93 ∷ 100 ∷ 196 ∷ 152 ∷ []) ∷ []) ∷ ((11 ∷ 184 ∷ []) ∷ (212 ∷ 84 ∷ []) ∷ []) ∷ ((74 ∷ 135 ∷ []) ∷ (33 ∷ 169 ∷ []) ∷ []) ∷ []) } ∷ [])
    ∷ (record { shape = b12_told.shape; planes = (((154 ∷ 1 ∷ 173 ∷ 33 ∷ []) ∷ (158 ∷ 181 ∷ 156 ∷ 246 ∷ []) ∷ (161 ∷ 94 ∷ 246 ∷ 241 ∷ []) ∷ (90 ∷ 29 ∷ 131 ∷ 11 ∷ []) ∷ []) ∷ ((183 ∷ 206 ∷ []) ∷ (9 ∷ 214 ∷ []) ∷ []) ∷ ((187 ∷ 192 ∷ []) ∷ (4 ∷ 231 ∷ []) ∷ []) ∷ []) } ∷ record { shape = b12_told.shape; planes = (((23 ∷ 92 ∷ 100 ∷ 60 ∷ []) ∷ (125 ∷ 236 ∷ 176 ∷ 181 ∷ []) ∷ (128 ∷ 236 ∷ 55 ∷ 188 ∷ []) ∷ (151 ∷ 18 ∷ 221 ∷ 46 ∷ []) ∷ []) ∷ ((106 ∷ 174 ∷ []) ∷ (185 ∷ 75 ∷ []) ∷ []) ∷ ((174 ∷ 141 ∷ []) ∷ (47 ∷ 159 ∷ []) ∷ []) ∷ []) } ∷ [])
    ∷ (record { shape = c12_told.shape; planes = (((162 ∷ 156 ∷ []) ∷ (90 ∷ 40 ∷ []) ∷ (76 ∷ 158 ∷ []) ∷ (247 ∷ 82 ∷ []) ∷ []) ∷ ((24 ∷ []) ∷ (41 ∷ []) ∷ []) ∷ ((207 ∷ []) ∷ (16 ∷ []) ∷ []) ∷ []) } ∷ [])
    ∷ (record { shape = a16_told.shape; planes = (((121 ∷ 176 ∷ 128 ∷ 233 ∷ []) ∷ (215 ∷ 74 ∷ 28 ∷ 16 ∷ []) ∷ []) ∷ ((252 ∷ 171 ∷ []) ∷ (106 ∷ 66 ∷ []) ∷ []) ∷ ((67 ∷ 211 ∷ []) ∷ (54 ∷ 86 ∷ []) ∷ []) ∷ []) } ∷ record { shape = a16_told.shape; planes = (((222 ∷ 190 ∷ 76 ∷ 30 ∷ []) ∷ (215 ∷ 150 ∷ 72 ∷ 232 ∷ []) ∷ []) ∷ ((86 ∷ 232 ∷ []) ∷ (249 ∷ 162 ∷ []) ∷ []) ∷ ((245 ∷ 140 ∷ []) ∷ (149 ∷ 240 ∷ []) ∷ []) ∷ []) } ∷ [])
    ∷ (record { shape = a24_told.shape; planes = (((206 ∷ 75 ∷ 57 ∷ []) ∷ (193 ∷ 91 ∷ 255 ∷ []) ∷ []) ∷ ((173 ∷ 92 ∷ 45 ∷ []) ∷ (251 ∷ 139 ∷ 184 ∷ []) ∷ []) ∷ ((32 ∷ 182 ∷ 17 ∷ []) ∷ (156 ∷ 186 ∷ 143 ∷ []) ∷ []) ∷ []) } ∷ record { shape = a24_told.shape; planes = (((248 ∷ 135 ∷ 150 ∷ []) ∷ (174 ∷ 91 ∷ 5 ∷ []) ∷ []) ∷ ((242 ∷ 128 ∷ 166 ∷ []) ∷ (140 ∷ 237 ∷ 147 ∷ []) ∷ []) ∷ ((182 ∷ 178 ∷ 140 ∷ []) ∷ (176 ∷ 209 ∷ 179 ∷ []) ∷ []) ∷ []) } ∷ [])
    ∷ (record { shape = a11_told.shape; planes = (((88 ∷ 230 ∷ 186 ∷ 171 ∷ 72 ∷ 85 ∷ 101 ∷ 185 ∷ []) ∷ []) ∷ ((244 ∷ 144 ∷ []) ∷ []) ∷ ((40 ∷ 213 ∷ []) ∷ []) ∷ []) } ∷ [])
    ∷ (record { shape = a8_told.shape; planes = (((87 ∷ 215 ∷ 154 ∷ 138 ∷ []) ∷ (14 ∷ 100 ∷ 81 ∷ 225 ∷ []) ∷ (92 ∷ 112 ∷ 92 ∷ 21 ∷ []) ∷ []) ∷ []) } ∷ record { shape = a8_told.shape; planes = (((241 ∷ 115 ∷ 84 ∷ 27 ∷ []) ∷ (68 ∷ 56 ∷ 162 ∷ 92 ∷ []) ∷ (247 ∷ 99 ∷ 18 ∷ 212 ∷ []) ∷ []) ∷ []) } ∷ record { shape = a8_told.shape; planes = (((238 ∷ 179 ∷ 194 ∷ 36 ∷ []) ∷ (104 ∷ 121 ∷ 191 ∷ 0 ∷ []) ∷ (179 ∷ 207 ∷ 142 ∷ 209 ∷ []) ∷ []) ∷ []) } ∷ [])
    ∷ (record { shape = b8_told.shape; planes = (((58 ∷ 191 ∷ []) ∷ (18 ∷ 154 ∷ []) ∷ []) ∷ []) } ∷ record { shape = b8_told.shape; planes = (((48 ∷ 151 ∷ []) ∷ (173 ∷ 150 ∷ []) ∷ []) ∷ []) } ∷ [])
    ∷ (record { shape = q8_told.shape; planes = (((1 ∷ 2 ∷ []) ∷ (3 ∷ 4 ∷ []) ∷ []) ∷ []) } ∷ [])
    ∷ (record { shape = d10_told.shape; planes = (((513 ∷ 1023 ∷ []) ∷ []) ∷ []) } ∷ [])
    ∷ []

abbrev pub m4 : ClipTerm
m4 = applied (source [] 0 m4_told) no_terms

abbrev pub m3 : ClipTerm
m3 = applied (source [] 1 m3_told) no_terms

abbrev pub p : ClipTerm
p = applied (source [] 2 p_told) no_terms

abbrev pub a12 : ClipTerm
a12 = applied (source [] 3 a12_told) no_terms

abbrev pub b12 : ClipTerm
b12 = applied (source [] 4 b12_told) no_terms

abbrev pub c12 : ClipTerm
c12 = applied (source [] 5 c12_told) no_terms

abbrev pub a16 : ClipTerm
a16 = applied (source [] 6 a16_told) no_terms

abbrev pub a24 : ClipTerm
a24 = applied (source [] 7 a24_told) no_terms

abbrev pub a11 : ClipTerm
a11 = applied (source [] 8 a11_told) no_terms

abbrev pub a8 : ClipTerm
a8 = applied (source [] 9 a8_told) no_terms

abbrev pub b8 : ClipTerm
b8 = applied (source [] 10 b8_told) no_terms

abbrev pub q8 : ClipTerm
q8 = applied (source [] 11 q8_told) no_terms

abbrev pub d10 : ClipTerm
d10 = applied (source [] 12 d10_told) no_terms

abbrev pub one : Act → ClipTerm → ClipTerm
one act c = applied act (and_term c no_terms)

abbrev pub two : Act → ClipTerm → ClipTerm → ClipTerm
two act c d = applied act (and_term c (and_term d no_terms))

abbrev pub none_given : BlankArgs
none_given = record { length = None; width = None; height = None; pixel_type = None; fps = None; fps_denominator = None; color_yuv = None }

abbrev pub blank_over : Info → BlankArgs → ClipTerm
blank_over c args = applied (plain (blank_info c args) (colour_of (colour_given args))) no_terms

abbrev pub blank_clip : BlankArgs → ClipTerm
blank_clip args = blank_over default_clip args

abbrev pub all_channels : Channels
all_channels = record { y = true; u = true; v = true }

abbrev pub convolution : ℤ → List ℕ → Act
convolution bias text = soft (GeneralConvolution bias (record { entries = unwrap_or (matrix_named text) [] }))

-- the samples of a picture, plane by plane and row by row
abbrev pub samples : Picture → List ℕ
samples picture = flat_map flat_rows picture.planes

abbrev pub frames_of : ClipTerm → Result Info FilterFault → Result (Info × List (List ℕ)) FilterFault
frames_of c (Ok info) = Ok (info, map (λ n. samples (term_picture book c n)) (range_with_len 0 info.frames))
frames_of c (Err fault) = Err fault

abbrev pub rendered : ClipTerm → Result (Info × List (List ℕ)) FilterFault
rendered c = frames_of c (info_of c)
