-- Scripts over small streams, and the whole text that each writes: the head, and the frames with their samples.
use Rattle.std.specs.Prelude.{◌≡◌, ℕ, List, [], ◌∷◌, ◌++◌, codes}
use Rattle.fv_io.specs.FilesState.{Entry}
use Rattle.avs_values.specs.Values.{Text}
use Rattle.avs_meaning.specs.Meaning.{Meaning, meaning, wrong}
use Rattle.avs_meaning.specs.State.{Outside}
use Rattle.avs_meaning.specs.Faults.{script, input}
use Rattle.avs_meaning.specs.declared.fault.InputFault.TheVariants as i
use Rattle.avs_meaning.specs.declared.fault.ScriptKind.TheVariants as k
use Rattle.avs_lex.specs.declared.fault.LexKind.TheVariants.{FloatLiteral}
use Rattle.clip_term.specs.declared.fault.FilterFault.TheVariants as filter
use Rattle.y4m_stream.specs.declared.fault.Y4mFault.TheVariants.{NoFrames, Truncated}
use Rattle.row_laws.specs.Worlds.{file, outside_with, text_of, frame, dots}
use Rattle.row_laws.specs.SmallStreams.{m4_bytes, m1_bytes, p_bytes, q_bytes, d10_bytes, m4, m1, p, q, d10}

abbrev pub here : Text
here = codes "s.avs"

-- the first bytes of p, with its head and without its last sample
abbrev pub p_cut : List ℕ
p_cut = codes "YUV4MPEG2 W2 H2 F25:1 Ip A1:1 C420jpeg\n" ++ frame (16 ∷ 32 ∷ 48 ∷ 64 ∷ 128 ∷ [])

-- the head of one sample, at this rate
abbrev pub mono : Text → List ℕ
mono rate = codes "YUV4MPEG2 W1 H1 F" ++ rate ++ codes " Ip A1:1 Cmono\n"

-- by what the files tell
module _ (outside : List Entry → Outside) where
  abbrev means : List Entry → Text → Meaning
  means files text = meaning (outside (file here text ∷ files)) here

  -- what a script writes beside the file m4.y4m, and beside the others
  abbrev of_m4 : Text → List ℕ
  of_m4 text = text_of (m4.pictures ∷ []) (means (file (codes "m4.y4m") m4_bytes ∷ []) text)

  -- of two sources the first one that is opened comes first
  abbrev of_m4_twice : Text → List ℕ
  of_m4_twice text = text_of (m4.pictures ∷ m4.pictures ∷ []) (means (file (codes "m4.y4m") m4_bytes ∷ []) text)

  abbrev of_m4_and_m1 : Text → List ℕ
  of_m4_and_m1 text =
      text_of (m4.pictures ∷ m1.pictures ∷ []) (means (file (codes "m1.y4m") m1_bytes ∷ file (codes "m4.y4m") m4_bytes ∷ []) text)

  abbrev of_p : Text → List ℕ
  of_p text = text_of (p.pictures ∷ []) (means (file (codes "p.y4m") p_bytes ∷ []) text)

  abbrev of_q : Text → List ℕ
  of_q text = text_of (q.pictures ∷ []) (means (file (codes "q.y4m") q_bytes ∷ []) text)

  abbrev of_d10 : Text → List ℕ
  of_d10 text = text_of (d10.pictures ∷ []) (means (file (codes "d10.y4m") d10_bytes ∷ []) text)

  pub record TextsBy : Type 0 where
    pub source : of_m4 (codes "Y4MSource(\"m4.y4m\")") ≡ mono (codes "25:1") ++ dots (0 ∷ 1 ∷ 2 ∷ 3 ∷ [])
    -- Trim(0, 0) is the whole clip, Trim(0, -1) one frame, and Trim(1, 2) the frames 1 and 2
    pub trim_of_all : of_m4 (codes "Y4MSource(\"m4.y4m\")\nTrim(0, 0)") ≡ mono (codes "25:1") ++ dots (0 ∷ 1 ∷ 2 ∷ 3 ∷ [])
    pub trim_of_one : of_m4 (codes "Y4MSource(\"m4.y4m\")\nTrim(0, -1)") ≡ mono (codes "25:1") ++ dots (0 ∷ [])
    pub trim_of_two : of_m4 (codes "Y4MSource(\"m4.y4m\")\nTrim(1, 2)") ≡ mono (codes "25:1") ++ dots (1 ∷ 2 ∷ [])
    pub reverse : of_m4 (codes "Y4MSource(\"m4.y4m\")\nReverse") ≡ mono (codes "25:1") ++ dots (3 ∷ 2 ∷ 1 ∷ 0 ∷ [])
    -- two of three frames, at two thirds of the rate
    pub select : of_m4 (codes "Y4MSource(\"m4.y4m\").SelectEvery(3, 0, 2)") ≡ mono (codes "50:3") ++ dots (0 ∷ 2 ∷ 3 ∷ [])
    -- a frame of each in turn, at twice the rate, as long as one of them has a frame; the shorter one repeats its last
    pub interleave : of_m4 (codes "a = Y4MSource(\"m4.y4m\")\nInterleave(a, a.Trim(3, -1))")
        ≡ mono (codes "50:1") ++ dots (0 ∷ 3 ∷ 1 ∷ 3 ∷ 2 ∷ 3 ∷ 3 ∷ [])
    -- a file is a source each time that it is opened
    pub two_sources : of_m4_twice (codes "Interleave(Y4MSource(\"m4.y4m\"), Y4MSource(\"m4.y4m\").Reverse)")
        ≡ mono (codes "50:1") ++ dots (0 ∷ 3 ∷ 1 ∷ 2 ∷ 2 ∷ 1 ∷ 3 ∷ 0 ∷ [])
    pub two_files : of_m4_and_m1 (codes "Y4MSource(\"m4.y4m\") + Y4MSource(\"m1.y4m\")")
        ≡ mono (codes "25:1") ++ dots (0 ∷ 1 ∷ 2 ∷ 3 ∷ 9 ∷ [])
    -- halves are rounded up: of 0 and 3, and of 1 and 2
    pub merge : of_m4 (codes "c = Y4MSource(\"m4.y4m\")\nMerge(c, c.Reverse)") ≡ mono (codes "25:1") ++ dots (2 ∷ 2 ∷ 2 ∷ 2 ∷ [])
    -- a function of the script, called with `last`, by a dot, and with its clip
    pub function : of_m4 (codes "function Cut(clip c, int \"n\") { return c.Trim(0, 0 - Default(n, 1)) }\nY4MSource(\"m4.y4m\")\nCut(n=2)")
        ≡ mono (codes "25:1") ++ dots (0 ∷ 1 ∷ [])
    pub function_by_dot : of_m4 (codes "function Cut(clip c, int \"n\") { return c.Trim(0, 0 - Default(n, 1)) }\nY4MSource(\"m4.y4m\").Cut(n=2)")
        ≡ mono (codes "25:1") ++ dots (0 ∷ 1 ∷ [])
    pub function_of_a_clip : of_m4 (codes "function Cut(clip c, int \"n\") { return c.Trim(0, 0 - Default(n, 1)) }\nCut(Y4MSource(\"m4.y4m\"), 2)")
        ≡ mono (codes "25:1") ++ dots (0 ∷ 1 ∷ [])
    -- thirds of 1, 3, 6 and 8, rounded
    pub soften : of_m4 (codes "Y4MSource(\"m4.y4m\").TemporalSoften(1, 255, 0)") ≡ mono (codes "25:1") ++ dots (0 ∷ 1 ∷ 2 ∷ 3 ∷ [])
    -- the first clip in frames 0 and 2, its reverse in frames 1 and 3
    pub by_the_frame : of_m4 (codes "c = Y4MSource(\"m4.y4m\")\nConditionalSelect(c, \"current_frame % 2\", c, c.Reverse)")
        ≡ mono (codes "25:1") ++ dots (0 ∷ 2 ∷ 2 ∷ 0 ∷ [])
    -- the clip where its greatest sample is below 2, else its reverse
    pub by_the_sample : of_m4 (codes "c = Y4MSource(\"m4.y4m\")\nConditionalFilter(c, c, c.Reverse, \"YPlaneMax\", \"<\", \"2\")")
        ≡ mono (codes "25:1") ++ dots (0 ∷ 1 ∷ 1 ∷ 0 ∷ [])
    -- a loop: the clip three times, and of that the frames 3 to 5
    pub loop : of_m4 (codes "c = Y4MSource(\"m4.y4m\")\nr = c\nfor (i = 1, 2) { r = r + c }\nr.Trim(3, 5)")
        ≡ mono (codes "25:1") ++ dots (3 ∷ 0 ∷ 1 ∷ [])
    -- no float, as it is in a string
    pub string : of_m4 (codes "x = \"1.5\"\nY4MSource(\"m4.y4m\")") ≡ mono (codes "25:1") ++ dots (0 ∷ 1 ∷ 2 ∷ 3 ∷ [])
    -- a joined line, a comment, a nested comment, and what comes after the end
    pub comments : of_m4 (codes "Y4MSource(\"m4.y4m\") \\\n  .Trim(1, 0)  # rest\n[* a [* b *] c *]\n__END__\nnonsense (")
        ≡ mono (codes "25:1") ++ dots (1 ∷ 2 ∷ 3 ∷ [])
    -- a picture of three planes: luma row by row, and a sample of U and of V
    pub picture : of_p (codes "Y4MSource(\"p.y4m\")")
        ≡ codes "YUV4MPEG2 W2 H2 F25:1 Ip A1:1 C420jpeg\n" ++ frame (16 ∷ 32 ∷ 48 ∷ 64 ∷ 128 ∷ 144 ∷ [])
    -- the head is written anew
    pub head : of_q (codes "Y4MSource(\"q.y4m\")")
        ≡ codes "YUV4MPEG2 W2 H2 F25:1 I? A1:1 C420jpeg\n" ++ frame (16 ∷ 32 ∷ 48 ∷ 64 ∷ 128 ∷ 144 ∷ [])
    pub upside_down : of_p (codes "Y4MSource(\"p.y4m\")\nFlipVertical")
        ≡ codes "YUV4MPEG2 W2 H2 F25:1 Ip A1:1 C420jpeg\n" ++ frame (48 ∷ 64 ∷ 16 ∷ 32 ∷ 128 ∷ 144 ∷ [])
    pub planes_exchanged : of_p (codes "Y4MSource(\"p.y4m\")\nSwapUV")
        ≡ codes "YUV4MPEG2 W2 H2 F25:1 Ip A1:1 C420jpeg\n" ++ frame (16 ∷ 32 ∷ 48 ∷ 64 ∷ 144 ∷ 128 ∷ [])
    -- samples of two bytes, the low one first; 2048 is read as 1023
    pub ten_bits : of_d10 (codes "Y4MSource(\"d10.y4m\")\nFlipHorizontal")
        ≡ codes "YUV4MPEG2 W2 H1 F25:1 Ip A1:1 Cmono10\n" ++ frame (255 ∷ 3 ∷ 1 ∷ 2 ∷ [])

  pub record FaultsBy : Type 0 where
    -- the last frame is before the first one
    pub trim : means (file (codes "m4.y4m") m4_bytes ∷ []) (codes "Y4MSource(\"m4.y4m\")\nTrim(2, 1)")
        ≡ wrong (script (k.Filter filter.BadRange) here 2)
    pub float : means [] (codes "x = 1\ny = 1.5") ≡ wrong (script (k.Lex FloatLiteral) here 2)
    pub empty : means [] [] ≡ wrong (script k.NotClip here 1)
    pub no_clip : means [] (codes "FlipVertical") ≡ wrong (script k.NoMatch here 1)
    pub no_function : means [] (codes "\nFoo(1)") ≡ wrong (script k.UnknownName here 2)
    pub two_functions : means [] (codes "function F() { return 1 }\nfunction f() { return 2 }")
        ≡ wrong (script k.DuplicateFunction here 2)
    pub not_closed : means [] (codes "x = (1\n") ≡ wrong (script k.Syntax here 2)
    -- the clip has two frames
    pub assertion : means (file (codes "m4.y4m") m4_bytes ∷ []) (codes "Y4MSource(\"m4.y4m\")\nTrim(1, 2)\nAssert(FrameCount == 3, \"short\")")
        ≡ wrong (script (k.AssertFailed (codes "short")) here 3)
    -- half a sample of chroma
    pub chroma : means (file (codes "p.y4m") p_bytes ∷ []) (codes "Y4MSource(\"p.y4m\")\nCrop(1, 0, 1, 2)")
        ≡ wrong (script (k.Filter filter.NotWholeChroma) here 2)
    pub overflow : means [] (codes "x = 9223372036854775807 + 1") ≡ wrong (script k.Overflow here 1)
    pub no_file : means [] (codes "Y4MSource(\"none.y4m\")") ≡ wrong (input (codes "none.y4m") i.NotThere)
    pub no_frames : means (file (codes "p.y4m") (codes "YUV4MPEG2 W2 H2\n") ∷ []) (codes "Y4MSource(\"p.y4m\")")
        ≡ wrong (input (codes "p.y4m") (i.Y4m NoFrames))
    pub cut : means (file (codes "p.y4m") p_cut ∷ []) (codes "Y4MSource(\"p.y4m\")")
        ≡ wrong (input (codes "p.y4m") (i.Y4m (Truncated 0)))

abbrev pub StreamTexts : Type 0
StreamTexts = TextsBy outside_with

abbrev pub ScriptFaults : Type 0
ScriptFaults = FaultsBy outside_with
