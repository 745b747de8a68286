-- The frames that were found after a head make a stream.
use Rattle.std.proofs.Common.{◌≡◌, refl, map, get_or, ℕ, ◌+◌, ◌<◌, ◌≤◌, List, [], ◌++◌, length, take, drop, None, sym, ◌∙◌, ap, arith, inr}
use Rattle.std.specs.List.{position_or_len}
use Rattle.std.proofs.lemmas.List.{drop-append-le, length-map, get_or-map}
use Rattle.fv_plane.specs.declared.format.Info.{Info}
use Rattle.fv_plane.specs.Format.{IsLegal, frame_bytes}
use Rattle.fv_plane.specs.Info.{IsRate, IsPar}
use Rattle.fv_plane.specs.Picture.{picture_of, Clip}
use Rattle.fv_plane.proofs.CallerLemmas.{picture_of-take}
use Rattle.y4m_stream.specs.declared.fault.Y4mFault.{Y4mFault}
use Rattle.y4m_stream.specs.declared.fault.IndexFault.{IndexFault}
use Rattle.y4m_stream.specs.declared.fault.IndexFault.TheVariants.{Y4m, Read, Memory}
use Rattle.y4m_stream.specs.Frames.{AreOffsets, FindsFrames, FramesFault, frames_at}
use Rattle.y4m_stream.specs.Stream.{IsIndex, Indexes, HasIndexFault, line_len, offsets_from, is_newline, head_fault, head_info, size_of, body, BreaksBy, HasFault}
use Rattle.y4m_stream.specs.Head.{info_of}
use Rattle.y4m_stream.proofs.HeadLemmas.{sound_line}
use Rattle.y4m_stream.proofs.WindowLemmas.{same_fault, same_place, same_parameters}

-- the offsets that were found are those of an index
pub is_index : (info : Info) (offsets : List ℕ) (count : ℕ) → IsLegal info.shape → IsRate info.num info.den → IsPar info.par → count ≡ length offsets
    → AreOffsets (frame_bytes info.shape) offsets → IsIndex (record { info = record info { frames = count }; offsets = offsets })
is_index info offsets count legal rate par count_is known = record {
  info = record { shape = legal; some = (let some = known.some in omega arith); most = (let most = known.most in omega arith); rate = rate; par = par };
  count = sym count_is;
  apart = λ n within. known.apart.apart n (omega arith);
  ends = λ n within. (let end = known.apart.ends n (omega arith) in omega arith);
}

module _ (told window rest : List ℕ) (is : told ≡ window ++ rest) (enough : length window < 4096 → rest ≡ []) (info : Info) (len : ℕ) (sound : head_fault window ≡ None) (says : info ≡ head_info window 0)
    (len_is : len ≡ position_or_len is_newline window + 1) (inside : len ≤ length window) where
  pub sound_told : head_fault told ≡ None
  sound_told = same_fault told window rest is enough ∙ sound

  -- the bytes say the same
  says_told : (n : ℕ) → record info { frames = n } ≡ head_info told n
  says_told n =
      ap (λ (i : Info). record i { frames = n }) says ∙ ap (λ (ps : List (List ℕ)). record (info_of ps) { frames = n }) (sym (same_parameters told window rest is enough (sound_line window sound)))

  pub size_told : frame_bytes info.shape ≡ size_of told
  size_told = ap (λ (i : Info). frame_bytes i.shape) (says_told 0)

  -- the bytes after the head
  pub body_is : body told ≡ drop len told
  body_is = ap (λ n. drop n told) (ap (λ n. n + 1) (same_place told window rest is enough (sound_line window sound)) ∙ sym len_is)

  pub left_is : drop len window ++ rest ≡ drop len told
  left_is = sym (ap (λ (l : List ℕ). drop len l) is ∙ drop-append-le len window rest inside)

  -- the clip of frames whose first samples are at these offsets
  abbrev pub clip_at : List ℕ → ℕ → Clip
  clip_at offsets count = record { info = record info { frames = count }; pictures = map (picture_of info.shape) (frames_at told (frame_bytes info.shape) offsets) }

  -- the head's line is found in all bytes
  line_told : line_len told 0 ≡ len
  line_told = ap (λ n. n + 1) (same_place told window rest is enough (sound_line window sound)) ∙ sym len_is

  -- frames that were found after the head make a stream
  pub indexes : (offsets : List ℕ) (count : ℕ) → count ≡ length offsets → AreOffsets (frame_bytes info.shape) offsets → FindsFrames told (frame_bytes info.shape) len offsets
      → Indexes told (record { info = record info { frames = count }; offsets = offsets }) (clip_at offsets count)
  indexes offsets count count_is lawful found =
      let size = frame_bytes info.shape in
      let frames = frames_at told size offsets in
      let sized : length frames ≡ length offsets = length-map offsets (λ offset. take size (drop offset told)) in
      let pictured : length (map (picture_of info.shape) frames) ≡ length offsets = length-map frames (picture_of info.shape) ∙ sized in
      record {
        stream = record {
          frames = frames;
          consists = record {
            head = sound_told;
            info_is = ap (λ n. record info { frames = n }) (count_is ∙ sym sized) ∙ says_told (length frames);
            frames_are = rw (← size_told, body_is) found.frames;
            some = (let some = lawful.some in omega (arith, sized));
            most = (let most = lawful.most in omega (arith, sized));
          };
          pictures_are = refl;
        };
        info_is = refl;
        offsets_are = found.offsets_are ∙ ap (λ n. offsets_from told size n (length offsets)) (sym line_told) ∙ ap (offsets_from told size (line_len told 0)) (sym pictured);
        pictures_are = λ n within.
            get_or-map (picture_of info.shape) frames n [] _ (omega (arith, within, pictured, sized))
            ∙ ap (picture_of info.shape) (get_or-map (λ offset. take size (drop offset told)) offsets n 0 [] (omega (arith, within, pictured)))
            ∙ picture_of-take info.shape (drop (get_or offsets n 0) told);
      }

  -- what is wrong after the head is the first fault
  breaks : (fault : Y4mFault) → BreaksBy (frame_bytes info.shape) (drop len told) fault → HasFault told fault
  breaks fault broken = inr (sound_told, rw (← size_told, body_is) broken)

  -- what each fault shows of the bytes
  pub explains : (fault : IndexFault) → FramesFault (frame_bytes info.shape) (drop len told) fault → HasIndexFault told fault
  explains (Y4m fault) broken = breaks fault broken
  explains Read broken = tt
  explains Memory broken = tt
