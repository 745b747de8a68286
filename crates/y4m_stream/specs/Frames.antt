-- The head of a frame in bytes that were read, the next frame, and where frames are.
use Rattle.std.specs.Prelude.{◌≡◌, ◌≢◌, ℕ, ◌+◌, ◌<◌, ◌≤◌, ◌^◌, List, [], map, length, take, drop, true, false, Option, Some, None, slice_index}
use Rattle.std.specs.List.{position, position_or_len}
use Rattle.fv_plane.specs.declared.format.TheConstants.Info.{MAX_FRAMES}
use Rattle.y4m_stream.specs.declared.fault.IndexFault.{IndexFault}
use Rattle.y4m_stream.specs.declared.fault.IndexFault.TheVariants.{Y4m, Read, Memory}
use Rattle.y4m_stream.specs.declared.frame_finding.FrameHead.{FrameHead}
use Rattle.y4m_stream.specs.declared.frame_finding.FrameHead.TheVariants as of_head
use Rattle.y4m_stream.specs.Stream.{offsets_from, is_newline, is_bad, IsFrame, FramesThen, BreaksBy, fault_after}

-- what the bytes begin with: the head of a frame, none, or the beginning of one
abbrev pub IsFrameHead : FrameHead → List ℕ → Type 0
IsFrameHead (of_head.Whole len) left = (is_bad left ≡ false) × (len ≡ position_or_len is_newline left + 1) × (len ≤ length left) × (len ≤ 4096)
IsFrameHead of_head.Bad left = is_bad left ≡ true
IsFrameHead of_head.Cut left = (is_bad left ≡ false) × (position is_newline left ≡ None) × (length left < 4096)

-- a frame with a head of this length comes next
pub record IsNext (len size : ℕ) (left after : List ℕ) : Type 0 where
  pub len_is : len ≡ position_or_len is_newline left + 1
  pub frame : IsFrame size left (take size (drop len left)) after

-- a frame with a head of this length was found next, or the end
abbrev pub FindsNext : ℕ → List ℕ → List ℕ → Option ℕ → Type 0
FindsNext size left after None = left ≡ []
FindsNext size left after (Some len) = IsNext len size left after

-- the end comes after k frames, or a frame comes after k that are not too many
abbrev pub CountsOn : ℕ → Option ℕ → Type 0
CountsOn k None = 0 < k
CountsOn k (Some len) = (k ≢ MAX_FRAMES) × (len ≤ 4096)

-- what each fault shows of what is left after k frames
abbrev pub NextFault : ℕ → ℕ → List ℕ → IndexFault → Type 0
NextFault size k left (Y4m fault) = fault_after size k left ≡ Some fault
NextFault size k left Read = Unit {0}
NextFault size k left Memory = Unit {0}

-- what each fault shows of all that comes after the head of a stream
abbrev pub FramesFault : ℕ → List ℕ → IndexFault → Type 0
FramesFault size text (Y4m fault) = BreaksBy size text fault
FramesFault size text Read = Unit {0}
FramesFault size text Memory = Unit {0}

-- the frames whose first samples are at these offsets
abbrev pub frames_at : List ℕ → ℕ → List ℕ → List (List ℕ)
frames_at told size offsets = map (λ offset. take size (drop offset told)) offsets

-- frames of this size at these offsets don't overlap, and end no later than here
pub record AreApart (size end : ℕ) (offsets : List ℕ) : Type 0 where
  pub apart : (n : ℕ) → n + 1 < length offsets → slice_index offsets n + size ≤ slice_index offsets (n + 1)
  pub ends : (n : ℕ) → n < length offsets → slice_index offsets n + size ≤ end

-- the offsets of an index's frames, also where the bytes aren't told
pub record AreOffsets (size : ℕ) (offsets : List ℕ) : Type 0 where
  pub apart : AreApart size (2 ^ 50) offsets
  pub some : 0 < length offsets
  pub most : length offsets ≤ MAX_FRAMES

-- from the start on the bytes are frames, whose first samples are at these offsets
pub record FindsFrames (told : List ℕ) (size start : ℕ) (offsets : List ℕ) : Type 0 where
  pub frames : FramesThen size (drop start told) (frames_at told size offsets) []
  pub offsets_are : offsets ≡ offsets_from told size start (length offsets)
