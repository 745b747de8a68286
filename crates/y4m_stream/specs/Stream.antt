-- Streams, what is wrong with bytes that are none, and what an index knows of one (yuv4mpeg(5) of mjpegtools).
use Rattle.std.specs.List.{flat_map, position, starts_with, slice_split, before_first, after_first, position_or_len}
use Rattle.std.specs.Prelude.{◌≡◌, ◌⊎◌, ℕ, ◌≤◌, ◌<◌, nat_eq, nat_le, nat_lt, List, [], ◌∷◌, ◌++◌, length, take, drop, codes, Option, Some, None, is_some, is_none, Bool, false, ◌==◌, not, ◌&&◌, ◌||◌, if◌then◌else◌, slice_index, map, zero, suc, ◌+◌, ◌^◌}
use Rattle.fv_plane.specs.Format.{frame_bytes}
use Rattle.fv_plane.specs.Info.{IsLawful}
use Rattle.fv_plane.specs.Picture.{bytes_of, picture_of, Clip, picture_at}
use Rattle.fv_plane.specs.declared.format.Info.{Info}
use Rattle.fv_plane.specs.declared.format.TheConstants.Info.{MAX_FRAMES}
use Rattle.y4m_stream.specs.Head.{magic, head, info_of, parameter_fault}
use Rattle.y4m_stream.specs.declared.fault.IndexFault.{IndexFault}
use Rattle.y4m_stream.specs.declared.fault.IndexFault.TheVariants.{Y4m, Read, Memory}
use Rattle.y4m_stream.specs.declared.fault.Y4mFault.{Y4mFault}
use Rattle.y4m_stream.specs.declared.fault.Y4mFault.TheVariants.{NotY4m, HeadTooLong, NoFrames, TooManyFrames, BadFrame, Truncated, NoSize, BadNumber, UnknownColour, BadSize, TooLarge}

-- ==== YUV4MPEG2 streams: which clip the bytes of a file are, and what is wrong with bytes that are no stream (yuv4mpeg(5) of
-- mjpegtools). A frame is a list of bytes here, plane after plane and row by row; the clip has its picture.

abbrev pub is_space : ℕ → Bool
is_space byte = byte == 32

abbrev pub is_newline : ℕ → Bool
is_newline byte = byte == 10

abbrev pub is_break : ℕ → Bool
is_break byte = is_space byte || is_newline byte

-- the first bytes are the magic word, and the next is a space or a newline
abbrev pub has_magic : List ℕ → Bool
has_magic bytes = starts_with nat_eq bytes magic && is_break (slice_index bytes 9)

-- a newline is among the first 4,096 bytes
abbrev pub has_line : List ℕ → Bool
has_line bytes = is_some (position is_newline (take 4096 bytes))

-- the parameters of a head: the runs of bytes between the spaces, from the magic word up to the first newline
abbrev pub parameters : List ℕ → List (List ℕ)
parameters bytes = slice_split is_space (drop 9 (before_first is_newline bytes))

-- the first fault of the head
abbrev pub head_fault : List ℕ → Option Y4mFault
head_fault bytes =
    if not (has_magic bytes) then Some NotY4m
    else (if not (has_line bytes) then Some HeadTooLong
    else parameter_fault (parameters bytes))

-- the info of the head, with this number of frames
abbrev pub head_info : List ℕ → ℕ → Info
head_info bytes frames = record (info_of (parameters bytes)) { frames = frames }

-- as far as they go, the first five bytes are FRAME and the next is a space or a newline
abbrev pub may_begin : List ℕ → Bool
may_begin left = starts_with nat_eq (codes "FRAME") (take 5 left) && (nat_le (length left) 5 || is_break (slice_index left 5))

-- these bytes are no head of a frame, nor the beginning of one
abbrev pub is_bad : List ℕ → Bool
is_bad left = not (may_begin left) || (nat_le 4096 (length left) && not (has_line left))

-- they end in the head of a frame, or before its last sample
abbrev pub is_cut : ℕ → List ℕ → Bool
is_cut size left = is_none (position is_newline left) || nat_lt (length (after_first is_newline left)) size

-- what is wrong where a frame should begin after k others
abbrev pub fault_after : ℕ → ℕ → List ℕ → Option Y4mFault
fault_after size k [] = if k == 0 then Some NoFrames else None
fault_after size k (byte ∷ left) =
    if k == MAX_FRAMES then Some TooManyFrames
    else (if is_bad (byte ∷ left) then Some (BadFrame k)
    else (if is_cut size (byte ∷ left) then Some (Truncated k)
    else None))

-- a frame: a head that ends at the first newline, its bytes, and then the rest
pub record IsFrame (size : ℕ) (text frame rest : List ℕ) : Type 0 where
  pub good : is_bad text ≡ false
  pub whole : is_cut size text ≡ false
  pub frame_is : frame ≡ take size (after_first is_newline text)
  pub rest_is : rest ≡ drop size (after_first is_newline text)

-- these frames, one after the other, and then the rest
abbrev pub FramesThen : ℕ → List ℕ → List (List ℕ) → List ℕ → Type 0
FramesThen size text [] rest = rest ≡ text
FramesThen size text (frame ∷ frames) rest = (after : List ℕ) × IsFrame size text frame after × FramesThen size after frames rest

-- the bytes of a frame of this head
abbrev pub size_of : List ℕ → ℕ
size_of bytes = frame_bytes (info_of (parameters bytes)).shape

-- what comes after the head
abbrev pub body : List ℕ → List ℕ
body bytes = after_first is_newline bytes

-- the bytes are a head of this info, and these frames
pub record ConsistsOf (bytes : List ℕ) (info : Info) (frames : List (List ℕ)) : Type 0 where
  pub head : head_fault bytes ≡ None
  pub info_is : info ≡ head_info bytes (length frames)
  pub frames_are : FramesThen (size_of bytes) (body bytes) frames []
  pub some : 0 < length frames
  pub most : length frames ≤ MAX_FRAMES

-- the bytes are a stream of this clip: a head of its info, and frames that are its pictures
pub record Stream (bytes : List ℕ) (clip : Clip) : Type 0 where
  pub frames : List (List ℕ)
  pub consists : ConsistsOf bytes clip.info frames
  pub pictures_are : clip.pictures ≡ map (picture_of clip.info.shape) frames

-- after these whole frames this is wrong
pub record BreaksBy (size : ℕ) (text : List ℕ) (fault : Y4mFault) : Type 0 where
  pub frames : List (List ℕ)
  pub rest : List ℕ
  pub before : FramesThen size text frames rest
  pub most : length frames ≤ MAX_FRAMES
  pub fault_is : fault_after size (length frames) rest ≡ Some fault

-- the first fault of bytes that are no stream: one of the head, or else the first after it
abbrev pub HasFault : List ℕ → Y4mFault → Type 0
HasFault bytes fault = (head_fault bytes ≡ Some fault) ⊎ ((head_fault bytes ≡ None) × BreaksBy (size_of bytes) (body bytes) fault)

-- how a frame is written
abbrev pub frame_text : List ℕ → List ℕ
frame_text frame = codes "FRAME\n" ++ frame

abbrev pub frames_text : List (List ℕ) → List ℕ
frames_text frames = flat_map frame_text frames

-- how a clip is written
abbrev pub stream : Clip → List ℕ
stream clip = head clip.info ++ frames_text (map bytes_of clip.pictures)

-- ==== The printed names of what is wrong with a stream.

abbrev pub fault_name : Y4mFault → List ℕ
fault_name NotY4m = codes "NotY4m"
fault_name HeadTooLong = codes "HeadTooLong"
fault_name NoSize = codes "NoSize"
fault_name (BadNumber letter) = codes "BadNumber"
fault_name UnknownColour = codes "UnknownColour"
fault_name BadSize = codes "BadSize"
fault_name TooLarge = codes "TooLarge"
fault_name NoFrames = codes "NoFrames"
fault_name TooManyFrames = codes "TooManyFrames"
fault_name (BadFrame frame) = codes "BadFrame"
fault_name (Truncated frame) = codes "Truncated"

-- ==== What an index knows of a stream.

pub record Indexed : Type 0 where
  pub info : Info
  -- the offset of the first sample of each frame
  pub offsets : List ℕ

-- the offsets are those of as many frames as the info says, one after the other, also where the bytes aren't told
pub record IsIndex (index : Indexed) : Type 0 where
  pub info : IsLawful index.info
  pub count : length index.offsets ≡ index.info.frames
  pub apart : (n : ℕ) → n + 1 < index.info.frames → slice_index index.offsets n + frame_bytes index.info.shape ≤ slice_index index.offsets (n + 1)
  pub ends : (n : ℕ) → n < index.info.frames → slice_index index.offsets n + frame_bytes index.info.shape < 2 ^ 60

-- the bytes of a line from an offset on, with its newline
abbrev pub line_len : List ℕ → ℕ → ℕ
line_len bytes start = position_or_len is_newline (drop start bytes) + 1

-- where the samples of count frames begin: each time after the line of the frame's head, the first of which is at the start
abbrev pub offsets_from : List ℕ → ℕ → ℕ → ℕ → List ℕ
offsets_from bytes size start zero = []
offsets_from bytes size start (suc count) =
    let offset = start + line_len bytes start in offset ∷ offsets_from bytes size (offset + size) count

-- the bytes are a stream of this clip, whose info and offsets the index has
pub record Indexes (bytes : List ℕ) (index : Indexed) (clip : Clip) : Type 0 where
  pub stream : Stream bytes clip
  pub info_is : index.info ≡ clip.info
  pub offsets_are : index.offsets ≡ offsets_from bytes (frame_bytes clip.info.shape) (line_len bytes 0) (length clip.pictures)
  pub pictures_are : (n : ℕ) → n < length clip.pictures → picture_at clip n ≡ picture_of clip.info.shape (drop (slice_index index.offsets n) bytes)

-- what each fault shows of the bytes
abbrev pub HasIndexFault : List ℕ → IndexFault → Type 0
HasIndexFault told (Y4m fault) = HasFault told fault
HasIndexFault told Read = Unit {0}
HasIndexFault told Memory = Unit {0}
