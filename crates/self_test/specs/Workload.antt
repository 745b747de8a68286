-- The files of the self test, and the digest of its stream.
use Rattle.hex.specs.Hex.{encode_lower}
use Rattle.sha2.specs.Hashers.{Holds256}
use Rattle.sha2.specs.Sha256.{sha256}
use Rattle.std.specs.FinMap.{from_entries}
use Rattle.std.specs.Fmt.{decimal}
use Rattle.std.specs.Prelude.{ℕ, zero, suc, ◌+◌, ◌*◌, ◌/◌, ◌%◌, ◌^◌, List, [], ◌∷◌, ◌++◌, codes, ◌≡◌, length}
use Rattle.sha2.specs.declared.Sha256.{Sha256}
use Rattle.fv_io.specs.World.{World}

-- ==== The files of the self test: a stream whose samples a generator gives, and a script.

-- the next state of a linear congruential generator modulo 2 ^ 32 (Press and others, "Numerical Recipes", ranqd1)
abbrev pub next : ℕ → ℕ
next x = (1664525 * x + 1013904223) % 2 ^ 32

-- the sample of a state: its upper eight bits
abbrev pub sample : ℕ → ℕ
sample x = x / 2 ^ 24

-- the samples of the states after this one
unfoldable pub samples : ℕ → ℕ → List ℕ
samples zero x = []
samples (suc n) x = sample (next x) ∷ samples n (next x)

-- the state after so many steps
unfoldable pub after : ℕ → ℕ → ℕ
after zero x = x
after (suc n) x = after n (next x)

-- frames of so many samples, with the states going on from frame to frame
unfoldable pub frames : ℕ → ℕ → ℕ → List ℕ
frames zero size x = []
frames (suc n) size x = codes "FRAME\n" ++ (samples size x ++ frames n size (after size x))

-- 96 frames of 320x240 4:2:0, from a first state
abbrev pub stream_from : ℕ → List ℕ
stream_from number = codes "YUV4MPEG2 W320 H240 F25:1 Ip A1:1 C420jpeg\n" ++ frames 96 115200 number

abbrev pub script : List ℕ
script = codes "a = Y4MSource(\"in.y4m\")\nb = a.Reverse.FlipVertical\nc = Merge(a, b).Crop(8, 8, -8, -8)\nd = Interleave(c, b.Crop(8, 8, -8, -8).Invert(\"Y\"))\nd.SelectEvery(3, 0, 2).Loop(4)\n"

-- the files
unfoldable pub self_world : ℕ → World
self_world number = from_entries ((codes "self.avs", script) ∷ (codes "in.y4m", stream_from number) ∷ [])

-- ==== A stream that was digested: what is kept of it, and the line that tells it.

-- what callers see of a sink that digests: the bytes that were put, and its faults
pub record DigestState : Type 0 where
  pub bytes : List ℕ
  pub faults : ℕ

-- the hasher has taken these bytes, and they are so many
pub record HasTaken (hasher : Sha256) (size : ℕ) (bytes : List ℕ) : Type 0 where
  pub holds : Holds256 hasher bytes
  pub size_is : size ≡ length bytes

-- the number of frames, the length and the SHA-256 of a stream, in decimal and in hexadecimal digits
abbrev pub digest_line : ℕ → List ℕ → List ℕ
digest_line frames stream = codes "frames " ++ (decimal frames ++ (codes " bytes " ++ (decimal (length stream)
    ++ (codes " sha256 " ++ (encode_lower (sha256 stream) ++ codes "\n")))))
