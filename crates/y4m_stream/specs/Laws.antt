-- What the definitions of a stream and of its faults determine, and that a written stream is one.
use Rattle.std.specs.Prelude.{◌≡◌, ◌⊎◌, ℕ, List}
use Rattle.fv_plane.specs.declared.format.PixelType.TheVariants.{YV12}
use Rattle.fv_plane.specs.declared.format.Tag.TheVariants.{Jpeg}
use Rattle.fv_plane.specs.Picture.{Clip, IsClip}
use Rattle.y4m_stream.specs.declared.fault.Y4mFault.{Y4mFault}
use Rattle.y4m_stream.specs.Stream.{Stream, HasFault, stream}

-- bytes have either a fault, or one clip
pub record ReadsOneWay : Type 0 where
  pub some : (bytes : List ℕ) → ((clip : Clip) × Stream bytes clip) ⊎ ((fault : Y4mFault) × HasFault bytes fault)
  pub not_both : (bytes : List ℕ) (clip : Clip) (fault : Y4mFault) → Stream bytes clip → HasFault bytes fault → ⊥
  pub one_clip : (bytes : List ℕ) (one other : Clip) → Stream bytes one → Stream bytes other → one ≡ other
  pub one_fault : (bytes : List ℕ) (one other : Y4mFault) → HasFault bytes one → HasFault bytes other → one ≡ other

-- what is written for a clip is a stream of it, where the clip's format has a name of its own
abbrev pub WrittenIsStream : Type 0
WrittenIsStream = (clip : Clip) → IsClip clip → (clip.info.tag ≡ Jpeg) ⊎ ((clip.info.shape.kind ≡ YV12) × (clip.info.shape.bits ≡ 8)) → Stream (stream clip) clip
