-- Files of a world as scripts and as clips, each computed.
use Rattle.std.specs.Prelude.{◌≡◌, [], ◌∷◌, Ok, Err}
use Rattle.std.specs.Prelude.{codes, Some, None}
use Rattle.y4m_stream.specs.declared.fault.Y4mFault.TheVariants.{NotY4m, NoFrames, Truncated}
use Rattle.avs_meaning.specs.State.{script_in, clip_in}
use Rattle.avs_meaning.specs.declared.fault.FileKind.TheVariants as f
use Rattle.avs_meaning.specs.declared.fault.InputFault.TheVariants as i

pub record ScriptsInWorlds : Type 0 where
  pub no_file : script_in None ≡ Err f.NotThere
  pub a_script : script_in (Some (codes "Version")) ≡ Ok (codes "Version")
  -- a byte that no UTF-8 has
  pub no_text : script_in (Some (255 ∷ [])) ≡ Err f.NotUtf8
  pub no_clip : clip_in (Some (codes "RIFF")) ≡ Err (i.Y4m NotY4m)
  pub no_frames : clip_in (Some (codes "YUV4MPEG2 W1 H1 Cmono\n")) ≡ Err (i.Y4m NoFrames)
  -- the second frame has no sample
  pub cut_frame : clip_in (Some (codes "YUV4MPEG2 W1 H1 Cmono\nFRAME\n0FRAME\n")) ≡ Err (i.Y4m (Truncated 1))
