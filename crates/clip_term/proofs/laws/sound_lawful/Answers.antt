use Rattle.clip_term.proofs.SoundLemmas.{sound_lawful}
use Rattle.clip_term.proofs.laws.sound_lawful.Goals as goal

pub returns : goal.returns
returns c = sound_lawful
