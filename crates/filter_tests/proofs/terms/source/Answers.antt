use Rattle.std.proofs.Common.{[], refl}
use Rattle.clip_term.specs.Terms.{AreSoundTerms}
use Rattle.clip_reference.specs.Sources.{HaveSources}
use Rattle.filter_tests.proofs.BuiltLemmas.{sound_by, sources_by}
use Rattle.filter_tests.proofs.terms.source.Goals as goal

pub returns-clause-sound : goal.returns-clause-sound
unfolding AreSoundTerms
returns-clause-sound c = sound_by _ [] c.new-inputs.ensures.items (refl, c.requires.clip.info) tt

pub returns-clause-sources : goal.returns-clause-sources
unfolding HaveSources
returns-clause-sources c = sources_by c.args.book.now _ [] c.new-inputs.ensures.items c.requires.clip tt
