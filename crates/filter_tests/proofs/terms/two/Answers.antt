use Rattle.std.proofs.Common.{[], ◌∷◌}
use Rattle.clip_term.specs.Terms.{AreSoundTerms}
use Rattle.clip_reference.specs.Sources.{HaveSources}
use Rattle.filter_tests.proofs.BuiltLemmas.{sound_by, sources_by, filter_has}
use Rattle.filter_tests.proofs.terms.two.Goals as goal

pub returns-clause-sound : goal.returns-clause-sound
unfolding AreSoundTerms
returns-clause-sound c =
    sound_by _ (c.args.first ∷ c.args.second ∷ []) c.in_ok-inputs.ensures.items c.requires.op (c.requires.sound.0, (c.requires.sound.1, tt))

pub returns-clause-sources : goal.returns-clause-sources
unfolding HaveSources
returns-clause-sources c =
    sources_by c.args.book.now _ (c.args.first ∷ c.args.second ∷ []) c.in_ok-inputs.ensures.items (filter_has c.args.book.now _ c.requires.filter)
    (c.requires.sources.0, (c.requires.sources.1, tt))
