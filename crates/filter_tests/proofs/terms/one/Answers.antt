use Rattle.std.proofs.Common.{[], ◌∷◌}
use Rattle.clip_term.specs.Terms.{AreSoundTerms}
use Rattle.clip_reference.specs.Sources.{HaveSources}
use Rattle.filter_tests.proofs.BuiltLemmas.{sound_by, sources_by, filter_has}
use Rattle.filter_tests.proofs.terms.one.Goals as goal

pub returns-clause-sound : goal.returns-clause-sound
unfolding AreSoundTerms
returns-clause-sound c =
    sound_by _ (c.args.input ∷ []) c.in_ok-inputs.ensures.items c.requires.op (c.requires.sound, tt)

pub returns-clause-sources : goal.returns-clause-sources
unfolding HaveSources
returns-clause-sources c =
    sources_by c.args.book.now _ (c.args.input ∷ []) c.in_ok-inputs.ensures.items
    (filter_has c.args.book.now _ c.requires.filter)
    (c.requires.sources, tt)
