-- Terms that were built.
use Rattle.std.proofs.Common.{◌≡◌, List, length, map}
use Rattle.fv_plane.specs.Picture.{Picture}
use Rattle.clip_term.specs.declared.term.Term.{Term, roll-Term}
use Rattle.clip_term.specs.declared.term.Term.TheOpen.{Term-F}
use Rattle.clip_term.specs.declared.term.Term.TheFolds.{fold-roll-Term}
use Rattle.clip_term.specs.Terms.{Act, source, plain, time, space, joined, soft, fields, choice, ClipTerm, applied, act_of, term_of, term_step, clips, IsSound, IsSoundTerm, AreSoundTerms}
use Rattle.clip_reference.specs.Ready.{IsFilter}
use Rattle.clip_reference.specs.Sources.{HasSource, HasSources, HaveSources}
use Rattle.clip_reference.proofs.TermLemmas.{inputs_counted}

built : (term : Term-F Term) → term_of (roll-Term term) ≡ applied (act_of term.op) (clips (map term_of term.inputs.items))
unfolding term_of
built term = fold-roll-Term ClipTerm term_step term

pub sound_by : (term : Term-F Term) (ts : List Term) → term.inputs.items ≡ ts → IsSound (act_of term.op) (length ts) → AreSoundTerms (clips (map term_of ts)) → IsSoundTerm (term_of (roll-Term term))
unfolding IsSoundTerm
sound_by term ts e op inputs = rw (built term, e, inputs_counted ts) (op, inputs)

pub sources_by : (book : List (List Picture)) (term : Term-F Term) (ts : List Term) → term.inputs.items ≡ ts → HasSource book (act_of term.op) → HaveSources book (clips (map term_of ts))
    → HasSources book (term_of (roll-Term term))
unfolding HasSources
sources_by book term ts e op inputs = rw (built term, e) (op, inputs)

-- a filter asks nothing of a book itself
pub filter_has : (book : List (List Picture)) (op : Act) → IsFilter op → HasSource book op
filter_has book (source name number info) filter = absurd filter
filter_has book (plain info colour) filter = tt
filter_has book (time op) filter = tt
filter_has book (space op) filter = tt
filter_has book (joined op) filter = tt
filter_has book (soft op) filter = tt
filter_has book (fields op) filter = tt
filter_has book (choice op) filter = tt
