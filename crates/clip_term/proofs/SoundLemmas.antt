-- The info of a sound clip is lawful.
use Rattle.std.proofs.Common.{◌≡◌, ℕ, List, [], ◌∷◌, length, refl, ap, sym, arith, Result, Ok, Err, subst}
use Rattle.std.proofs.lemmas.Grind.{common_steps}
use Rattle.fv_plane.specs.declared.format.Info.{Info}
use Rattle.fv_plane.specs.Info.{IsLawful}
use Rattle.clip_term.specs.declared.fault.FilterFault.{FilterFault}
use Rattle.clip_term.specs.Terms.{Act, applied, ClipTerms, no_terms, and_term, then_check, info_of, infos_of, inputs_of, IsSound, IsSoundTerm, AreSoundTerms, AreLawful, SoundLawful}
use Rattle.clip_term.proofs.PassedLemmas.{both_ok}
use Rattle.clip_term.proofs.LawfulLemmas.{checks_lawful}

pub counted : (row : ClipTerms) (infos : List Info) → infos_of row ≡ Ok infos → inputs_of row ≡ length infos
unfolding infos_of
counted no_terms infos e = let same : [] ≡ infos = cc in ap length same
counted (and_term term rest) infos e =
    let both = both_ok (info_of term) (infos_of rest) infos e in
    let later = counted rest both.others both.others_are in
    let same = ap length both.whole in
    omega arith

told_lawful : (op : Act) (row : ClipTerms) (told : Result (List Info) FilterFault) (info : Info) → infos_of row ≡ told → IsSound op (inputs_of row)
    → ((infos : List Info) → infos_of row ≡ Ok infos → AreLawful infos) → then_check op told ≡ Ok info → IsLawful info
told_lawful op row (Err fault) info e sound each f = cc
told_lawful op row (Ok infos) info e sound each f = checks_lawful op infos info (subst (λ (k : ℕ). IsSound op k) (counted row infos e) sound) (each infos e) f

none_lawful : (infos : List Info) → infos ≡ [] → AreLawful infos
none_lawful infos e i h = absurd (let few = ap length e in omega arith)

more_lawful : (first : Info) (others infos : List Info) → first ∷ others ≡ infos → IsLawful first → AreLawful others → AreLawful infos
more_lawful first others infos e here later g h = grind (arith, common_steps)

mutual
  unfolding info_of infos_of IsSoundTerm AreSoundTerms

  pub sound_lawful : SoundLawful
  sound_lawful (applied op inputs) info sound e = told_lawful op inputs (infos_of inputs) info refl sound.0 (λ infos f. sounds_lawful inputs infos sound.1 f) e

  pub sounds_lawful : (row : ClipTerms) (infos : List Info) → AreSoundTerms row → infos_of row ≡ Ok infos → AreLawful infos
  sounds_lawful no_terms infos sound e = none_lawful infos (let same : [] ≡ infos = cc in sym same)
  sounds_lawful (and_term term rest) infos sound e =
      let both = both_ok (info_of term) (infos_of rest) infos e in
      more_lawful both.first both.others infos both.whole (sound_lawful term both.first sound.0 both.first_is) (sounds_lawful rest both.others sound.1 both.others_are)
